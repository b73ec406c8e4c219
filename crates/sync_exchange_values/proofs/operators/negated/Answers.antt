use Rattle.std.proofs.Common.{not, ap}
use Rattle.sync_exchange_values.proofs.Evaluating.{stop_at, got}
use Rattle.sync_exchange_values.proofs.operators.negated.Goals as goal

pub returns-in-Err : goal.returns-in-Err
returns-in-Err c = λ x f p. stop_at c.args.truth c.in-Err.stop x (not x) f f c.in-Err.is (λ e. e) p

pub returns-in-Ok : goal.returns-in-Ok
returns-in-Ok c = λ x f p. let a = got c.args.truth c.in-Ok.truth x f c.in-Ok.is p in (ap not a.0, a.1)
