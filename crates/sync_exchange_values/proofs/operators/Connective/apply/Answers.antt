use Rattle.std.proofs.Common.{◌&&◌}
use Rattle.sync_exchange_values.specs.Steps.{connected}
use Rattle.sync_exchange_values.proofs.Narrowness.{left_false, right_false}
use Rattle.sync_exchange_values.proofs.Evaluating.{stop_at, got, connected_ok}
use Rattle.sync_exchange_values.proofs.operators.Connective.apply.Goals as goal

pub returns-in-Err : goal.returns-in-Err
returns-in-Err c = λ x y f g p q. stop_at c.args.left c.in-Err.stop x (connected c.args.self x y) f (f && g) c.in-Err.is (λ e. left_false f g e) p

pub returns-in-Err-right : goal.returns-in-Err-right
returns-in-Err-right c = λ x y f g p q. stop_at c.args.right c.in-Err-right.stop y (connected c.args.self x y) g (f && g) c.in-Err-right.is (λ e. right_false f g e) q

pub returns-in-Ok-right : goal.returns-in-Ok-right
returns-in-Ok-right c = λ x y f g p q.
    connected_ok c.args.self c.in-Ok.first c.in-Ok-right.second x y c.of.result f g (got c.args.left c.in-Ok.first x f c.in-Ok.is p) (got c.args.right c.in-Ok-right.second y g c.in-Ok-right.is q) c.of.ensures
