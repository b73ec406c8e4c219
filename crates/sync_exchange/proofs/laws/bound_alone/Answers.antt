use Rattle.sync_exchange.proofs.Widening.{bound-alone}
use Rattle.sync_exchange.proofs.laws.bound_alone.Goals as goal

pub returns : goal.returns
returns c = bound-alone
