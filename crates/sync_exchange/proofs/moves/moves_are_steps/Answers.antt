use Rattle.sync_exchange.proofs.Moving.{moves-are-steps}
use Rattle.sync_exchange.proofs.moves.moves_are_steps.Goals as goal

pub returns : goal.returns
returns c = moves-are-steps
