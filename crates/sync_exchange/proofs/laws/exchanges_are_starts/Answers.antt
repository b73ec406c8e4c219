use Rattle.sync_exchange.proofs.Projecting.{initialises}
use Rattle.sync_exchange.proofs.laws.exchanges_are_starts.Goals as goal

pub returns : goal.returns
returns c = initialises
