use Rattle.sync_exchange.proofs.Projecting.{projects}
use Rattle.sync_exchange.proofs.laws.exchanges_are_steps.Goals as goal

pub returns : goal.returns
returns c = projects
