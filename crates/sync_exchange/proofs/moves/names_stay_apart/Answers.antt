use Rattle.sync_exchange.proofs.MovesNamed.{names-stay-apart}
use Rattle.sync_exchange.proofs.moves.names_stay_apart.Goals as goal

pub returns : goal.returns
returns c = names-stay-apart
