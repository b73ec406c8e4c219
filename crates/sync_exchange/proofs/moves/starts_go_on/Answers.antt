use Rattle.sync_exchange.proofs.MovesStarting.{starts-go-on}
use Rattle.sync_exchange.proofs.moves.starts_go_on.Goals as goal

pub returns : goal.returns
returns c = starts-go-on
