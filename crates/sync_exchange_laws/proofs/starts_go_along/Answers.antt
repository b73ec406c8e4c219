use Rattle.sync_exchange_laws.proofs.Starting.{starts-go-along}
use Rattle.sync_exchange_laws.proofs.starts_go_along.Goals as goal

pub returns : goal.returns
returns c = starts-go-along
