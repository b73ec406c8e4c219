use Rattle.sync_exchange_laws.proofs.Along.{exchanges-go-along}
use Rattle.sync_exchange_laws.proofs.exchanges_go_along.Goals as goal

pub returns : goal.returns
returns c = exchanges-go-along
