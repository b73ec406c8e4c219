use Rattle.sync_exchange_laws.proofs.Agreeing.{exchanges-go-by-any}
use Rattle.sync_exchange_laws.proofs.exchanges_go_by_any.Goals as goal

pub returns : goal.returns
returns c = exchanges-go-by-any
