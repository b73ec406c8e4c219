use Rattle.sync_exchange_laws.proofs.Agreeing.{starts-go-by-any}
use Rattle.sync_exchange_laws.proofs.starts_go_by_any.Goals as goal

pub returns : goal.returns
returns c = starts-go-by-any
