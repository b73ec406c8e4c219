use Rattle.sync_exchange_laws.proofs.Onlys.{stored-is-only}
use Rattle.sync_exchange_laws.proofs.stored_is_only.Goals as goal

pub returns : goal.returns
returns c = stored-is-only
