use Rattle.sync_exchange_laws.proofs.Onlys.{permission-is-only}
use Rattle.sync_exchange_laws.proofs.permission_is_only.Goals as goal

pub returns : goal.returns
returns c = permission-is-only
