use Rattle.sync_exchange_laws.proofs.Ways.{permissions-stay}
use Rattle.sync_exchange_laws.proofs.permissions_stay.Goals as goal

pub returns : goal.returns
returns c = permissions-stay
