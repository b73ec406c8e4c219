use Rattle.sync_exchange_laws.proofs.Ways.{first-permissions-stay}
use Rattle.sync_exchange_laws.proofs.first_permissions_stay.Goals as goal

pub returns : goal.returns
returns c = first-permissions-stay
