use Rattle.sync_exchange_laws.proofs.Handling.{moves-keep-permissions}
use Rattle.sync_exchange_laws.proofs.moves_keep_permissions.Goals as goal

pub returns : goal.returns
returns c = moves-keep-permissions
