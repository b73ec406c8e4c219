use Rattle.sync_exchange_laws.proofs.Lasting.{runs-keep-permissions}
use Rattle.sync_exchange_laws.proofs.runs_keep_permissions.Goals as goal

pub returns : goal.returns
returns c = runs-keep-permissions
