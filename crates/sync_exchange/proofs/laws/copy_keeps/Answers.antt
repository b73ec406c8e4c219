use Rattle.sync_exchange.proofs.Keeping.{copy-keeps}
use Rattle.sync_exchange.proofs.laws.copy_keeps.Goals as goal

pub returns : goal.returns
returns c = copy-keeps
