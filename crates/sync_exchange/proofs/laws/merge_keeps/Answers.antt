use Rattle.sync_exchange.proofs.Keeping.{merge-keeps}
use Rattle.sync_exchange.proofs.laws.merge_keeps.Goals as goal

pub returns : goal.returns
returns c = merge-keeps
