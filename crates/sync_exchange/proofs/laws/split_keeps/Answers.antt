use Rattle.sync_exchange.proofs.Keeping.{split-keeps}
use Rattle.sync_exchange.proofs.laws.split_keeps.Goals as goal

pub returns : goal.returns
returns c = split-keeps
