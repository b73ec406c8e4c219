use Rattle.sync_thread_exchanges.proofs.Seeing.{starts-are-seen}
use Rattle.sync_thread_exchanges.proofs.starts_are_seen.Goals as goal

pub returns : goal.returns
returns c = starts-are-seen
