use Rattle.sync_thread_exchanges.proofs.Seeing.{exchanges-are-seen}
use Rattle.sync_thread_exchanges.proofs.exchanges_are_seen.Goals as goal

pub returns : goal.returns
returns c = exchanges-are-seen
