use Rattle.sync_thread_exchanges.proofs.Seeing.{sights-agree}
use Rattle.sync_thread_exchanges.proofs.sights_agree.Goals as goal

pub returns : goal.returns
returns c = sights-agree
