use Rattle.sync_thread_meaning.proofs.FinalHands.{final_takes_all}
use Rattle.sync_thread_meaning.proofs.final_takes_all.Goals as goal

pub returns : goal.returns
returns c = final_takes_all
