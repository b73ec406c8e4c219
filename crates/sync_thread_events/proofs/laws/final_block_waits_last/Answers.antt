use Rattle.sync_thread_events.proofs.Schedules.{final_block_waits_last}
use Rattle.sync_thread_events.proofs.laws.final_block_waits_last.Goals as goal

pub returns : goal.returns
returns c = final_block_waits_last
