use Rattle.sync_thread.proofs.CutLogs.{logs_are_cut}
use Rattle.sync_thread.proofs.laws.logs_are_cut.Goals as goal

pub returns : goal.returns
returns c = logs_are_cut
