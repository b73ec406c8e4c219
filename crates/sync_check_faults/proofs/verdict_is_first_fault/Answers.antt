use Rattle.sync_check_faults.proofs.Layers.{first-fault}
use Rattle.sync_check_faults.proofs.verdict_is_first_fault.Goals as goal

pub returns : goal.returns
returns c = first-fault
