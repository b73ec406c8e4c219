use Rattle.sync_check_faults.proofs.Layers.{first-fault-listed}
use Rattle.sync_check_faults.proofs.listing_is_first_fault.Goals as goal

pub returns : goal.returns
returns c = first-fault-listed
