use Rattle.sync_exchange.proofs.Projecting.{reads-no-state}
use Rattle.sync_exchange.proofs.laws.plain_operations_read_no_state.Goals as goal

pub returns : goal.returns
returns c = reads-no-state
