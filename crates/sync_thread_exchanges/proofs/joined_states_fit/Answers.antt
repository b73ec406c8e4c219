use Rattle.sync_thread_exchanges.proofs.Seeing.{joined-states-fit}
use Rattle.sync_thread_exchanges.proofs.joined_states_fit.Goals as goal

pub returns : goal.returns
returns c = joined-states-fit
