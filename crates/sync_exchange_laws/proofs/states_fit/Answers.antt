use Rattle.sync_exchange_laws.proofs.Joining.{states-fit}
use Rattle.sync_exchange_laws.proofs.states_fit.Goals as goal

pub returns : goal.returns
returns c = states-fit
