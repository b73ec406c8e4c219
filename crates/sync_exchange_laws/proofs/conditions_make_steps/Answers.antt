use Rattle.sync_exchange_laws.proofs.Testing.{conditions-make-steps}
use Rattle.sync_exchange_laws.proofs.conditions_make_steps.Goals as goal

pub returns : goal.returns
returns c = conditions-make-steps
