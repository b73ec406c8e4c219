use Rattle.sync_exchange_laws.proofs.Guarding.{properties-show-guards}
use Rattle.sync_exchange_laws.proofs.properties_show_guards.Goals as goal

pub returns : goal.returns
returns c = properties-show-guards
