use Rattle.sync_exchange_laws.proofs.Starting.{conditions-make-starts}
use Rattle.sync_exchange_laws.proofs.conditions_make_starts.Goals as goal

pub returns : goal.returns
returns c = conditions-make-starts
