use Rattle.sync_exchange_laws.proofs.AgreeingNames.{valuations-agree}
use Rattle.sync_exchange_laws.proofs.valuations_agree.Goals as goal

pub returns : goal.returns
returns c = valuations-agree
