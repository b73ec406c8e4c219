use Rattle.sync_exchange_laws.proofs.Widening.{parts-agree}
use Rattle.sync_exchange_laws.proofs.parts_agree.Goals as goal

pub returns : goal.returns
returns c = parts-agree
