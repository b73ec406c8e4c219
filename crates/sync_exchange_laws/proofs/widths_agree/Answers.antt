use Rattle.sync_exchange_laws.proofs.Widening.{widths-agree}
use Rattle.sync_exchange_laws.proofs.widths_agree.Goals as goal

pub returns : goal.returns
returns c = widths-agree
