use Rattle.sync_exchange_laws.proofs.Substituting.{terms-are-exchanged}
use Rattle.sync_exchange_laws.proofs.terms_are_exchanged.Goals as goal

pub returns : goal.returns
returns c = terms-are-exchanged
