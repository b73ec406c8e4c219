use Rattle.sync_exchange_laws.proofs.Substituting.{exchanges-of-terms-follow}
use Rattle.sync_exchange_laws.proofs.exchanges_of_terms_follow.Goals as goal

pub returns : goal.returns
returns c = exchanges-of-terms-follow
