use Rattle.sync_exchange_laws.proofs.Starting.{starts-of-terms-follow}
use Rattle.sync_exchange_laws.proofs.starts_of_terms_follow.Goals as goal

pub returns : goal.returns
returns c = starts-of-terms-follow
