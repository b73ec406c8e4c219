use Rattle.sync_exchange_laws.proofs.Starting.{starts-follow}
use Rattle.sync_exchange_laws.proofs.starts_follow.Goals as goal

pub returns : goal.returns
returns c = starts-follow
