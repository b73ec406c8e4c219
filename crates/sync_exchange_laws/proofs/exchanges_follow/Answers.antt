use Rattle.sync_exchange_laws.proofs.Returning.{exchanges-follow}
use Rattle.sync_exchange_laws.proofs.exchanges_follow.Goals as goal

pub returns : goal.returns
returns c = exchanges-follow
