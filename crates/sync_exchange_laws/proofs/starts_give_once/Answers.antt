use Rattle.sync_exchange_laws.proofs.Lasting.{starts-give-once}
use Rattle.sync_exchange_laws.proofs.starts_give_once.Goals as goal

pub returns : goal.returns
returns c = starts-give-once
