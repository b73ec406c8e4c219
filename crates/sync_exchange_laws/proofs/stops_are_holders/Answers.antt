use Rattle.sync_exchange_laws.proofs.Progressing.{stops-are-holders}
use Rattle.sync_exchange_laws.proofs.stops_are_holders.Goals as goal

pub returns : goal.returns
returns c = stops-are-holders
