use Rattle.sync_exchange_laws.proofs.Ending.{exchanges-meet-conditions}
use Rattle.sync_exchange_laws.proofs.exchanges_meet_conditions.Goals as goal

pub returns : goal.returns
returns c = exchanges-meet-conditions
