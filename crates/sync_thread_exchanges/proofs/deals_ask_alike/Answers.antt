use Rattle.sync_thread_exchanges.proofs.OwingVariables.{deals-ask-alike}
use Rattle.sync_thread_exchanges.proofs.deals_ask_alike.Goals as goal

pub returns : goal.returns
returns c = deals-ask-alike
