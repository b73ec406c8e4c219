use Rattle.sync_thread_exchanges.proofs.Seeing.{names-agree}
use Rattle.sync_thread_exchanges.proofs.names_agree.Goals as goal

pub returns : goal.returns
returns c = names-agree
