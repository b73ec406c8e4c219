use Rattle.sync_exchange_laws.proofs.Progressing.{progresses}
use Rattle.sync_exchange_laws.proofs.exchanges_progress.Goals as goal

pub returns : goal.returns
returns c = progresses
