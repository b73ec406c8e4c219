use Rattle.sync_thread_meaning.proofs.Staying.{no_token_is_lost}
use Rattle.sync_thread_meaning.proofs.no_token_is_lost.Goals as goal

pub returns : goal.returns
returns c = no_token_is_lost
