use Rattle.sync_thread.proofs.Telling.{steps_tell}
use Rattle.sync_thread.proofs.laws.steps_tell.Goals as goal

pub returns : goal.returns
returns c = steps_tell
