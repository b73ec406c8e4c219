use Rattle.sync_thread.proofs.StepsAlone.{steps_are_alone}
use Rattle.sync_thread.proofs.laws.steps_are_alone.Goals as goal

pub returns : goal.returns
returns c = steps_are_alone
