use Rattle.sync_thread_events.proofs.CodeSteps.{steps_are_code_steps}
use Rattle.sync_thread_events.proofs.laws.steps_are_code_steps.Goals as goal

pub returns : goal.returns
returns c = steps_are_code_steps
