use Rattle.sync_machine.proofs.Tests.{safety-is-a-test}
use Rattle.sync_machine.proofs.laws.safety_is_a_test.Goals as goal

pub returns : goal.returns
returns c = safety-is-a-test
