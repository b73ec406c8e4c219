use Rattle.sync_machine.proofs.Tests.{conditions-are-tests}
use Rattle.sync_machine.proofs.laws.conditions_are_tests.Goals as goal

pub returns : goal.returns
returns c = conditions-are-tests
