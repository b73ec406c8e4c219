use Rattle.sync_typing.proofs.DuesInOrder.{dues_go_on}
use Rattle.sync_typing.proofs.dues_go_on.Goals as goal

pub returns : goal.returns
returns c = dues_go_on
