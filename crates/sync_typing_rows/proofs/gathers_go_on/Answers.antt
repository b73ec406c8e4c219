use Rattle.sync_typing_rows.proofs.Gathering.{gathers_go_on}
use Rattle.sync_typing_rows.proofs.gathers_go_on.Goals as goal

pub returns : goal.returns
returns c = gathers_go_on
