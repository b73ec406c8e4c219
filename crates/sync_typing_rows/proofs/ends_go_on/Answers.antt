use Rattle.sync_typing_rows.proofs.Ending.{ends_go_on}
use Rattle.sync_typing_rows.proofs.ends_go_on.Goals as goal

pub returns : goal.returns
returns g c = ends_go_on g.T.Meant.meanings
