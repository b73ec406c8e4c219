use Rattle.sync_typing_rows.proofs.KeepRows.{keep_rows_go_on}
use Rattle.sync_typing_rows.proofs.keep_rows_go_on.Goals as goal

pub returns : goal.returns
returns g c = keep_rows_go_on g.T.Meant.meanings
