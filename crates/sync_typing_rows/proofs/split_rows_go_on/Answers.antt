use Rattle.sync_typing_rows.proofs.SplitRows.{split_rows_go_on}
use Rattle.sync_typing_rows.proofs.split_rows_go_on.Goals as goal

pub returns : goal.returns
returns g c = split_rows_go_on g.T.Meant.meanings
