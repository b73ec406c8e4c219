use Rattle.sync_typing_laws.proofs.SingleRows.{single_rows_go_on}
use Rattle.sync_typing_laws.proofs.single_rows_go_on.Goals as goal

pub returns : goal.returns
returns g c = single_rows_go_on g.T.Meant.meanings
