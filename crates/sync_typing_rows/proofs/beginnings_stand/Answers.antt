use Rattle.sync_typing_rows.proofs.Beginning.{beginnings_stand}
use Rattle.sync_typing_rows.proofs.beginnings_stand.Goals as goal

pub returns : goal.returns
returns c = beginnings_stand
