use Rattle.sync_typing_rows.proofs.OthersStay.{others_are_left}
use Rattle.sync_typing_rows.proofs.others_are_left.Goals as goal

pub returns : goal.returns
returns c = others_are_left
