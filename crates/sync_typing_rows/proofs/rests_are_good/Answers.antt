use Rattle.sync_typing_rows.proofs.NoRaces.{rests_are_good}
use Rattle.sync_typing_rows.proofs.rests_are_good.Goals as goal

pub returns : goal.returns
returns c = rests_are_good
