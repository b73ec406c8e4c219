use Rattle.std.proofs.Common.{refl}
use Rattle.sync_typing_places.proofs.places.Place.mark.Goals as goal

pub returns : goal.returns
returns c = record { hand = c.mark.ensures; facts = c.len.ensures; fresh = refl }
