use Rattle.std.proofs.Common.{refl}
use Rattle.sync_typing_places.specs.Places.{env_of}
use Rattle.sync_typing_places.proofs.places.Place.fresh.Goals as goal

pub returns : goal.returns
unfolding env_of
returns c = λ s. refl
