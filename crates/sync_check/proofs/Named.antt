-- What is known of the item with a number is known of what it is seen as.
use Rattle.std.proofs.lemmas.Option.{slice_get-map}

pub ruleset named = (slice_get-map)
