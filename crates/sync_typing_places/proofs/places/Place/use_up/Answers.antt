use Rattle.std.proofs.Common.{refl}
use Rattle.sync_typing_places.proofs.Placing.{refreshed}
use Rattle.sync_typing_places.proofs.places.Place.use_up.Goals as goal

pub returns-in-Some : goal.returns-in-Some
returns-in-Some c = refreshed c.args.terms.now c.args.self.now _ c.args.count c.requires.own refl refl c.in-Some.ensures.1
