use Rattle.sync_typing_places.specs.Places.{env_of}
use Rattle.sync_typing_places.proofs.Placing.{own_holds}
use Rattle.sync_typing_places.proofs.places.Place.has_names_of.Goals as goal

pub returns : goal.returns
returns c =
    c.has_names_of.ensures (env_of c.args.terms.now c.args.self.now) (own_holds c.args.terms.now c.args.self.now c.requires.own)
