use Rattle.sync_typing_places.specs.Places.{env_of}
use Rattle.sync_typing_places.proofs.Placing.{own_holds, stays}
use Rattle.sync_typing_places.proofs.places.Place.read.Goals as goal

pub returns-clause-made : goal.returns-clause-made
returns-clause-made c =
    c.made.ensures _ _ (c.read_term.ensures.built (env_of c.args.terms.now c.args.self.now) (own_holds c.args.terms.now c.args.self.now c.requires.own))

pub returns-clause-stays : goal.returns-clause-stays
returns-clause-stays c = stays c.args.terms.now _ c.args.self.now c.read_term.ensures.keeps c.requires.own
