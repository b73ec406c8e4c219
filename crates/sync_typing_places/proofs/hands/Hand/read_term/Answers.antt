use Rattle.std.proofs.Common.{ℕ, ap}
use Rattle.sync_terms.specs.Stored.{tree}
use Rattle.sync_terms.specs.Trees.{Tree, replaced}
use Rattle.sync_terms.proofs.BuildingLemmas.{BuildsTerm-same}
use Rattle.sync_typing_places.proofs.Holding.{stands_is}
use Rattle.sync_typing_places.proofs.hands.Hand.read_term.Goals as goal

pub returns-clause-built : goal.returns-clause-built
returns-clause-built c = λ e holds.
    BuildsTerm-same c.read_term.ensures.built
    (ap (λ (g : ℕ → Tree). replaced g (tree c.args.terms.now c.args.id)) (stands_is c.args.terms.now c.args.self.now e holds))
