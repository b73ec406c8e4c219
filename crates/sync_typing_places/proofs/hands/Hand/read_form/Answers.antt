use Rattle.std.proofs.Common.{ℕ, ap}
use Rattle.sync_terms.specs.Stored.{formula}
use Rattle.sync_terms.specs.Trees.{Tree, replaced_in}
use Rattle.sync_terms.proofs.BuildingLemmas.{BuildsForm-same}
use Rattle.sync_typing_places.proofs.Holding.{stands_is}
use Rattle.sync_typing_places.proofs.hands.Hand.read_form.Goals as goal

pub returns-clause-built : goal.returns-clause-built
returns-clause-built c = λ e holds.
    BuildsForm-same c.read_form.ensures.built
    (ap (λ (g : ℕ → Tree). replaced_in g (formula c.args.terms.now c.args.id)) (stands_is c.args.terms.now c.args.self.now e holds))
