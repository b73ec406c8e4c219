use Rattle.std.proofs.Common.{ℕ, Bool, ap, ◌∙◌}
use Rattle.sync_rules.specs.Locality.{names_only}
use Rattle.sync_terms.specs.Stored.{tree}
use Rattle.sync_typing_places.proofs.Holding.{at_hand_is}
use Rattle.sync_typing_places.proofs.hands.Hand.has_names.Goals as goal

pub returns : goal.returns
returns c = λ e holds.
    c.term_at_hand.ensures
    ∙ ap (λ (p : ℕ → Bool). names_only p (tree c.args.terms.now c.args.id)) (at_hand_is c.args.terms.now c.args.self.now e holds)
