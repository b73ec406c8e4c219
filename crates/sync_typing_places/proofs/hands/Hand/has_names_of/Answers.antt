use Rattle.std.proofs.Common.{ℕ, Bool, ap, ◌∙◌}
use Rattle.sync_rules.specs.Locality.{form_names_only}
use Rattle.sync_terms.specs.Stored.{formula}
use Rattle.sync_typing_places.proofs.Holding.{at_hand_is}
use Rattle.sync_typing_places.proofs.hands.Hand.has_names_of.Goals as goal

pub returns : goal.returns
returns c = λ e holds.
    c.form_at_hand.ensures
    ∙ ap (λ (p : ℕ → Bool). form_names_only p (formula c.args.terms.now c.args.id)) (at_hand_is c.args.terms.now c.args.self.now e holds)
