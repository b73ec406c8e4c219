use Rattle.std.proofs.Common.{◌≡◌, ℕ, suc, ◌+◌, ◌∷◌, length, Some, ap, subst, ◌∙◌, arith}
use Rattle.std.proofs.lemmas.Option.{same_Some}
use Rattle.sync_terms.specs.Stored.{IsTerm}
use Rattle.sync_typing_places.specs.declared.hands.Token.{Token}
use Rattle.sync_typing_places.proofs.Holding.{holds_token, ids_token}
use Rattle.sync_typing_places.proofs.Beginning.{on_ok}
use Rattle.sync_typing_places.proofs.hands.Hand.hold.Goals as goal

pub returns-clause-holds : goal.returns-clause-holds
returns-clause-holds c =
    let h = c.args.self.now in
    let v : c.len-place.result + 1 ≡ suc (length h.tokens.items) = omega (arith, c.len-place.ensures) in
    let places = c.in_ok-push-2.ensures.ok
    ∙ ap (λ (n : ℕ). record h.places { entries = record { key = c.args.number; value = n } ∷ h.places.entries }) v in
    on_ok c.say_held.result _ _
    (λ named s terms hand holds. holds_token s h _ terms hand c.requires.whole holds c.args.number (Some c.args.token) named places c.in_ok-push.ensures.items) c.say_held.ensures

pub returns-clause-ids : goal.returns-clause-ids
returns-clause-ids c =
    let h = c.args.self.now in
    let v : c.len-place.result + 1 ≡ suc (length h.tokens.items) = omega (arith, c.len-place.ensures) in
    let places = c.in_ok-push-2.ensures.ok
    ∙ ap (λ (n : ℕ). record h.places { entries = record { key = c.args.number; value = n } ∷ h.places.entries }) v in
    on_ok c.say_held.result _ _
    (λ named s stored ids. ids_token s h _ c.requires.whole ids c.args.number (Some c.args.token)
    (λ u e. subst (λ (t : Token). IsTerm s t.key × IsTerm s t.value) (same_Some c.args.token u e) stored) named places c.in_ok-push.ensures.items) c.say_held.ensures
