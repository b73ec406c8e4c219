use Rattle.std.proofs.Common.{◌≡◌, ℕ, List, length, ◌++◌, [], ◌∷◌, Option, Some, None, sym, ap, ◌∙◌, arith}
use Rattle.std.specs.HashMap.{get}
use Rattle.sync_kernel_facts.specs.declared.literals.Literal.{Literal}
use Rattle.sync_kernel_facts.specs.Literals.{same_literal}
use Rattle.sync_kernel_facts.specs.Trails.{first_place}
use Rattle.sync_kernel_facts.proofs.Trailing.{places_gone, places_left, places_found, places_none}
use Rattle.sync_kernel_facts.proofs.trails.Trail.pop.Goals as goal

-- the places before, with the last
placed : (old : Literal → Option ℕ) (was es : List (Option Literal)) (e f : Option Literal) → ((q : Literal) → old q ≡ first_place 0 q was) → was ≡ es ++ e ∷ [] → e ≡ f → (q : Literal) → old q ≡ first_place 0 q (es ++ f ∷ [])
placed old was es e f h is same q = h q ∙ ap (first_place 0 q) (is ∙ ap (λ (x : Option Literal). es ++ x ∷ []) same)

pub invariant_of-self-in_default-entry : goal.invariant_of-self-in_default-entry
invariant_of-self-in_default-entry c =
    let es = c.pop.new.self.items in
    λ q. placed (get same_literal c.self.inside.places) c.self.inside.entries.items es c.in-Some.entry None c.self.invariant c.in-Some.ensures.items c.in_default-entry.is q ∙ places_none es q

pub invariant_of-self-then-place-len : goal.invariant_of-self-then-place-len
invariant_of-self-then-place-len c =
    let es = c.pop.new.self.items in
    let l = c.in-Some-entry.literal in
    let old = get same_literal c.self.inside.places in
    places_gone es l old (get same_literal c.remove.new.self)
    (placed old c.self.inside.entries.items es c.in-Some.entry (Some l) c.self.invariant c.in-Some.ensures.items c.in-Some-entry.is)
    (sym c.in-Some-get.ensures.value ∙ ap Some (let at : c.in-Some-get.field-0.now ≡ length es = omega (arith, c.if-place-len.true, c.len.ensures) in at))
    c.remove.ensures.updates.0

pub invariant_of-self-else-place-len : goal.invariant_of-self-else-place-len
invariant_of-self-else-place-len c =
    let es = c.pop.new.self.items in
    let l = c.in-Some-entry.literal in
    let old = get same_literal c.self.inside.places in
    places_left es l old old c.in-Some-get.field-0.now
    (placed old c.self.inside.entries.items es c.in-Some.entry (Some l) c.self.invariant c.in-Some.ensures.items c.in-Some-entry.is)
    (sym c.in-Some-get.ensures.value) (omega (arith, c.if-place-len.false, c.len.ensures))

pub invariant_of-self-in_default-get : goal.invariant_of-self-in_default-get
invariant_of-self-in_default-get c =
    let es = c.pop.new.self.items in
    let l = c.in-Some-entry.literal in
    let old = get same_literal c.self.inside.places in
    absurd (places_found es l old old
    (placed old c.self.inside.entries.items es c.in-Some.entry (Some l) c.self.invariant c.in-Some.ensures.items c.in-Some-entry.is)
    (sym c.in_default-get.ensures.value))
