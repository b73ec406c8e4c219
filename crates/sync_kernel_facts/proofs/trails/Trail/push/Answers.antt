use Rattle.std.proofs.Common.{◌≡◌, ℕ, List, length, ◌++◌, [], ◌∷◌, cond, Option, Some, None, refl, sym, ap, subst, ◌∙◌, arith}
use Rattle.std.specs.HashMap.{get}
use Rattle.sync_kernel_facts.specs.declared.literals.Literal.{Literal}
use Rattle.sync_kernel_facts.specs.Literals.{same_literal}
use Rattle.sync_kernel_facts.specs.Trails.{first_place}
use Rattle.sync_kernel_facts.proofs.Stacking.{after_push}
use Rattle.sync_kernel_facts.proofs.Trailing.{places_new, places_again, places_none}
use Rattle.sync_kernel_facts.proofs.trails.Trail.push.Goals as goal
use Rattle.sync_kernel_facts.proofs.trails.Trail.push.Goals.{in-Some+then-not-contains_key+in_ok-insert, in-Some+else-not-contains_key, in_default}

-- the places behind it, of the entry that was added
added : (new es xs : List (Option Literal)) (e f : Option Literal) (q : Literal) (o : Option ℕ) → new ≡ xs ++ e ∷ [] → xs ≡ es → e ≡ f → o ≡ first_place 0 q (es ++ f ∷ []) → o ≡ first_place 0 q new
added new es xs e f q o is was same h =
    h ∙ sym (ap (first_place 0 q) (is ∙ ap (λ (ys : List (Option Literal)). ys ++ e ∷ []) was ∙ ap (λ (x : Option Literal). es ++ x ∷ []) same))

pub invariant_of-self-2 : goal.invariant_of-self-2
invariant_of-self-2 c = λ q.
    (let es = c.self.inside.entries.items in
    let e = c.match-entry.entry in
    let new = c.push-pushed.new.self.items in
    let xs = c.match-entry.self-inside.entries.items in
    let is = after_push c.push-pushed.result c.unwrap.result new xs xs e c.unwrap.ensures c.push-pushed.ensures.items refl in
    let old = get same_literal c.self.inside.places in
    elim c.match-entry.branch [
      | in-Some+then-not-contains_key+in_ok-insert w ↦
          (let l = w.in-Some.literal in
          let place : c.len-place.result ≡ length es = omega (arith, c.len-place.ensures, c.self.inside.entries.ok.0) in
          added new es xs e (Some l) q (get same_literal c.match-entry.self-inside.places q) is (ap (λ i. i.entries.items) w.self-inside-is ∙ c.reserve.ensures.items) w.entry-is
          (ap (λ i. get same_literal i.places q) w.self-inside-is
          ∙ places_new es l old (get same_literal w.insert.new.self) c.self.invariant (sym w.contains_key.ensures ∙ w.if-not-contains_key.true)
          (subst (λ (p : ℕ). (x : Literal) → get same_literal w.insert.new.self x ≡ cond (same_literal l x) (Some p) (old x)) place w.in_ok-insert.ensures.updates.0) q))
      | in-Some+else-not-contains_key w ↦
          added new es xs e (Some w.in-Some.literal) q (get same_literal c.match-entry.self-inside.places q) is (ap (λ i. i.entries.items) w.self-inside-is ∙ c.reserve.ensures.items) w.entry-is
          (ap (λ i. get same_literal i.places q) w.self-inside-is ∙ places_again es w.in-Some.literal old old c.self.invariant (sym w.contains_key.ensures ∙ w.if-not-contains_key.false) q)
      | in_default w ↦
          added new es xs e None q (get same_literal c.match-entry.self-inside.places q) is (ap (λ i. i.entries.items) w.self-inside-is ∙ c.reserve.ensures.items) (w.entry-is ∙ w.in_default.is)
          (ap (λ i. get same_literal i.places q) w.self-inside-is ∙ c.self.invariant q ∙ sym (places_none es q))
    ])
