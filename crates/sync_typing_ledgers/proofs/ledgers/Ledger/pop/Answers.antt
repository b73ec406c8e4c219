use Rattle.std.proofs.Common.{◌≡◌, ℕ, ◌∷◌, cond, nat_eq, Option, Some, None, sym, ap, subst, ◌∙◌}
use Rattle.std.specs.Prelude.{reverse}
use Rattle.std.specs.HashMap.{get, Updates}
use Rattle.sync_typing_ledgers.specs.declared.ledgers.Place.{Place}
use Rattle.sync_typing_ledgers.specs.Entries.{newest}
use Rattle.sync_typing_ledgers.specs.Steps.{entries_of, HideOlder}
use Rattle.sync_typing_ledgers.proofs.Hiding.{turned, places_pop, newest_there, is_ok_from, on_ok}
use Rattle.sync_typing_ledgers.proofs.ledgers.Ledger.pop.Goals as goal

pub unwrap-requires : goal.unwrap-requires
unwrap-requires c =
    let xs = c.pop.new.self.items in
    let s = c.in-Some.step in
    let e : reverse c.self.inside.steps.items ≡ s ∷ reverse xs = ap reverse c.in-Some.ensures.items ∙ turned xs s in
    is_ok_from c.insert-put.result (get nat_eq c.self.inside.places s.key ≡ None) c.insert-put.ensures.absent
    (λ q. newest_there (reverse xs) s (ap (λ ys. newest s.key (entries_of ys)) (sym e) ∙ sym (c.self.invariant.0 s.key) ∙ q))

pub invariant_of-self-in-Some-hidden : goal.invariant_of-self-in-Some-hidden
invariant_of-self-in-Some-hidden c =
    let xs = c.pop.new.self.items in
    let s = c.in-Some.step in
    let e : reverse c.self.inside.steps.items ≡ s ∷ reverse xs = ap reverse c.in-Some.ensures.items ∙ turned xs s in
    let k : HideOlder (s ∷ reverse xs) = subst HideOlder e c.self.invariant.1 in
    let u = on_ok c.insert-put.result c.unwrap.result (Updates nat_eq c.self.inside.places c.insert-put.new.self s.key (Some c.in-Some-hidden.place)) c.unwrap.ensures c.insert-put.ensures.updates in
    let is = subst (λ (o : Option Place). (q : ℕ) → get nat_eq c.insert-put.new.self q ≡ cond (nat_eq s.key q) o (get nat_eq c.self.inside.places q)) (sym c.in-Some-hidden.is ∙ k.0) u.0 in (
      places_pop (reverse xs) s (λ (m : ℕ). get nat_eq c.self.inside.places m) (λ (m : ℕ). get nat_eq c.insert-put.new.self m)
          (λ m. c.self.invariant.0 m ∙ ap (λ ys. newest m (entries_of ys)) e) is,
      k.1,
    )

pub invariant_of-self-in-None : goal.invariant_of-self-in-None
invariant_of-self-in-None c =
    let xs = c.pop.new.self.items in
    let s = c.in-Some.step in
    let e : reverse c.self.inside.steps.items ≡ s ∷ reverse xs = ap reverse c.in-Some.ensures.items ∙ turned xs s in
    let k : HideOlder (s ∷ reverse xs) = subst HideOlder e c.self.invariant.1 in
    let is = subst (λ (o : Option Place). (q : ℕ) → get nat_eq c.remove.new.self q ≡ cond (nat_eq s.key q) o (get nat_eq c.self.inside.places q)) (sym c.in-None.is ∙ k.0) c.remove.ensures.updates.0 in (
      places_pop (reverse xs) s (λ (m : ℕ). get nat_eq c.self.inside.places m) (λ (m : ℕ). get nat_eq c.remove.new.self m)
          (λ m. c.self.invariant.0 m ∙ ap (λ ys. newest m (entries_of ys)) e) is,
      k.1,
    )
