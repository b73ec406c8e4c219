use Rattle.std.proofs.Common.{◌≡◌, ℕ, List, length, cond, nat_eq, Some, sym, subst, ◌∙◌, arith}
use Rattle.std.specs.Prelude.{reverse}
use Rattle.std.specs.HashMap.{get}
use Rattle.std.proofs.lemmas.List.{length-map, length-reverse}
use Rattle.sync_typing_ledgers.specs.declared.ledgers.Step.{Step}
use Rattle.sync_typing_ledgers.specs.Entries.{newest}
use Rattle.sync_typing_ledgers.specs.Steps.{entry_of, entries_of, HideOlder}
use Rattle.sync_typing_ledgers.proofs.Hiding.{turned, places_push, after_push}
use Rattle.sync_typing_ledgers.proofs.ledgers.Ledger.push.Goals as goal

pub invariant_of-self-2 : goal.invariant_of-self-2
invariant_of-self-2 c =
    let xs = c.self.inside.steps.items in
    let ss = reverse xs in
    let k = c.args.key in
    let s : Step = record { key = k; value = c.args.value; hidden = c.in_ok-hidden.hidden } in
    let at : c.len-at.result ≡ length (entries_of ss) = omega (arith, c.len-at.ensures, c.self.inside.steps.ok.0, length-map ss entry_of, length-reverse xs) in
    let updates = subst (λ (p : ℕ). (q : ℕ) → get nat_eq c.insert.new.self q ≡ cond (nat_eq k q) (Some (record { at = p; value = c.args.value })) (get nat_eq c.self.inside.places q)) at c.in_ok-hidden.ensures.updates.0 in
    subst (λ (ys : List Step). ((n : ℕ) → get nat_eq c.insert.new.self n ≡ newest n (entries_of (reverse ys))) × HideOlder (reverse ys))
    (sym (after_push c.push-pushed.result c.unwrap.result c.push-pushed.new.self.items c.reserve.new.self.items xs s c.unwrap.ensures c.push-pushed.ensures.items c.reserve.ensures.items))
    (subst (λ (ys : List Step). ((n : ℕ) → get nat_eq c.insert.new.self n ≡ newest n (entries_of ys)) × HideOlder ys) (sym (turned xs s)) (
      places_push ss s (λ (m : ℕ). get nat_eq c.self.inside.places m) (λ (m : ℕ). get nat_eq c.insert.new.self m) c.self.invariant.0 updates,
      (c.in_ok-hidden.ensures.old ∙ c.self.invariant.0 k, c.self.invariant.1),
    ))
