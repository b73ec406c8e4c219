use Rattle.std.proofs.Common.{◌≡◌, ℕ, ◌++◌, [], ◌∷◌, cond, Option, Some, None, sym, ap, subst, ◌∙◌}
use Rattle.std.specs.HashMap.{get, Updates}
use Rattle.sync_terms.specs.declared.scripts.HypName.{HypName}
use Rattle.sync_kernel_facts.specs.Branches.{place_from, equal_names}
use Rattle.sync_kernel_facts.specs.Stacks.{saids, IsStack}
use Rattle.sync_kernel_facts.proofs.Stacking.{places_pop, saids_push, stack_pop, last_hides, last_place, is_ok_from, on_ok}
use Rattle.sync_kernel_facts.proofs.branches.Branch.pop.Goals as goal

pub unwrap-requires : goal.unwrap-requires
unwrap-requires c =
    let hs = c.pop.new.self.items in
    let h = c.in-Some.held in
    let e : c.self.inside.facts.items ≡ hs ++ h ∷ [] = c.in-Some.ensures.items in
    is_ok_from c.insert-put.result (get equal_names c.self.inside.places h.said.name ≡ None) c.insert-put.ensures.absent
    (λ q. last_place (saids hs) h.said (ap (place_from 0 h.said.name) (sym (ap saids e ∙ saids_push hs h)) ∙ sym (c.self.invariant.0 h.said.name) ∙ q))

pub invariant_of-self-in-Some-hides : goal.invariant_of-self-in-Some-hides
invariant_of-self-in-Some-hides c =
    let hs = c.pop.new.self.items in
    let h = c.in-Some.held in
    let e : c.self.inside.facts.items ≡ hs ++ h ∷ [] = c.in-Some.ensures.items in
    let k : IsStack (hs ++ h ∷ []) = subst IsStack e c.self.invariant.1 in
    let u = on_ok c.insert-put.result c.unwrap.result (Updates equal_names c.self.inside.places c.insert-put.new.self h.said.name (Some c.in-Some-hides.place)) c.unwrap.ensures c.insert-put.ensures.updates in
    let is = subst (λ (o : Option ℕ). (q : HypName) → get equal_names c.insert-put.new.self q ≡ cond (equal_names h.said.name q) o (get equal_names c.self.inside.places q)) (sym c.in-Some-hides.is ∙ last_hides hs h k) u.0 in (
      λ n. places_pop (saids hs) h.said (λ (m : HypName). get equal_names c.self.inside.places m) (λ (m : HypName). get equal_names c.insert-put.new.self m)
          (λ m. c.self.invariant.0 m ∙ ap (place_from 0 m) (ap saids e ∙ saids_push hs h)) is n,
      stack_pop hs h k,
    )

pub invariant_of-self-in-None : goal.invariant_of-self-in-None
invariant_of-self-in-None c =
    let hs = c.pop.new.self.items in
    let h = c.in-Some.held in
    let e : c.self.inside.facts.items ≡ hs ++ h ∷ [] = c.in-Some.ensures.items in
    let k : IsStack (hs ++ h ∷ []) = subst IsStack e c.self.invariant.1 in
    let is = subst (λ (o : Option ℕ). (q : HypName) → get equal_names c.remove.new.self q ≡ cond (equal_names h.said.name q) o (get equal_names c.self.inside.places q)) (sym c.in-None.is ∙ last_hides hs h k) c.remove.ensures.updates.0 in (
      λ n. places_pop (saids hs) h.said (λ (m : HypName). get equal_names c.self.inside.places m) (λ (m : HypName). get equal_names c.remove.new.self m)
          (λ m. c.self.invariant.0 m ∙ ap (place_from 0 m) (ap saids e ∙ saids_push hs h)) is n,
      stack_pop hs h k,
    )
