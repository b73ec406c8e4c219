use Rattle.std.proofs.Common.{◌≡◌, ℕ, ◌+◌, List, length, cond, Some, sym, ap, subst, ◌∙◌, arith}
use Rattle.std.specs.HashMap.{get}
use Rattle.std.proofs.lemmas.List.{length-map}
use Rattle.sync_terms.specs.declared.scripts.HypName.{HypName}
use Rattle.sync_kernel_facts.specs.declared.branches.Held.{Held}
use Rattle.sync_kernel_facts.specs.declared.branches.Said.{Said}
use Rattle.sync_kernel_facts.specs.Branches.{place_from, said_size, capped, equal_names}
use Rattle.sync_kernel_facts.specs.Stacks.{saids, IsStack}
use Rattle.sync_kernel_facts.proofs.Stacking.{places_push, saids_push, stack_push, after_push}
use Rattle.sync_kernel_facts.proofs.branches.Branch.push.Goals as goal

pub invariant_of-self-2 : goal.invariant_of-self-2
invariant_of-self-2 c =
    let hs = c.self.inside.facts.items in
    let x = c.args.said in
    let held : Held = record { said = x; hides = c.in_ok-hides.hides; total = c.saturating_add-total.result } in
    let place : c.len-place.result ≡ length (saids hs) = omega (arith, c.len-place.ensures, c.self.inside.facts.ok.0, length-map hs (λ (y : Held). y.said)) in
    let updates = subst (λ (p : ℕ). (q : HypName) → get equal_names c.insert.new.self q ≡ cond (equal_names x.name q) (Some p) (get equal_names c.self.inside.places q)) place c.in_ok-hides.ensures.updates.0 in
    subst (λ (ys : List Held). ((n : HypName) → get equal_names c.insert.new.self n ≡ place_from 0 n (saids ys)) × IsStack ys)
    (sym (after_push c.push-pushed.result c.unwrap.result c.push-pushed.new.self.items c.reserve.new.self.items hs held c.unwrap.ensures c.push-pushed.ensures.items c.reserve.ensures.items)) (
      λ n. places_push (saids hs) x (λ (m : HypName). get equal_names c.self.inside.places m) (λ (m : HypName). get equal_names c.insert.new.self m) c.self.invariant.0 updates n ∙ ap (place_from 0 n) (sym (saids_push hs held)),
      stack_push hs held c.self.invariant.1 (c.in_ok-hides.ensures.old ∙ c.self.invariant.0 x.name)
          (c.saturating_add-total.ensures ∙ ap (λ (n : ℕ). capped (n + x.size)) (c.size.ensures ∙ ap (λ (ys : List Said). capped (said_size ys)) (sym c.self.view_is))),
    )
