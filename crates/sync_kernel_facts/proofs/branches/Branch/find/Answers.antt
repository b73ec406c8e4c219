use Rattle.std.proofs.Common.{◌<◌, length, Some, sym, ap, ◌∙◌, arith}
use Rattle.std.proofs.lemmas.List.{length-map, get_or-map}
use Rattle.sync_kernel_facts.specs.declared.branches.Held.{Held}
use Rattle.sync_kernel_facts.specs.Branches.{newest_said}
use Rattle.sync_kernel_facts.specs.Stacks.{saids}
use Rattle.sync_kernel_facts.proofs.Stacking.{found_place, no_place}
use Rattle.sync_kernel_facts.proofs.branches.Branch.find.Goals as goal

pub index-requires : goal.index-requires
index-requires c =
    let hs = c.self.inside.facts.items in
    let p = found_place c.args.name (saids hs) c.in-Some.field-0.now (sym (c.self.invariant.0 c.args.name) ∙ sym c.in-Some.ensures.value) in
    omega (arith, p.0, c.self.inside.facts.ok.0, length-map hs (λ (y : Held). y.said))

pub returns-in-Some : goal.returns-in-Some
returns-in-Some c =
    let hs = c.self.inside.facts.items in
    let p = found_place c.args.name (saids hs) c.in-Some.field-0.now (sym (c.self.invariant.0 c.args.name) ∙ sym c.in-Some.ensures.value) in
    let lt : c.in-Some.field-0.now < length hs = omega (arith, p.0, length-map hs (λ (y : Held). y.said)) in
    sym (ap (newest_said c.args.name) (sym c.self.view_is) ∙ p.1 c.index.result.now.said
    ∙ ap Some (get_or-map (λ (y : Held). y.said) hs c.in-Some.field-0.now c.index.result.now c.index.result.now.said lt) ∙ ap (λ (y : Held). Some y.said) (sym c.index.ensures))

pub returns-in-None : goal.returns-in-None
returns-in-None c =
    sym (ap (newest_said c.args.name) (sym c.self.view_is) ∙ no_place c.args.name (saids c.self.inside.facts.items) (sym (c.self.invariant.0 c.args.name) ∙ sym c.in-None.ensures.value))
