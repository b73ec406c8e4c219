use Rattle.std.proofs.Common.{◌≡◌, ℤ, sym, ap, subst, ◌∙◌, to_z, of_z}
use Rattle.std.proofs.lemmas.Int.{to_z-of_z}
use Rattle.std.specs.Int.{w128}
use Rattle.std.specs.FinMap as finmap
use Rattle.std.specs.Map.{lookup}
use Rattle.std.specs.Ordering.{int_eq}
use Rattle.sync_entries.specs.Narrow.{Map, HasNarrowValues}
use Rattle.sync_entries.proofs.Lookups.{get-map_in}
use Rattle.sync_entries.proofs.entries.Entries.get.Goals as goal

pub returns-clause-value : goal.returns-clause-value
returns-clause-value c =
    let es = c.self.inside.map.entries in
    let k : to_z w128 (of_z w128 c.args.key) ≡ c.args.key = to_z-of_z w128 c.args.key c.ranges.key in
    c.copied.ensures ∙ c.get.ensures.value
    ∙ ap (λ (q : ℤ). lookup (int_eq q) es) k
    ∙ sym (get-map_in es c.args.key)
    ∙ ap (λ (m : Map). finmap.get m c.args.key) c.self.view_is

pub returns-clause-narrow : goal.returns-clause-narrow
returns-clause-narrow c = subst HasNarrowValues c.self.view_is c.self.invariant
