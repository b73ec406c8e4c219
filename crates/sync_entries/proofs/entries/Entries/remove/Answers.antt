use Rattle.std.proofs.Common.{◌≡◌, ℤ, sym, ap, subst, ◌∙◌, to_z, of_z}
use Rattle.std.proofs.lemmas.Int.{to_z-of_z}
use Rattle.std.specs.Int.{w128}
use Rattle.std.specs.FinMap as finmap
use Rattle.std.specs.Map.{lookup}
use Rattle.std.specs.Ordering.{int_eq}
use Rattle.sync_entries.specs.Narrow.{Map, HasNarrowValues}
use Rattle.sync_entries.proofs.Lookups.{map_in, get-map_in, map_in-del}
use Rattle.sync_entries.proofs.Narrowing.{narrow-del}
use Rattle.sync_entries.proofs.entries.Entries.remove.Goals as goal

pub returns-clause-value : goal.returns-clause-value
returns-clause-value c =
    let es = c.self.inside.map.entries in
    let k : to_z w128 (of_z w128 c.args.key) ≡ c.args.key = to_z-of_z w128 c.args.key c.ranges.key in
    c.remove.ensures.value
    ∙ ap (λ (q : ℤ). lookup (int_eq q) es) k
    ∙ sym (get-map_in es c.args.key)
    ∙ ap (λ (m : Map). finmap.get m c.args.key) c.self.view_is

pub returns-clause-gone : goal.returns-clause-gone
returns-clause-gone c =
    let key = to_z w128 (of_z w128 c.args.key) in
    let k : key ≡ c.args.key = to_z-of_z w128 c.args.key c.ranges.key in
    map_in-del c.self.inside.map.entries c.remove.new.self.entries key (λ q. c.remove.ensures.updates.0 q)
    ∙ ap (λ (m : Map). finmap.remove m key) c.self.view_is
    ∙ ap (λ (q : ℤ). finmap.remove c.args.self.now q) k

pub invariant_of-self : goal.invariant_of-self
invariant_of-self c =
    let key = to_z w128 (of_z w128 c.args.key) in
    subst HasNarrowValues (sym (map_in-del c.self.inside.map.entries c.remove.new.self.entries key (λ q. c.remove.ensures.updates.0 q)))
    (narrow-del (map_in c.self.inside.map.entries) key c.self.invariant)
