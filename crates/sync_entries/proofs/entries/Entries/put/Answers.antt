use Rattle.std.proofs.Common.{◌≡◌, ℤ, List, sym, ap, subst, ◌∙◌, to_z, of_z}
use Rattle.std.specs.Prelude.{FitsSigned}
use Rattle.std.proofs.lemmas.Int.{to_z-of_z}
use Rattle.std.specs.Int.{w128}
use Rattle.std.specs.FinMap as finmap
use Rattle.sync_entries.specs.Narrow.{Map, HasNarrowValues}
use Rattle.sync_entries.proofs.Lookups.{map_in, map_in-put}
use Rattle.sync_entries.proofs.Narrowing.{narrow-put}
use Rattle.sync_entries.proofs.entries.Entries.put.Goals as goal

pub returns-clause-ok : goal.returns-clause-ok
returns-clause-ok c =
    let key = to_z w128 (of_z w128 c.args.key) in
    let value = to_z w128 (of_z w128 c.args.value) in
    let k : key ≡ c.args.key = to_z-of_z w128 c.args.key c.ranges.key in
    let v : value ≡ c.args.value = to_z-of_z w128 c.args.value c.ranges.value in
    map_in-put c.self.inside.map.entries c.insert.new.self.entries key value (λ q. c.in_ok-insert.ensures.updates.0 q)
    ∙ ap (λ (m : Map). finmap.insert m key value) c.self.view_is
    ∙ ap (λ (q : ℤ). finmap.insert c.args.self.now q value) k
    ∙ ap (λ (w : ℤ). finmap.insert c.args.self.now c.args.key w) v

pub invariant_of-self : goal.invariant_of-self
invariant_of-self c = subst (λ (es : List (ℤ × ℤ)). HasNarrowValues (map_in es)) (sym c.in_err-insert.ensures.err) c.self.invariant

pub invariant_of-self-2 : goal.invariant_of-self-2
invariant_of-self-2 c =
    let key = to_z w128 (of_z w128 c.args.key) in
    let value = to_z w128 (of_z w128 c.args.value) in
    let v : value ≡ c.args.value = to_z-of_z w128 c.args.value c.ranges.value in
    let fits : FitsSigned w128 value = subst (FitsSigned w128) (sym v) c.ranges.value in
    subst HasNarrowValues (sym (map_in-put c.self.inside.map.entries c.insert.new.self.entries key value (λ q. c.in_ok-insert.ensures.updates.0 q)))
    (narrow-put (map_in c.self.inside.map.entries) key value c.self.invariant fits)
