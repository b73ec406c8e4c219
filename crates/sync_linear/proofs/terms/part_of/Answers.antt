use Rattle.std.proofs.Common.{rules, ◌≡◌, ℤ, sym, subst}
use Rattle.std.specs.Prelude.{FitsSigned, ◌*ℤ◌}
use Rattle.std.specs.Int.{w128}
use Rattle.std.proofs.lemmas.Int.{to_z-of_z}
use Rattle.sync_terms.specs.Stored.{tree}
use Rattle.sync_linear.specs.declared.leaves.Leaf.{Leaf}
use Rattle.sync_linear.specs.declared.terms.Rest.{Rest}
use Rattle.sync_linear.specs.Leaves.{number_of, scaled_leaf, leaf_line}
use Rattle.sync_linear.specs.Forms.{Narrow}
use Rattle.sync_linear.specs.Stores.{IsLineOf}
use Rattle.sync_linear.specs.Parts.{completed}
use Rattle.sync_linear.proofs.Multiples.{multiple_is}
use Rattle.sync_linear.proofs.terms.part_of.Goals as goal

pub returns-in-Some : goal.returns-in-Some
returns-in-Some c =
    let s = c.args.terms.now in
    let first = c.in-Under.first in
    let times = c.in-Times.times in
    let fits : FitsSigned w128 times = search rules in
    let same = to_z-of_z w128 times fits in
    let e = subst (λ (r : Rest). tree s c.args.t ≡ completed s r (tree s first)) c.in-Times.is c.in-Under.ensures.0 in
    let n = c.in-Some.ensures in
    let f = subst (λ (z : ℤ). FitsSigned w128 (z *ℤ number_of c.in-Alone.leaf)) same n.0 in
    let l = subst (λ (z : ℤ). c.in-Some.leaf ≡ scaled_leaf z c.in-Alone.leaf) same n.1 in
    subst (λ (x : Leaf). IsLineOf s (tree s c.args.t) (leaf_line x) × Narrow (tree s c.args.t)) (sym l)
    (multiple_is s c.args.t first times c.in-Alone.leaf e c.in-Alone.ensures f)
