use Rattle.std.proofs.Common.{◌≡◌, pos, arith, to_z}
use Rattle.std.proofs.lemmas.Int.{ints}
use Rattle.std.proofs.lemmas.Result.{err_from_is_err_and}
use Rattle.std.specs.Int.{w128}
use Rattle.sync_terms.specs.Stored.{tree}
use Rattle.sync_terms.proofs.Extending.{Extends-trans}
use Rattle.sync_typing_places.proofs.Binding.{bounds_all, high_stops, low_stops}
use Rattle.sync_typing_places.proofs.places.bounds_made.Goals as goal

pub returns-in_err-low-clause-made : goal.returns-in_err-low-clause-made
returns-in_err-low-clause-made c =
    let q = err_from_is_err_and c.from_residual.result c.from_residual.ensures.1 in
    low_stops c.low_made.new.terms c.args.line (tree c.args.terms.now c.args.term) (pos c.args.high) c.from_residual.result c.in_err-low.field-0.0
    (cc) c.in_err-low.ensures.made

pub returns-in_err-high-clause-made : goal.returns-in_err-high-clause-made
returns-in_err-high-clause-made c =
    let q = err_from_is_err_and c.from_residual-in_err-high.result c.from_residual-in_err-high.ensures.1 in
    let number : to_z w128 c.args.high ≡ pos c.args.high = omega (arith, ints) in
    high_stops c.high_made.new.terms c.args.line (tree c.low_made.new.terms c.args.term) (tree c.args.terms.now c.args.term)
    (to_z w128 c.args.high) (pos c.args.high) (c.low_made.ensures.keeps.terms c.args.term c.requires.term).1 number
    c.from_residual-in_err-high.result c.in_err-high.field-0.0 (cc) c.in_err-high.ensures.made

pub returns-in_err-high-clause-keeps : goal.returns-in_err-high-clause-keeps
returns-in_err-high-clause-keeps c = Extends-trans c.low_made.ensures.keeps c.high_made.ensures.keeps

pub returns-clause-made : goal.returns-clause-made
returns-clause-made c =
    let number : to_z w128 c.args.high ≡ pos c.args.high = omega (arith, ints) in
    bounds_all c.low_made.new.terms c.high_made.new.terms c.args.term (tree c.args.terms.now c.args.term) (to_z w128 c.args.high) (pos c.args.high)
    c.in_ok-low.low c.in_ok-high.high (c.low_made.ensures.keeps.terms c.args.term c.requires.term).1 number c.high_made.ensures.keeps
    c.in_ok-low.ensures.made.0 c.in_ok-low.ensures.made.1 c.in_ok-high.ensures.made.0

pub returns-clause-keeps : goal.returns-clause-keeps
returns-clause-keeps c = Extends-trans c.low_made.ensures.keeps c.high_made.ensures.keeps
