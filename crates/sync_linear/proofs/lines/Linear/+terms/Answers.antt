use Rattle.std.proofs.Common.{rules, ℤ, ◌<◌, sym, subst}
use Rattle.std.specs.Prelude.{FitsSigned}
use Rattle.std.specs.Int.{w128}
use Rattle.std.proofs.lemmas.Int.{to_z-of_z}
use Rattle.std.proofs.lemmas.Result.{err_from_is_err_and, on_ok_weaker, IfOk-weaker}
use Rattle.sync_terms.specs.Stored.{tree, IsTerm}
use Rattle.sync_linear.specs.declared.changes.Change.TheVariants as change
use Rattle.sync_linear.specs.declared.terms.Rest.TheVariants as rest
use Rattle.sync_linear.specs.Lines.{IsChanged, LineFits}
use Rattle.sync_linear.specs.Leaves.{leaf_line}
use Rattle.sync_linear.proofs.Whole.{line_of_zero}
use Rattle.sync_linear.proofs.Joins.{join_line, join_fits, fits_line}
use Rattle.sync_linear.proofs.Spines.{popped, all_last, up_plus, up_minus, up_times, up_added, up_taken, wide_plus, wide_minus, wide_times, wide_added, wide_first, wide_taken, up_opposite, wide_opposite}
use Rattle.sync_linear.proofs.lines.Linear.+terms.Goals as goal

pub changed_by-returns-in-Alone-clause-line : goal.changed_by-returns-in-Alone-clause-line
changed_by-returns-in-Alone-clause-line t c =
    let s = c.args.terms.now in
    IfOk-weaker c.changed_by_leaf.result _ _ (λ line h first i. join_line c.args.how s first (tree s c.args.second) c.args.self (leaf_line c.in-Alone.leaf) line i c.in-Alone.ensures.0 h) c.changed_by_leaf.ensures.changed

pub changed_by-returns-in-Alone-clause-fits : goal.changed_by-returns-in-Alone-clause-fits
changed_by-returns-in-Alone-clause-fits t c =
    let s = c.args.terms.now in
    on_ok_weaker c.changed_by_leaf.result (λ f first i. join_fits c.args.how s first (tree s c.args.second) c.args.self (leaf_line c.in-Alone.leaf) i c.in-Alone.ensures.0 f) c.changed_by_leaf.ensures.fits

pub changed_by-returns-in-Alone-clause-width : goal.changed_by-returns-in-Alone-clause-width
changed_by-returns-in-Alone-clause-width t c =
    let s = c.args.terms.now in
    λ e first i f n. c.changed_by_leaf.ensures.width e (fits_line c.args.how s first (tree s c.args.second) c.args.self (leaf_line c.in-Alone.leaf) i c.in-Alone.ensures.0 f)

pub changed_by-returns-in_ok-second-in-Under-clause-fits : goal.changed_by-returns-in_ok-second-in-Under-clause-fits
changed_by-returns-in_ok-second-in-Under-clause-fits t c =
    let s = c.args.terms.now in
    let second = c.in_ok-second-in-Under in
    on_ok_weaker c.changed.result (λ f first i. join_fits c.args.how s first (tree s c.args.second) c.args.self second.second i second.ensures.line f) c.changed.ensures.fits

pub changed_by-returns-in_ok-second-in-Under-clause-width : goal.changed_by-returns-in_ok-second-in-Under-clause-width
changed_by-returns-in_ok-second-in-Under-clause-width t c =
    let s = c.args.terms.now in
    let second = c.in_ok-second-in-Under in
    λ e first i f n. c.changed.ensures.width e (fits_line c.args.how s first (tree s c.args.second) c.args.self second.second i second.ensures.line f)

pub of_term-returns-in_err-line-in-Plus-clause-width : goal.of_term-returns-in_err-line-in-Plus-clause-width
of_term-returns-in_err-line-in-Plus-clause-width t c =
    let p = err_from_is_err_and c.from_residual-in_err-line-in-Plus.result c.from_residual-in_err-line-in-Plus.ensures.1 in
    let h = popped c.args.terms.now c.args.t c.loop-rest.rests.items c.pop.new.self.items (rest.Plus c.in-Plus.second) c.in-Some.rest c.loop-rest.line c.in-Some.ensures.items c.in-Plus.is c.loop-rest.invariant in
    λ e n. wide_plus c.args.terms.now c.args.t c.in-Plus.second c.pop.new.self.items c.loop-rest.line h (c.changed_by.ensures.width (cc)) n

pub of_term-loop-rest-preserved-in_ok-line-in-Plus : goal.of_term-loop-rest-preserved-in_ok-line-in-Plus
of_term-loop-rest-preserved-in_ok-line-in-Plus t c =
    let h = popped c.args.terms.now c.args.t c.loop-rest.rests.items c.pop.new.self.items (rest.Plus c.in-Plus.second) c.in-Some.rest c.loop-rest.line c.in-Some.ensures.items c.in-Plus.is c.loop-rest.invariant in
    let n = c.in_ok-line-in-Plus.ensures in
    up_plus c.args.terms.now c.args.t c.in-Plus.second c.pop.new.self.items c.loop-rest.line c.in_ok-line-in-Plus.line h n.line n.fits n.narrow

pub of_term-changed_by-requires-in-Minus : goal.of_term-changed_by-requires-in-Minus
of_term-changed_by-requires-in-Minus t c =
    let h = popped c.args.terms.now c.args.t c.loop-rest.rests.items c.pop.new.self.items (rest.Minus c.in-Minus.second) c.in-Some.rest c.loop-rest.line c.in-Some.ensures.items c.in-Minus.is c.loop-rest.invariant in
    let b = all_last c.args.terms.now c.args.t.0 c.pop.new.self.items (rest.Minus c.in-Minus.second) h.below in
    let st : IsTerm c.args.terms.now c.in-Minus.second = b.0 in
    let lt : c.in-Minus.second.0 < c.args.t.0 = b.1 in
    search rules

pub of_term-returns-in_err-line-in-Minus-clause-width : goal.of_term-returns-in_err-line-in-Minus-clause-width
of_term-returns-in_err-line-in-Minus-clause-width t c =
    let p = err_from_is_err_and c.from_residual-in_err-line-in-Minus.result c.from_residual-in_err-line-in-Minus.ensures.1 in
    let h = popped c.args.terms.now c.args.t c.loop-rest.rests.items c.pop.new.self.items (rest.Minus c.in-Minus.second) c.in-Some.rest c.loop-rest.line c.in-Some.ensures.items c.in-Minus.is c.loop-rest.invariant in
    λ e n. wide_minus c.args.terms.now c.args.t c.in-Minus.second c.pop.new.self.items c.loop-rest.line h (c.changed_by-in-Minus.ensures.width (cc)) n

pub of_term-loop-rest-preserved-in_ok-line-in-Minus : goal.of_term-loop-rest-preserved-in_ok-line-in-Minus
of_term-loop-rest-preserved-in_ok-line-in-Minus t c =
    let h = popped c.args.terms.now c.args.t c.loop-rest.rests.items c.pop.new.self.items (rest.Minus c.in-Minus.second) c.in-Some.rest c.loop-rest.line c.in-Some.ensures.items c.in-Minus.is c.loop-rest.invariant in
    let n = c.in_ok-line-in-Minus.ensures in
    up_minus c.args.terms.now c.args.t c.in-Minus.second c.pop.new.self.items c.loop-rest.line c.in_ok-line-in-Minus.line h n.line n.fits n.narrow

pub of_term-returns-in_err-line-in-Times-clause-width : goal.of_term-returns-in_err-line-in-Times-clause-width
of_term-returns-in_err-line-in-Times-clause-width t c =
    let p = err_from_is_err_and c.from_residual-in_err-line-in-Times.result c.from_residual-in_err-line-in-Times.ensures.1 in
    let f : FitsSigned w128 c.in-Times.times = search rules in
    let same = to_z-of_z w128 c.in-Times.times f in
    let h = popped c.args.terms.now c.args.t c.loop-rest.rests.items c.pop.new.self.items (rest.Times c.in-Times.times) c.in-Some.rest c.loop-rest.line c.in-Some.ensures.items c.in-Times.is c.loop-rest.invariant in
    λ e n. wide_times c.args.terms.now c.args.t c.in-Times.times c.pop.new.self.items c.loop-rest.line h
    (λ l. c.scaled.ensures.width (cc) (subst (λ (z : ℤ). LineFits (change.Times z) line_of_zero c.loop-rest.line) (sym same) l)) n

pub of_term-loop-rest-preserved-in_ok-line-in-Times : goal.of_term-loop-rest-preserved-in_ok-line-in-Times
of_term-loop-rest-preserved-in_ok-line-in-Times t c =
    let f : FitsSigned w128 c.in-Times.times = search rules in
    let same = to_z-of_z w128 c.in-Times.times f in
    let h = popped c.args.terms.now c.args.t c.loop-rest.rests.items c.pop.new.self.items (rest.Times c.in-Times.times) c.in-Some.rest c.loop-rest.line c.in-Some.ensures.items c.in-Times.is c.loop-rest.invariant in
    let n = c.in_ok-line-in-Times.ensures in
    up_times c.args.terms.now c.args.t c.in-Times.times c.pop.new.self.items c.loop-rest.line c.in_ok-line-in-Times.line h
    (subst (λ (z : ℤ). IsChanged (change.Times z) line_of_zero c.loop-rest.line c.in_ok-line-in-Times.line) same n.changed)
    (subst (λ (z : ℤ). LineFits (change.Times z) line_of_zero c.loop-rest.line) same n.fits)

pub of_term-returns-in_err-line-in-AddedTo-clause-width : goal.of_term-returns-in_err-line-in-AddedTo-clause-width
of_term-returns-in_err-line-in-AddedTo-clause-width t c =
    let p = err_from_is_err_and c.from_residual-in_err-line-in-AddedTo.result c.from_residual-in_err-line-in-AddedTo.ensures.1 in
    let h = popped c.args.terms.now c.args.t c.loop-rest.rests.items c.pop.new.self.items (rest.AddedTo c.in-AddedTo.first) c.in-Some.rest c.loop-rest.line c.in-Some.ensures.items c.in-AddedTo.is c.loop-rest.invariant in
    λ e n. wide_added c.args.terms.now c.args.t c.in-AddedTo.first c.pop.new.self.items c.loop-rest.line h (c.changed_by-in-AddedTo.ensures.width (cc)) n

pub of_term-loop-rest-preserved-in_ok-line-in-AddedTo : goal.of_term-loop-rest-preserved-in_ok-line-in-AddedTo
of_term-loop-rest-preserved-in_ok-line-in-AddedTo t c =
    let h = popped c.args.terms.now c.args.t c.loop-rest.rests.items c.pop.new.self.items (rest.AddedTo c.in-AddedTo.first) c.in-Some.rest c.loop-rest.line c.in-Some.ensures.items c.in-AddedTo.is c.loop-rest.invariant in
    let n = c.in_ok-line-in-AddedTo.ensures in
    up_added c.args.terms.now c.args.t c.in-AddedTo.first c.pop.new.self.items c.loop-rest.line c.in_ok-line-in-AddedTo.line h n.line n.fits n.narrow

pub of_term-returns-in_err-first-in-TakenFrom-clause-width : goal.of_term-returns-in_err-first-in-TakenFrom-clause-width
of_term-returns-in_err-first-in-TakenFrom-clause-width t c =
    let p = err_from_is_err_and c.from_residual-in_err-first-in-TakenFrom.result c.from_residual-in_err-first-in-TakenFrom.ensures.1 in
    let h = popped c.args.terms.now c.args.t c.loop-rest.rests.items c.pop.new.self.items (rest.TakenFrom c.in-TakenFrom.first) c.in-Some.rest c.loop-rest.line c.in-Some.ensures.items c.in-TakenFrom.is c.loop-rest.invariant in
    λ e n. wide_first c.args.terms.now c.args.t c.in-TakenFrom.first c.pop.new.self.items c.loop-rest.line h (c.of_term.ensures.width (cc)) n

pub of_term-returns-in_err-line-in-TakenFrom-clause-width : goal.of_term-returns-in_err-line-in-TakenFrom-clause-width
of_term-returns-in_err-line-in-TakenFrom-clause-width t c =
    let p = err_from_is_err_and c.from_residual-in_err-line-in-TakenFrom.result c.from_residual-in_err-line-in-TakenFrom.ensures.1 in
    let h = popped c.args.terms.now c.args.t c.loop-rest.rests.items c.pop.new.self.items (rest.TakenFrom c.in-TakenFrom.first) c.in-Some.rest c.loop-rest.line c.in-Some.ensures.items c.in-TakenFrom.is c.loop-rest.invariant in
    let first = c.in_ok-first-in-TakenFrom in
    λ e n. wide_taken c.args.terms.now c.args.t c.in-TakenFrom.first c.pop.new.self.items c.loop-rest.line first.first h first.ensures.line (c.changed.ensures.width (cc)) n

pub of_term-loop-rest-preserved-in_ok-line-in-TakenFrom : goal.of_term-loop-rest-preserved-in_ok-line-in-TakenFrom
of_term-loop-rest-preserved-in_ok-line-in-TakenFrom t c =
    let h = popped c.args.terms.now c.args.t c.loop-rest.rests.items c.pop.new.self.items (rest.TakenFrom c.in-TakenFrom.first) c.in-Some.rest c.loop-rest.line c.in-Some.ensures.items c.in-TakenFrom.is c.loop-rest.invariant in
    let first = c.in_ok-first-in-TakenFrom in
    let n = c.in_ok-line-in-TakenFrom.ensures in
    up_taken c.args.terms.now c.args.t c.in-TakenFrom.first c.pop.new.self.items c.loop-rest.line first.first c.in_ok-line-in-TakenFrom.line h first.ensures.line first.ensures.narrow n.changed n.fits

pub of_term-returns-in_err-line-in-Opposite-clause-width : goal.of_term-returns-in_err-line-in-Opposite-clause-width
of_term-returns-in_err-line-in-Opposite-clause-width t c =
    let p = err_from_is_err_and c.from_residual-in_err-line-in-Opposite.result c.from_residual-in_err-line-in-Opposite.ensures.1 in
    let h = popped c.args.terms.now c.args.t c.loop-rest.rests.items c.pop.new.self.items rest.Opposite c.in-Some.rest c.loop-rest.line c.in-Some.ensures.items c.in-Opposite.is c.loop-rest.invariant in
    λ e n. wide_opposite c.args.terms.now c.args.t c.pop.new.self.items c.loop-rest.line c.zero.result h c.zero.ensures (c.changed-in-Opposite.ensures.width (cc)) n

pub of_term-loop-rest-preserved : goal.of_term-loop-rest-preserved
of_term-loop-rest-preserved t c =
    let h = popped c.args.terms.now c.args.t c.loop-rest.rests.items c.pop.new.self.items rest.Opposite c.in-Some.rest c.loop-rest.line c.in-Some.ensures.items c.in-Opposite.is c.loop-rest.invariant in
    let n = c.in_ok-line-in-Opposite.ensures in
    up_opposite c.args.terms.now c.args.t c.pop.new.self.items c.loop-rest.line c.zero.result c.in_ok-line-in-Opposite.line h c.zero.ensures n.changed n.fits
