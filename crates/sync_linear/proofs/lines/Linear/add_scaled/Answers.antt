use Rattle.std.proofs.Common.{ℤ, sym, subst}
use Rattle.std.specs.Int.{w128}
use Rattle.std.proofs.lemmas.Int.{to_z-of_z}
use Rattle.std.proofs.lemmas.Result.{err_from_is_err_and}
use Rattle.sync_linear.specs.declared.changes.Change.TheVariants.{Times}
use Rattle.sync_linear.specs.Lines.{Line, IsChanged, LineFits}
use Rattle.sync_linear.proofs.Whole.{changed_copy, fits_copy, copy_fits}
use Rattle.sync_linear.proofs.lines.Linear.add_scaled.Goals as goal

pub returns-in_err-self-inside-clause-width : goal.returns-in_err-self-inside-clause-width
returns-in_err-self-inside-clause-width c =
    let same = to_z-of_z w128 c.args.c c.ranges.c in
    let p = err_from_is_err_and c.from_residual-in_err-self-inside.result c.from_residual-in_err-self-inside.ensures.1 in
    λ e fits. c.changed-2.ensures.width (cc) (subst (λ (z : ℤ). LineFits (Times z) c.in_ok-copy.copy c.args.other.now) (sym same)
    (copy_fits c.zero.result c.args.self.now c.in_ok-copy.copy c.args.other.now c.zero.ensures c.in_ok-copy.ensures.changed (Times c.args.c) fits))

pub returns-clause-sum : goal.returns-clause-sum
returns-clause-sum c =
    let same = to_z-of_z w128 c.args.c c.ranges.c in
    subst (λ (l : Line). IsChanged (Times c.args.c) c.args.self.now c.args.other.now l) (sym c.drop.view_is)
    (changed_copy c.zero.result c.args.self.now c.in_ok-copy.copy c.args.other.now c.zero.ensures c.in_ok-copy.ensures.changed (Times c.args.c) c.in_ok-self-inside.field-0
    (subst (λ (z : ℤ). IsChanged (Times z) c.in_ok-copy.copy c.args.other.now c.in_ok-self-inside.field-0) same c.in_ok-self-inside.ensures.changed))

pub returns-clause-fits : goal.returns-clause-fits
returns-clause-fits c =
    let same = to_z-of_z w128 c.args.c c.ranges.c in
    fits_copy c.zero.result c.args.self.now c.in_ok-copy.copy c.args.other.now c.zero.ensures c.in_ok-copy.ensures.changed (Times c.args.c)
    (subst (λ (z : ℤ). LineFits (Times z) c.in_ok-copy.copy c.args.other.now) same c.in_ok-self-inside.ensures.fits)
