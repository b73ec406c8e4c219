use Rattle.std.proofs.Common.{sym, subst}
use Rattle.std.proofs.lemmas.Result.{err_from_is_err_and}
use Rattle.sync_linear.specs.Lines.{Atoms}
use Rattle.sync_linear.proofs.Adding.{Sums, begins, goes_on, ends, all_fit, one_leaves}
use Rattle.sync_linear.proofs.atoms.change_all.Goals as goal

pub loop-id-init : goal.loop-id-init
loop-id-init c =
    let g = c.into_iter-id-iterator.ensures.into_iter_gives in
    (subst (λ (r : Atoms). Sums c.args.how c.args.atoms.entries c.args.atoms.entries c.args.by.now.entries r) (sym g.0) (begins c.args.how c.args.atoms.entries c.args.by.now.entries c.requires g.5 g.6), λ h. h)

pub loop-id-preserved : goal.loop-id-preserved
loop-id-preserved c =
    let s = subst (λ (r : Atoms). Sums c.args.how c.args.atoms.entries c.loop-id.sum.entries c.args.by.now.entries r) c.in-Some.ensures.steps c.loop-id.invariant.0 in (
      goes_on c.args.how c.args.atoms.entries c.loop-id.sum.entries c.change_at.new.atoms.entries c.args.by.now.entries c.next.new.self c.in-Some.id.now c.in-Some.times.now s c.in_ok-change_at.ensures.fits c.in_ok-change_at.ensures.others,
      λ h. c.in_ok-change_at.ensures.no_zero (c.loop-id.invariant.1 h),
    )

pub returns-in_err-change_at-clause-width : goal.returns-in_err-change_at-clause-width
returns-in_err-change_at-clause-width c =
    let s = subst (λ (r : Atoms). Sums c.args.how c.args.atoms.entries c.loop-id.sum.entries c.args.by.now.entries r) c.in-Some.ensures.steps c.loop-id.invariant.0 in
    let p = err_from_is_err_and c.from_residual.result c.from_residual.ensures.1 in
    λ e fits. one_leaves c.args.how c.args.atoms.entries c.loop-id.sum.entries c.args.by.now.entries c.next.new.self c.in-Some.id.now c.in-Some.times.now s (c.change_at.ensures.width cc) fits

pub returns-clause-changed : goal.returns-clause-changed
returns-clause-changed c =
    ends c.args.how c.args.atoms.entries c.loop-id.sum.entries c.args.by.now.entries (subst (λ (r : Atoms). Sums c.args.how c.args.atoms.entries c.loop-id.sum.entries c.args.by.now.entries r) c.in-None.ensures.steps.0 c.loop-id.invariant.0)

pub returns-clause-fits : goal.returns-clause-fits
returns-clause-fits c =
    all_fit c.args.how c.args.atoms.entries c.loop-id.sum.entries c.args.by.now.entries (subst (λ (r : Atoms). Sums c.args.how c.args.atoms.entries c.loop-id.sum.entries c.args.by.now.entries r) c.in-None.ensures.steps.0 c.loop-id.invariant.0)

pub returns-clause-no_zero : goal.returns-clause-no_zero
returns-clause-no_zero c = c.loop-id.invariant.1
