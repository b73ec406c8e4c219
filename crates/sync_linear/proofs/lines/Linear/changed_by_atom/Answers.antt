use Rattle.std.proofs.Common.{ℤ, sym, subst}
use Rattle.std.specs.Int.{w128}
use Rattle.std.proofs.lemmas.Int.{to_z-of_z}
use Rattle.std.proofs.lemmas.Result.{err_from_is_err_and}
use Rattle.sync_linear.specs.Changes.{ChangeFits}
use Rattle.sync_linear.specs.Lines.{Line, times}
use Rattle.sync_linear.proofs.OneAtom.{Others, changed_at_atom, fits_at_atom, atom_fits}
use Rattle.sync_linear.proofs.lines.Linear.changed_by_atom.Goals as goal

pub returns-in_err-change_at-clause-width : goal.returns-in_err-change_at-clause-width
returns-in_err-change_at-clause-width c =
    let same = to_z-of_z w128 c.args.times c.ranges.times in
    let old : Line = record { constant = c.self.inside.constant; atoms = c.self.inside.atoms.entries } in
    let p = err_from_is_err_and c.from_residual.result c.from_residual.ensures.1 in
    λ e fits. c.change_at.ensures.width (cc) (subst (λ (n : ℤ). ChangeFits c.args.how (times old.atoms c.args.id) n) (sym same) (atom_fits c.args.how c.args.self old c.args.id c.args.times c.self.view_is fits))

pub returns-clause-changed : goal.returns-clause-changed
returns-clause-changed c =
    let same = to_z-of_z w128 c.args.times c.ranges.times in
    let old : Line = record { constant = c.self.inside.constant; atoms = c.self.inside.atoms.entries } in
    changed_at_atom c.args.how c.args.self old c.change_at.new.atoms.entries c.args.id c.args.times c.self.view_is c.self.invariant
    (subst (Others c.args.how old.atoms c.change_at.new.atoms.entries c.args.id) same c.in_ok-change_at.ensures.others)

pub returns-clause-fits : goal.returns-clause-fits
returns-clause-fits c =
    let same = to_z-of_z w128 c.args.times c.ranges.times in
    let old : Line = record { constant = c.self.inside.constant; atoms = c.self.inside.atoms.entries } in
    fits_at_atom c.args.how c.args.self old c.args.id c.args.times c.self.view_is c.self.invariant
    (subst (λ (n : ℤ). ChangeFits c.args.how (times old.atoms c.args.id) n) same c.in_ok-change_at.ensures.fits)
