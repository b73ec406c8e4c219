use Rattle.std.specs.Prelude.{FitsSigned}
use Rattle.std.specs.Int.{w128}
use Rattle.std.proofs.lemmas.Int.{to_z-of_z}
use Rattle.std.proofs.lemmas.Result.{err_from_is_err_and}
use Rattle.sync_linear.specs.Lines.{Line}
use Rattle.sync_linear.proofs.Whole.{line_after, line_made, atoms_fit}
use Rattle.sync_linear.proofs.lines.Linear.changed.Goals as goal

pub returns-in_err-atoms-clause-width : goal.returns-in_err-atoms-clause-width
returns-in_err-atoms-clause-width c =
    let p = err_from_is_err_and c.from_residual.result c.from_residual.ensures.1 in
    λ e fits. c.change_all.ensures.width (cc) (atoms_fit c.args.how c.args.self c.args.other.now _ _ c.self.view_is c.other.view_is fits)

pub invariant_of-result : goal.invariant_of-result
invariant_of-result c =
    let old : Line = record { constant = c.self.inside.constant; atoms = c.self.inside.atoms.entries } in
    let by : Line = record { constant = c.other.inside.constant; atoms = c.other.inside.atoms.entries } in
    let e = c.in_ok-atoms.ensures in
    let f : FitsSigned w128 old.constant = c.self.invariant.constant_fits in
    let g : FitsSigned w128 by.constant = c.other.invariant.constant_fits in
    let one = simp to_z-of_z at c.in-Some.ensures in
    line_made c.in-Some.constant c.in_ok-atoms.atoms.entries (line_after c.args.how old by c.in-Some.constant c.in_ok-atoms.atoms.entries c.self.invariant one e.changed e.fits e.no_zero)
