use Rattle.std.proofs.Common.{◌≡◌, ℕ, ℤ, ◌*ℤ◌, true, false, map, refl, sym, ap, subst}
use Rattle.std.specs.Prelude.{FitsSigned}
use Rattle.std.specs.Int.{w128, int_wrapping_mul}
use Rattle.std.proofs.lemmas.Int.{to_z-of_z}
use mir.Val.{of_z}
use Rattle.sync_linear.specs.Lines.{Line, times}
use Rattle.sync_linear.proofs.Scaling.{products_fit, scaled_is_line, scaled_is}
use Rattle.sync_linear.proofs.lines.Linear.scaled.Goals as goal

pub returns-then-not-all_fit-clause-width : goal.returns-then-not-all_fit-clause-width
returns-then-not-all_fit-clause-width c =
    let old : Line = record { constant = c.self.inside.constant; atoms = c.self.inside.atoms.entries } in
    let same = to_z-of_z w128 c.args.times c.ranges.times in
    λ e fits. let t : false ≡ true = c.if-not-all_fit.ensures.1 (λ q. subst (λ (n : ℤ). FitsSigned w128 (n *ℤ times old.atoms q)) (sym same) (products_fit c.args.times c.args.self old c.self.view_is fits q)) in absurd (cc)

pub invariant_of-result : goal.invariant_of-result
invariant_of-result c =
    let old : Line = record { constant = c.self.inside.constant; atoms = c.self.inside.atoms.entries } in
    let f : FitsSigned w128 c.args.times = c.ranges.times in
    let g : FitsSigned w128 old.constant = c.self.invariant.constant_fits in
    let same = to_z-of_z w128 c.args.times f in
    let one = simp to_z-of_z at c.in-Some.ensures in
    let made = subst (λ (n : ℤ). c.scale_all.new.atoms.entries ≡ map (λ (e : ℕ × ℤ). (e.0, int_wrapping_mul w128 n e.1)) old.atoms) same c.scale_all.ensures in
    let each : (q : ℕ) → FitsSigned w128 (c.args.times *ℤ times old.atoms q) = λ q. subst (λ (n : ℤ). FitsSigned w128 (n *ℤ times old.atoms q)) same (c.if-not-all_fit.ensures.0 refl q) in
    scaled_is_line c.args.times c.in-Some.constant old c.scale_all.new.atoms.entries f c.self.invariant one made each (λ z. c.if-times-eq0.false (ap (of_z w128) z))

pub returns-clause-changed : goal.returns-clause-changed
returns-clause-changed c =
    let old : Line = record { constant = c.self.inside.constant; atoms = c.self.inside.atoms.entries } in
    let f : FitsSigned w128 c.args.times = c.ranges.times in
    let g : FitsSigned w128 old.constant = c.self.invariant.constant_fits in
    let same = to_z-of_z w128 c.args.times f in
    let one = simp to_z-of_z at c.in-Some.ensures in
    let made = subst (λ (n : ℤ). c.scale_all.new.atoms.entries ≡ map (λ (e : ℕ × ℤ). (e.0, int_wrapping_mul w128 n e.1)) old.atoms) same c.scale_all.ensures in
    let each : (q : ℕ) → FitsSigned w128 (c.args.times *ℤ times old.atoms q) = λ q. subst (λ (n : ℤ). FitsSigned w128 (n *ℤ times old.atoms q)) same (c.if-not-all_fit.ensures.0 refl q) in
    scaled_is c.args.times c.in-Some.constant old c.scale_all.new.atoms.entries f c.self.invariant one made each c.args.self c.self.view_is
