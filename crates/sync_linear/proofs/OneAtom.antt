-- Lines that change at one atom.
use Rattle.std.proofs.Common.{◌≡◌, ◌≢◌, inl, inr, ℕ, ℤ, nat_eq, if◌then◌else◌, [], ◌∷◌, refl, sym, ap, subst, ◌∙◌}
use Rattle.std.specs.Prelude.{FitsSigned}
use Rattle.std.specs.Int.{w128}
use Rattle.std.proofs.lemmas.Bool.{cases_eq, cond-true, cond-false, eq-eqb, ne_eqb}
use Rattle.std.proofs.lemmas.Int.{to_z-of_z}
use mir.Val.{to_z, of_z}
use Rattle.sync_linear.specs.declared.changes.Change.{Change}
use Rattle.sync_linear.specs.declared.leaves.Leaf.TheVariants.{Atom}
use Rattle.sync_linear.specs.Changes.{changed, ChangeFits}
use Rattle.sync_linear.specs.Lines.{Atoms, Line, times, IsLine, IsChanged, LineFits}
use Rattle.sync_linear.specs.Leaves.{leaf_line}
use Rattle.sync_linear.proofs.Adding.{changed_by_none, times_here, times_apart}
use Rattle.sync_linear.proofs.Whole.{none_fits}

-- what becomes of each number where only that of one atom changes
abbrev pub Others : Change → Atoms → Atoms → ℕ → ℤ → Type 0
Others how old new id n = (q : ℕ) → times new q ≡ (if nat_eq id q then changed how (times old q) n else times old q)

changed_here : (how : Change) (old new : Atoms) (q : ℕ) (n : ℤ) → Others how old new q n → times new q ≡ changed how (times old q) (times ((q, n) ∷ []) q)
changed_here how old new q n h =
    h q ∙ cond-true (nat_eq q q) (changed how (times old q) n) (times old q) (eq-eqb q q refl) ∙ ap (changed how (times old q)) (sym (times_here q n []))

changed_apart : (how : Change) (old new : Atoms) (id q : ℕ) (n : ℤ) → id ≢ q → Others how old new id n → times new q ≡ changed how (times old q) (times ((id, n) ∷ []) q)
changed_apart how old new id q n ne h =
    h q ∙ cond-false (nat_eq id q) (changed how (times old q) n) (times old q) (ne_eqb id q ne)
    ∙ sym (changed_by_none how (times old q)) ∙ ap (changed how (times old q)) (sym (times_apart q id n [] (λ e. ne (sym e))))

changed_each : (how : Change) (old new : Atoms) (id : ℕ) (n : ℤ) → Others how old new id n → (q : ℕ) → times new q ≡ changed how (times old q) (times ((id, n) ∷ []) q)
changed_each how old new id n h q = elim (cases_eq id q) [
  | inl e ↦ subst (λ (x : ℕ). times new x ≡ changed how (times old x) (times ((id, n) ∷ []) x)) e (changed_here how old new id n h)
  | inr ne ↦ changed_apart how old new id q n ne h
]

fits_each : (how : Change) (old : Atoms) (id : ℕ) (n : ℤ) → ((q : ℕ) → FitsSigned w128 (times old q)) → ChangeFits how (times old id) n → (q : ℕ) → ChangeFits how (times old q) (times ((id, n) ∷ []) q)
fits_each how old id n fit f q = elim (cases_eq id q) [
  | inl e ↦ subst (λ (x : ℕ). ChangeFits how (times old x) (times ((id, n) ∷ []) x)) e (subst (λ (y : ℤ). ChangeFits how (times old id) y) (sym (times_here id n [])) f)
  | inr ne ↦ subst (λ (y : ℤ). ChangeFits how (times old q) y) (sym (times_apart q id n [] (λ e. ne (sym e)))) (none_fits how (times old q) (fit q))
]

pub changed_at_atom : (how : Change) (self old : Line) (new : Atoms) (id : ℕ) (n : ℤ) → old ≡ self → IsLine old → Others how old.atoms new id n
    → IsChanged how self (leaf_line (Atom id n)) (record { constant = to_z w128 (of_z w128 old.constant); atoms = new })
changed_at_atom how self old new id n e is h = subst (λ (l : Line). IsChanged how l (leaf_line (Atom id n)) (record { constant = to_z w128 (of_z w128 old.constant); atoms = new })) e (record {
  constant = to_z-of_z w128 old.constant is.constant_fits ∙ sym (changed_by_none how old.constant);
  atoms = changed_each how old.atoms new id n h;
})

pub fits_at_atom : (how : Change) (self old : Line) (id : ℕ) (n : ℤ) → old ≡ self → IsLine old → ChangeFits how (times old.atoms id) n → LineFits how self (leaf_line (Atom id n))
fits_at_atom how self old id n e is f = subst (λ (l : Line). LineFits how l (leaf_line (Atom id n))) e (record {
  constant = none_fits how old.constant is.constant_fits;
  atoms = fits_each how old.atoms id n is.times_fit f;
})

pub atom_fits : (how : Change) (self old : Line) (id : ℕ) (n : ℤ) → old ≡ self → LineFits how self (leaf_line (Atom id n)) → ChangeFits how (times old.atoms id) n
atom_fits how self old id n e f =
    subst (λ (y : ℤ). ChangeFits how (times old.atoms id) y) (times_here id n []) (subst (λ (l : Line). ChangeFits how (times l.atoms id) (times ((id, n) ∷ []) id)) (sym e) (f.atoms id))
