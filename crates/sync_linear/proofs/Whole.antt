-- Whole lines that change: what holds of the new line.
use Rattle.std.proofs.Common.{rules, ◌≡◌, ◌≢◌, ◌⊎◌, inl, inr, ℕ, ℤ, pos, ◌+ℤ◌, [], sym, ap, subst, ◌∙◌, arith}
use Rattle.std.specs.Prelude.{FitsSigned}
use Rattle.std.specs.Int.{w128}
use Rattle.std.specs.Ordering.{int_eq}
use Rattle.std.proofs.lemmas.Int.{ints, to_z-of_z}
use mir.Val.{to_z, of_z}
use Rattle.std.proofs.lemmas.Bool.{cases_Bool, both_ways}
use Rattle.std.proofs.lemmas.Bool.Decides.{Decides-int_eq}
use Rattle.sync_linear.specs.declared.changes.Change.{Change}
use Rattle.sync_linear.specs.declared.changes.Change.TheVariants.{Plus, Minus, Times}
use Rattle.sync_linear.specs.Changes.{changed, ChangeFits}
use Rattle.sync_linear.specs.Lines.{Atoms, Line, times, HasNoZero, IsLine, IsChanged, LineFits}
use Rattle.sync_linear.proofs.Ring.{times_zero}
use Rattle.sync_linear.proofs.Adding.{changed_by_none}

-- the line that is 0
abbrev pub line_of_zero : Line
line_of_zero = record { constant = pos 0; atoms = [] }

pub fits_after : (how : Change) (x y : ℤ) → ChangeFits how x y → FitsSigned w128 (changed how x y)
fits_after Plus x y f = f
fits_after Minus x y f = f
fits_after (Times c) x y f = f.1

pub zero_fits : FitsSigned w128 (pos 0)
zero_fits = search rules

pub none_fits : (how : Change) (x : ℤ) → FitsSigned w128 x → ChangeFits how x (pos 0)
none_fits Plus x f = subst (FitsSigned w128) (sym (changed_by_none Plus x)) f
none_fits Minus x f = subst (FitsSigned w128) (sym (changed_by_none Minus x)) f
none_fits (Times c) x f = (subst (FitsSigned w128) (sym (times_zero c)) zero_fits, subst (FitsSigned w128) (sym (changed_by_none (Times c) x)) f)

pub cases_int : (x y : ℤ) → (x ≡ y) ⊎ (x ≢ y)
cases_int x y = elim (cases_Bool (int_eq x y)) [ inl e ↦ inl ((Decides-int_eq x y).0 e) | inr e ↦ inr (λ s. both_ways (int_eq x y) e ((Decides-int_eq x y).1 s)) ]

pub all_fit : (how : Change) (old by : Atoms) → ((id : ℕ) → FitsSigned w128 (times old id)) → ((id : ℕ) → times by id ≢ pos 0 → ChangeFits how (times old id) (times by id))
    → (id : ℕ) → ChangeFits how (times old id) (times by id)
all_fit how old by f g id = elim (cases_int (times by id) (pos 0)) [
  | inl e ↦ subst (λ (y : ℤ). ChangeFits how (times old id) y) (sym e) (none_fits how (times old id) (f id))
  | inr ne ↦ g id ne
]

pub line_after : (how : Change) (old by : Line) (constant : ℤ) (atoms : Atoms) → IsLine old → ChangeFits how old.constant by.constant × (constant ≡ changed how old.constant by.constant)
    → ((id : ℕ) → times atoms id ≡ changed how (times old.atoms id) (times by.atoms id))
    → ((id : ℕ) → times by.atoms id ≢ pos 0 → ChangeFits how (times old.atoms id) (times by.atoms id))
    → (HasNoZero old.atoms → HasNoZero atoms) → IsLine (record { constant = constant; atoms = atoms })
line_after how old by constant atoms is c e f z = record {
  no_zero = z is.no_zero;
  constant_fits = subst (FitsSigned w128) (sym c.1) (fits_after how old.constant by.constant c.0);
  times_fit = λ id. subst (FitsSigned w128) (sym (e id)) (fits_after how (times old.atoms id) (times by.atoms id) (all_fit how old.atoms by.atoms is.times_fit f id));
}

pub atoms_fit : (how : Change) (a b x y : Line) → x ≡ a → y ≡ b → LineFits how a b → (id : ℕ) → ChangeFits how (times x.atoms id) (times y.atoms id)
atoms_fit how a b x y e f fits id =
    subst (λ (l : Line). ChangeFits how (times l.atoms id) (times y.atoms id)) (sym e) (subst (λ (l : Line). ChangeFits how (times a.atoms id) (times l.atoms id)) (sym f) (fits.atoms id))

-- a constant that went through its bits
pub line_made : (constant : ℤ) (atoms : Atoms) → IsLine (record { constant = constant; atoms = atoms }) → IsLine (record { constant = to_z w128 (of_z w128 constant); atoms = atoms })
line_made constant atoms is = subst (λ (z : ℤ). IsLine (record { constant = z; atoms = atoms })) (sym (to_z-of_z w128 constant is.constant_fits)) is

pub plus_zero : (x : ℤ) → pos 0 +ℤ x ≡ x
plus_zero x = omega (arith, ints)

-- a copy that was made by adding to nothing, and what changes it
module _ (zero old copy by : Line) (none : zero ≡ record { constant = pos 0; atoms = [] }) (made : IsChanged Plus zero old copy) where
  same_constant : copy.constant ≡ old.constant
  same_constant = made.constant ∙ ap (λ (l : Line). l.constant +ℤ old.constant) none ∙ plus_zero old.constant

  same_times : (id : ℕ) → times copy.atoms id ≡ times old.atoms id
  same_times id = made.atoms id ∙ ap (λ (l : Line). times l.atoms id +ℤ times old.atoms id) none ∙ plus_zero (times old.atoms id)

  pub changed_copy : (how : Change) (new : Line) → IsChanged how copy by new → IsChanged how old by new
  changed_copy how new h = record {
    constant = h.constant ∙ ap (λ (x : ℤ). changed how x by.constant) same_constant;
    atoms = λ id. h.atoms id ∙ ap (λ (x : ℤ). changed how x (times by.atoms id)) (same_times id);
  }

  pub fits_copy : (how : Change) → LineFits how copy by → LineFits how old by
  fits_copy how h = record {
    constant = subst (λ (x : ℤ). ChangeFits how x by.constant) same_constant h.constant;
    atoms = λ id. subst (λ (x : ℤ). ChangeFits how x (times by.atoms id)) (same_times id) (h.atoms id);
  }

  pub copy_fits : (how : Change) → LineFits how old by → LineFits how copy by
  copy_fits how h = record {
    constant = subst (λ (x : ℤ). ChangeFits how x by.constant) (sym same_constant) h.constant;
    atoms = λ id. subst (λ (x : ℤ). ChangeFits how x (times by.atoms id)) (sym (same_times id)) (h.atoms id);
  }
