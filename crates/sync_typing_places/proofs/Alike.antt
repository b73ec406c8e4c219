-- Terms with one line.
use Rattle.std.proofs.Common.{◌≡◌, ℤ, pos, Option, Some, None, Result, Ok, Err, Bool, true, false, ◌&&◌, [], refl, sym, ap, subst, ◌∙◌, arith}
use Rattle.std.specs.Prelude.{◌-ℤ◌, FitsSigned, IfOk}
use Rattle.std.specs.Int.{w128}
use Rattle.std.specs.List.{list_all}
use Rattle.std.specs.Ordering.{int_eq}
use Rattle.std.proofs.lemmas.Int.{ints}
use Rattle.std.proofs.lemmas.Bool.{and_parts, false_from_ne_true}
use Rattle.std.proofs.lemmas.Bool.Decides.{Decides-int_eq}
use Rattle.sync_terms.specs.Stored.{Stored}
use Rattle.sync_terms.specs.Trees.{Tree, Sub, Eq}
use Rattle.sync_linear.specs.declared.changes.Change.TheVariants as change
use Rattle.sync_linear.specs.Lines.{Line, IsLine, IsChanged, LineFits}
use Rattle.sync_linear.specs.Forms.{constant_of, coefficient_of, one_at, Narrow}
use Rattle.sync_linear.specs.Stores.{IsLineOf}
use Rattle.sync_linear.proofs.Joins.{join_line, fits_line}
use Rattle.sync_linear.proofs.Whole.{zero_fits}
use Rattle.sync_kernel.specs.declared.rows.Kind.TheVariants.{NotZero}
use Rattle.sync_kernel.specs.Rows.{atoms_of, narrow, no_atom}
use Rattle.sync_kernel.proofs.Atoms.{is_narrow, narrow_is, no_atom_is}
use Rattle.sync_kernel.proofs.Opposing.{same_bool}
use Rattle.sync_kernel.proofs.SameSteps.{line_not_zero}
use Rattle.sync_typing.specs.Dues.{is_clear, same_line}
use Rattle.sync_typing_places.specs.Clearing.{IsLineIfNarrow}

-- ---- the difference of the terms

no_difference : (m n : ℤ) → int_eq m n ≡ int_eq (m -ℤ n) (pos 0)
no_difference m n =
    same_bool (int_eq m n) (int_eq (m -ℤ n) (pos 0))
    (λ e. let f : m ≡ n = (Decides-int_eq m n).0 e in (Decides-int_eq (m -ℤ n) (pos 0)).1 (omega (arith, ints, f)))
    (λ e. let f : m -ℤ n ≡ pos 0 = (Decides-int_eq (m -ℤ n) (pos 0)).0 e in (Decides-int_eq m n).1 (omega (arith, ints, f)))

turned : (a b : Bool) → (a && b) ≡ (b && a)
turned true true = refl
turned true false = refl
turned false true = refl
turned false false = refl

-- terms have one line where their difference is 0
as_difference : (a b : Tree) → same_line a b ≡ (no_atom (Sub a b) && int_eq (constant_of (Sub a b)) (pos 0))
as_difference a b =
    (λ i. no_difference (constant_of a) (constant_of b) i
    && list_all (λ x. no_difference (coefficient_of x a) (coefficient_of x b) i) (atoms_of (Sub a b)))
    ∙ turned (int_eq (constant_of (Sub a b)) (pos 0)) (no_atom (Sub a b))

pub is_zero : (s : Stored) (a b : Tree) (one two line : Line) (r : Bool) → IsLineOf s a one → IsLineOf s b two
    → IsChanged change.Minus one two line → IsLine line
    → (r ≡ true → (line.atoms ≡ []) × (line.constant ≡ pos 0)) → ((line.atoms ≡ []) × (line.constant ≡ pos 0) → r ≡ true)
    → r ≡ same_line a b
is_zero s a b one two line r i j is ok f g =
    line_not_zero s (Sub a b) line ok (join_line change.Minus s a b one two line i j is) NotZero r f g refl
    ∙ sym (as_difference a b)

-- where the difference does not fit the terms have two lines
pub is_wide : (s : Stored) (a b : Tree) (one two : Line) → IsLineOf s a one → IsLineOf s b two
    → (LineFits change.Minus one two → ⊥) → false ≡ same_line a b
is_wide s a b one two i j leaves =
    sym (false_from_ne_true (same_line a b)
    (λ e. let p = and_parts (no_atom (Sub a b)) (int_eq (constant_of (Sub a b)) (pos 0)) (sym (as_difference a b) ∙ e) in
    leaves (fits_line change.Minus s a b one two i j (record {
      constant = subst (FitsSigned w128) (sym ((Decides-int_eq (constant_of (Sub a b)) (pos 0)).0 p.1)) zero_fits;
      atoms = λ x. subst (FitsSigned w128) (sym (no_atom_is (Sub a b) p.0 (one_at x))) zero_fits;
    }))))

-- ---- within 128 bits

pub clear_both : (a b : Tree) (r : Bool) → Narrow a → Narrow b → r ≡ same_line a b → r ≡ is_clear (Eq a b)
clear_both a b r m n is =
    is ∙ sym (λ i. is_narrow a m i && (is_narrow b n i && same_line a b))

pub clear_wide : (a b : Tree) → (Narrow a → ⊥) → false ≡ is_clear (Eq a b)
clear_wide a b wide =
    sym (ap (λ (c : Bool). c && (narrow b && same_line a b)) (false_from_ne_true (narrow a) (λ e. wide (narrow_is a e))))

no_and : (a c : Bool) → (a && (false && c)) ≡ false
no_and true c = refl
no_and false c = refl

pub clear_wide_too : (a b : Tree) → (Narrow b → ⊥) → false ≡ is_clear (Eq a b)
clear_wide_too a b wide =
    sym (ap (λ (c : Bool). narrow a && (c && same_line a b)) (false_from_ne_true (narrow b) (λ e. wide (narrow_is b e)))
    ∙ no_and (narrow a) (same_line a b))

pub none_narrow : (s : Stored) (t : Tree) (o : Option Line) → IsLineIfNarrow s t o → ((l : Line) → o ≡ Some l → ⊥)
    → Narrow t → ⊥
none_narrow s t None h other = h
none_narrow s t (Some l) h other = absurd (other l refl)

pub if_ok : {A E : Type 0} (r : Result A E) (P Q : A → Type 0) → ((a : A) → P a → Q a) → IfOk r P → IfOk r Q
if_ok (Ok a) P Q f is = f a is
if_ok (Err e) P Q f is = tt
