-- `same`, one fact after the other: what the code answers against what is defined.
use Rattle.std.proofs.Common.{◌≡◌, ℕ, ℤ, pos, Bool, true, false, ◌&&◌, if◌then◌else◌, List, [], Option, Some, None, refl, sym, ap, subst, ◌∙◌}
use Rattle.std.specs.Prelude.{nat_eq, not, int_lt, ◌<ℤ◌, option_map}
use Rattle.std.specs.Bool.{beq}
use Rattle.std.specs.Ordering.{int_eq}
use Rattle.std.specs.List.{list_any}
use Rattle.std.proofs.lemmas.Bool.{and_parts, and_from, false_from_ne_true, both_ways}
use Rattle.std.proofs.lemmas.Bool.Decides.{Decides-int_eq}
use Rattle.sync_base.proofs.Basics.{and_false as and_no}
use Rattle.sync_base.specs.declared.stops.Rule.TheVariants.{K4}
use Rattle.sync_terms.specs.declared.nodes.FormId.{FormId}
use Rattle.sync_terms.specs.Trees.{Tree, Formula, Le, Lt, Eq, Not, And, Or, Imp}
use Rattle.sync_terms.specs.Stored.{Stored, formula, IsForm, IsShared}
use Rattle.sync_linear.specs.Lines.{Line, IsLine}
use Rattle.sync_linear.specs.Forms.{constant_of, Narrow}
use Rattle.sync_linear.specs.Stores.{IsLineOf}
use Rattle.sync_kernel_facts.specs.declared.literals.Literal.{Literal}
use Rattle.sync_kernel.specs.declared.rows.Shape.{Shape}
use Rattle.sync_kernel.specs.declared.rows.Kind.{Kind}
use Rattle.sync_kernel.specs.declared.rows.Kind.TheVariants.{AtMostZero, Zero, NotZero}
use Rattle.sync_kernel_facts.specs.Facts.{Fact}
use Rattle.sync_kernel.specs.Rows.{Row, narrow, no_atom, is_false, formula_eq}
use Rattle.sync_kernel.specs.Steps.{at_line, is_false_row, same_fault}
use Rattle.sync_kernel.specs.Shapes.{row_shaped}
use Rattle.sync_kernel_facts.specs.Literals.{literal_form, IsLiteral, IsBare, same_literal, is_negation}
use Rattle.sync_kernel.specs.Opposed.{closes_same}
use Rattle.sync_kernel.proofs.Atoms.{is_narrow, narrow_is}
use Rattle.sync_kernel.proofs.Closing.{empty_is, is_empty, shown, above}
use Rattle.sync_kernel.proofs.Opposing.{same_bool, ids_tell, same_test}

-- ---- lines without atoms
module _ (s : Stored) (t : Tree) (l : Line) (is : IsLine l) (i : IsLineOf s t l) where
  pub line_shows : (k : Kind) (b : Bool) → (b ≡ true → (l.atoms ≡ []) × (pos 0 <ℤ l.constant)) → ((l.atoms ≡ []) × (pos 0 <ℤ l.constant) → b ≡ true) → k ≡ AtMostZero → b ≡ (no_atom t && is_false k (constant_of t))
  line_shows AtMostZero b f g e = same_bool b (no_atom t && int_lt (pos 0) (constant_of t))
      (λ h. (let p = f h in and_from (no_atom t) (int_lt (pos 0) (constant_of t)) (empty_is s t l i p.0) (shown (constant_of t) (subst (λ (z : ℤ). pos 0 <ℤ z) i.constant p.1)).0))
      (λ h. (let p = and_parts (no_atom t) (int_lt (pos 0) (constant_of t)) h in g (is_empty s t l l.atoms is i refl p.0, subst (λ (z : ℤ). pos 0 <ℤ z) (sym i.constant) (above (constant_of t) p.1))))
  line_shows Zero b f g e = absurd (cc)
  line_shows NotZero b f g e = absurd (cc)

  zero_test : (b : Bool) → (b ≡ true → (l.atoms ≡ []) × (l.constant ≡ pos 0)) → ((l.atoms ≡ []) × (l.constant ≡ pos 0) → b ≡ true) → b ≡ (no_atom t && int_eq (constant_of t) (pos 0))
  zero_test b f g = same_bool b (no_atom t && int_eq (constant_of t) (pos 0))
      (λ h. (let p = f h in and_from (no_atom t) (int_eq (constant_of t) (pos 0)) (empty_is s t l i p.0) ((Decides-int_eq (constant_of t) (pos 0)).1 (sym i.constant ∙ p.1))))
      (λ h. (let p = and_parts (no_atom t) (int_eq (constant_of t) (pos 0)) h in g (is_empty s t l l.atoms is i refl p.0, i.constant ∙ (Decides-int_eq (constant_of t) (pos 0)).0 p.1)))

  pub line_not_zero : (k : Kind) (b : Bool) → (b ≡ true → (l.atoms ≡ []) × (l.constant ≡ pos 0)) → ((l.atoms ≡ []) × (l.constant ≡ pos 0) → b ≡ true) → k ≡ NotZero → b ≡ (no_atom t && is_false k (constant_of t))
  line_not_zero NotZero b f g e = zero_test b f g
  line_not_zero AtMostZero b f g e = absurd (cc)
  line_not_zero Zero b f g e = absurd (cc)

  and_true : (n b : Bool) → n ≡ true → (n && b) ≡ b
  and_true true b e = refl
  and_true false b e = absurd (cc)

  pub line_zero : (k : Kind) (b : Bool) → l.atoms ≡ [] → (b ≡ true → (l.atoms ≡ []) × (l.constant ≡ pos 0)) → ((l.atoms ≡ []) × (l.constant ≡ pos 0) → b ≡ true) → k ≡ Zero → not b ≡ (no_atom t && is_false k (constant_of t))
  line_zero Zero b empty f g e =
      let n = empty_is s t l i empty in
      ap not (zero_test b f g ∙ and_true (no_atom t) (int_eq (constant_of t) (pos 0)) n) ∙ sym (and_true (no_atom t) (not (int_eq (constant_of t) (pos 0))) n)
  line_zero AtMostZero b empty f g e = absurd (cc)
  line_zero NotZero b empty f g e = absurd (cc)

  and_false : (n b c : Bool) → c ≡ false → (n ≡ true → ⊥) → c ≡ (n && b)
  and_false true b c e h = absurd (h refl)
  and_false false b c e h = e

  pub line_not_number : (k : Kind) (c : Bool) → c ≡ false → (l.atoms ≡ [] → c ≡ true) → c ≡ (no_atom t && is_false k (constant_of t))
  line_not_number k c e g = and_false (no_atom t) (is_false k (constant_of t)) c e (λ n. both_ways c e (g (is_empty s t l l.atoms is i refl n)))

-- ---- the false line of what is said
pub false_known : (s : Stored) (row : Option Row) (shape : Option Shape) (sh : Shape) (b : Bool) → option_map (row_shaped s) shape ≡ row → shape ≡ Some sh → Narrow (row_shaped s sh).line
    → b ≡ (no_atom (row_shaped s sh).line && is_false sh.kind (constant_of (row_shaped s sh).line)) → b ≡ is_false_row row
false_known s row shape sh b e g n f =
    f ∙ sym (ap (λ (x : Bool). x && (no_atom (row_shaped s sh).line && is_false sh.kind (constant_of (row_shaped s sh).line))) (is_narrow (row_shaped s sh).line n))
    ∙ ap is_false_row (sym (ap (option_map (row_shaped s)) g) ∙ e)

pub wide_known : (s : Stored) (row : Option Row) (shape : Option Shape) (sh : Shape) → option_map (row_shaped s) shape ≡ row → shape ≡ Some sh → (Narrow (row_shaped s sh).line → ⊥) → false ≡ is_false_row row
wide_known s row shape sh e g n =
    sym (ap (λ (x : Bool). x && (no_atom (row_shaped s sh).line && is_false sh.kind (constant_of (row_shaped s sh).line))) (false_from_ne_true (narrow (row_shaped s sh).line) (λ t. n (narrow_is (row_shaped s sh).line t))))
    ∙ ap is_false_row (sym (ap (option_map (row_shaped s)) g) ∙ e)

-- ---- literals tell formulas apart
apart_forms : (f g : Formula) → is_negation g ≡ false → formula_eq (Not f) g ≡ false
apart_forms f (Not g) h = absurd (cc)
apart_forms f (Le a b) h = refl
apart_forms f (Lt a b) h = refl
apart_forms f (Eq a b) h = refl
apart_forms f (And a b) h = refl
apart_forms f (Or a b) h = refl
apart_forms f (Imp a b) h = refl

apart_back : (f g : Formula) → is_negation f ≡ false → formula_eq f (Not g) ≡ false
apart_back (Not f) g h = absurd (cc)
apart_back (Le a b) g h = refl
apart_back (Lt a b) g h = refl
apart_back (Eq a b) g h = refl
apart_back (And a b) g h = refl
apart_back (Or a b) g h = refl
apart_back (Imp a b) g h = refl

and_yes : (a : Bool) → (a && true) ≡ a
and_yes true = refl
and_yes false = refl

signs_tell : (s : Stored) (a b : FormId) (m n : Bool) → IsShared s → IsForm s a → IsForm s b → (m ≡ false → is_negation (formula s a) ≡ false) → (n ≡ false → is_negation (formula s b) ≡ false)
    → (nat_eq a.0 b.0 && beq m n) ≡ formula_eq (if m then Not (formula s a) else formula s a) (if n then Not (formula s b) else formula s b)
signs_tell s a b true true shared p q f g = and_yes (nat_eq a.0 b.0) ∙ ids_tell s a b shared p q
signs_tell s a b true false shared p q f g = and_no (nat_eq a.0 b.0) ∙ sym (apart_forms (formula s a) (formula s b) (g refl))
signs_tell s a b false true shared p q f g = and_no (nat_eq a.0 b.0) ∙ sym (apart_back (formula s a) (formula s b) (f refl))
signs_tell s a b false false shared p q f g = and_yes (nat_eq a.0 b.0) ∙ ids_tell s a b shared p q

pub literals_tell : (s : Stored) (a b : Literal) → IsShared s → IsLiteral s a → IsLiteral s b → IsBare s a → IsBare s b → same_literal a b ≡ formula_eq (literal_form s a) (literal_form s b)
literals_tell s a b shared p q f g = signs_tell s a.form b.form a.negated b.negated shared p q f g

-- ---- the whole step
pub fault_none : (line : ℕ) (fs : List Fact) → list_any (closes_same fs) fs ≡ true → at_line line (same_fault fs) ≡ None
fault_none line fs h = ap (λ (b : Bool). at_line line (if b then None else Some K4)) (sym (same_test fs) ∙ h)

pub fault_some : (line : ℕ) (fs : List Fact) → list_any (closes_same fs) fs ≡ false → at_line line (same_fault fs) ≡ Some (record { line = line; rule = K4 })
fault_some line fs h = ap (λ (b : Bool). at_line line (if b then None else Some K4)) (sym (same_test fs) ∙ h)
