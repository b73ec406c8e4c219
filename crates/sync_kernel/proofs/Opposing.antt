-- `same`: facts that are each other's negation, found by the ids of formulas.
use Rattle.std.proofs.Common.{◌≡◌, ◌⊎◌, inl, inr, ℕ, Bool, true, false, ◌&&◌, ◌||◌, if◌then◌else◌, List, [], ◌∷◌, ◌++◌, Some, None, refl, sym, ap, subst, ◌∙◌}
use Rattle.std.specs.Prelude.{nat_eq}
use Rattle.std.specs.List.{list_any}
use Rattle.std.proofs.lemmas.Bool.{and_parts, and_from, or_cases, or_left, or_right, eqb-true, eq-eqb}
use Rattle.sync_base.proofs.Basics.{or_assoc, or_false}
use Rattle.sync_base.specs.declared.stops.Rule.TheVariants.{K4}
use Rattle.sync_terms.specs.declared.nodes.FormId.{FormId}
use Rattle.sync_terms.specs.Trees.{Tree, Formula, Le, Lt, Eq, Not, And, Or, Imp, neg}
use Rattle.sync_terms.specs.Values.{Valuation, truth, Holds}
use Rattle.sync_terms.specs.Stored.{Stored, formula, IsForm, IsShared}
use Rattle.sync_linear.specs.Forms.{tree_eq}
use Rattle.sync_linear.proofs.Trees.{same_tree, tree_is}
use Rattle.sync_kernel_facts.specs.Facts.{Fact, is_plain}
use Rattle.sync_kernel.specs.Rows.{row_of, formula_eq}
use Rattle.sync_kernel.specs.Steps.{is_opposed, is_false_row, same_fault}
use Rattle.sync_kernel.specs.Opposed.{is_undone, closes_same}
use Rattle.sync_kernel.proofs.Sound.{AllHold, truth_neg, false_row_refutes, not_true}

-- ---- equality of formulas by a test
both : (f : Tree → Tree → Formula) (a b c d : Tree) → a ≡ c → b ≡ d → f a b ≡ f c d
both f a b c d e g = ap (λ (x : Tree). f x b) e ∙ ap (f c) g

pair : (f : Formula → Formula → Formula) (a b c d : Formula) → a ≡ c → b ≡ d → f a b ≡ f c d
pair f a b c d e g = ap (λ (x : Formula). f x b) e ∙ ap (f c) g

pub same_formula : (f g : Formula) → formula_eq f g ≡ true → f ≡ g
same_formula (Le a b) (Le c d) e = let p = and_parts (tree_eq a c) (tree_eq b d) e in both Le a b c d (same_tree a c p.0) (same_tree b d p.1)
same_formula (Lt a b) (Lt c d) e = let p = and_parts (tree_eq a c) (tree_eq b d) e in both Lt a b c d (same_tree a c p.0) (same_tree b d p.1)
same_formula (Eq a b) (Eq c d) e = let p = and_parts (tree_eq a c) (tree_eq b d) e in both Eq a b c d (same_tree a c p.0) (same_tree b d p.1)
same_formula (Not f) (Not g) e = ap Not (same_formula f g e)
same_formula (And f g) (And h i) e = let p = and_parts (formula_eq f h) (formula_eq g i) e in pair And f g h i (same_formula f h p.0) (same_formula g i p.1)
same_formula (Or f g) (Or h i) e = let p = and_parts (formula_eq f h) (formula_eq g i) e in pair Or f g h i (same_formula f h p.0) (same_formula g i p.1)
same_formula (Imp f g) (Imp h i) e = let p = and_parts (formula_eq f h) (formula_eq g i) e in pair Imp f g h i (same_formula f h p.0) (same_formula g i p.1)
same_formula _ _ e = absurd (cc)

pub formula_is : (f : Formula) → formula_eq f f ≡ true
formula_is (Le a b) = and_from (tree_eq a a) (tree_eq b b) (tree_is a) (tree_is b)
formula_is (Lt a b) = and_from (tree_eq a a) (tree_eq b b) (tree_is a) (tree_is b)
formula_is (Eq a b) = and_from (tree_eq a a) (tree_eq b b) (tree_is a) (tree_is b)
formula_is (Not f) = formula_is f
formula_is (And f g) = and_from (formula_eq f f) (formula_eq g g) (formula_is f) (formula_is g)
formula_is (Or f g) = and_from (formula_eq f f) (formula_eq g g) (formula_is f) (formula_is g)
formula_is (Imp f g) = and_from (formula_eq f f) (formula_eq g g) (formula_is f) (formula_is g)

pub same_bool : (a b : Bool) → (a ≡ true → b ≡ true) → (b ≡ true → a ≡ true) → a ≡ b
same_bool true b f g = sym (f refl)
same_bool false true f g = g refl
same_bool false false f g = refl

-- ---- a fact of a list
abbrev pub Among : Fact → List Fact → Type 0
Among f [] = ⊥
Among f (x ∷ xs) = (f ≡ x) ⊎ Among f xs

pub any_from : (test : Fact → Bool) (f : Fact) (fs : List Fact) → Among f fs → test f ≡ true → list_any test fs ≡ true
any_from test f [] m t = absurd m
any_from test f (x ∷ xs) (inl e) t = or_left (test x) (list_any test xs) (subst (λ (y : Fact). test y ≡ true) e t)
any_from test f (x ∷ xs) (inr m) t = or_right (test x) (list_any test xs) (any_from test f xs m t)

pub any_to : (test : Fact → Bool) (fs : List Fact) → list_any test fs ≡ true → (f : Fact) × Among f fs × (test f ≡ true)
any_to test [] h = absurd (cc)
any_to test (x ∷ xs) h = elim (or_cases (test x) (list_any test xs) h) [
  | inl e ↦ (x, inl refl, e)
  | inr r ↦ (let p = any_to test xs r in (p.0, inr p.1, p.2))
]

holds_among : (v : Valuation) (f : Fact) (fs : List Fact) → AllHold v fs → Among f fs → is_plain f ≡ true → Holds v f.form
holds_among v f [] h m p = absurd m
holds_among v f (x ∷ xs) h (inl e) p = (subst (λ (y : Fact). is_plain y ≡ true → Holds v y.form) (sym e) h.0) p
holds_among v f (x ∷ xs) h (inr m) p = holds_among v f xs h.1 m p

abbrev full : List Fact → Fact → Bool
full fs f = is_plain f && (is_opposed fs f || is_false_row (row_of f.form))

-- ---- `same` is sound
refuted : (v : Valuation) (fs : List Fact) → AllHold v fs → list_any (full fs) fs ≡ true → ⊥
refuted v fs hold h =
    let a = any_to (full fs) fs h in
    let f = a.0 in
    let p = and_parts (is_plain f) (is_opposed fs f || is_false_row (row_of f.form)) a.2 in
    let true_f = holds_among v f fs hold a.1 p.0 in
    elim (or_cases (is_opposed fs f) (is_false_row (row_of f.form)) p.1) [
      | inl o ↦ (let b = any_to (λ (g : Fact). is_plain g && formula_eq g.form (neg f.form)) fs o in
          let q = and_parts (is_plain b.0) (formula_eq b.0.form (neg f.form)) b.2 in
          let true_g = holds_among v b.0 fs hold b.1 q.0 in
          let other : truth v (neg f.form) ≡ true = subst (λ (x : Formula). truth v x ≡ true) (same_formula b.0.form (neg f.form) q.1) true_g in
          not_true (truth v f.form) (sym (truth_neg v f.form) ∙ other) true_f)
      | inr r ↦ false_row_refutes v f.form true_f r
    ]

none_of : (b : Bool) → (if b then None else Some K4) ≡ None → b ≡ true
none_of true h = refl
none_of false h = absurd (cc)

pub same_refutes : (v : Valuation) (fs : List Fact) → AllHold v fs → same_fault fs ≡ None → ⊥
same_refutes v fs hold h = refuted v fs hold (none_of (list_any (full fs) fs) h)

-- ---- it is enough to look from the negated side
opposes_form : (fs : List Fact) (f : Formula) → is_undone fs f ≡ true → list_any (λ (g : Fact). is_plain g && formula_eq g.form (neg f)) fs ≡ true
opposes_form fs (Not f) h = h
opposes_form fs (Le a b) h = absurd (cc)
opposes_form fs (Lt a b) h = absurd (cc)
opposes_form fs (Eq a b) h = absurd (cc)
opposes_form fs (And a b) h = absurd (cc)
opposes_form fs (Or a b) h = absurd (cc)
opposes_form fs (Imp a b) h = absurd (cc)

opposes : (fs : List Fact) (f : Fact) → is_undone fs f.form ≡ true → is_opposed fs f ≡ true
opposes fs f h = opposes_form fs f.form h

undone_by : (fs : List Fact) (f g : Fact) → Among g fs → is_plain g ≡ true → f.form ≡ Not g.form → is_undone fs f.form ≡ true
undone_by fs f g m p e =
    subst (λ (x : Formula). is_undone fs x ≡ true) (sym e)
    (any_from (λ (x : Fact). is_plain x && formula_eq x.form g.form) g fs m (and_from (is_plain g) (formula_eq g.form g.form) p (formula_is g.form)))

either_form : (f g : Formula) → g ≡ neg f → (f ≡ Not g) ⊎ (g ≡ Not f)
either_form (Le a b) g e = inr e
either_form (Lt a b) g e = inr e
either_form (Eq a b) g e = inr e
either_form (Not f) g e = inl (ap Not (sym e))
either_form (And a b) g e = inr e
either_form (Or a b) g e = inr e
either_form (Imp a b) g e = inr e

to_undone : (fs : List Fact) → list_any (full fs) fs ≡ true → list_any (closes_same fs) fs ≡ true
to_undone fs h =
    let a = any_to (full fs) fs h in
    let f = a.0 in
    let p = and_parts (is_plain f) (is_opposed fs f || is_false_row (row_of f.form)) a.2 in
    elim (or_cases (is_opposed fs f) (is_false_row (row_of f.form)) p.1) [
      | inl o ↦ (let b = any_to (λ (g : Fact). is_plain g && formula_eq g.form (neg f.form)) fs o in
          let q = and_parts (is_plain b.0) (formula_eq b.0.form (neg f.form)) b.2 in
          elim (either_form f.form b.0.form (same_formula b.0.form (neg f.form) q.1)) [
            | inl e ↦ any_from (closes_same fs) f fs a.1 (and_from (is_plain f) (is_undone fs f.form || is_false_row (row_of f.form)) p.0
                (or_left (is_undone fs f.form) (is_false_row (row_of f.form)) (undone_by fs f b.0 b.1 q.0 e)))
            | inr e ↦ any_from (closes_same fs) b.0 fs b.1 (and_from (is_plain b.0) (is_undone fs b.0.form || is_false_row (row_of b.0.form)) q.0
                (or_left (is_undone fs b.0.form) (is_false_row (row_of b.0.form)) (undone_by fs b.0 f a.1 p.0 e)))
          ])
      | inr r ↦ any_from (closes_same fs) f fs a.1 (and_from (is_plain f) (is_undone fs f.form || is_false_row (row_of f.form)) p.0 (or_right (is_undone fs f.form) (is_false_row (row_of f.form)) r))
    ]

from_undone : (fs : List Fact) → list_any (closes_same fs) fs ≡ true → list_any (full fs) fs ≡ true
from_undone fs h =
    let a = any_to (closes_same fs) fs h in
    let f = a.0 in
    let p = and_parts (is_plain f) (is_undone fs f.form || is_false_row (row_of f.form)) a.2 in
    any_from (full fs) f fs a.1 (and_from (is_plain f) (is_opposed fs f || is_false_row (row_of f.form)) p.0
    (elim (or_cases (is_undone fs f.form) (is_false_row (row_of f.form)) p.1) [
      | inl u ↦ or_left (is_opposed fs f) (is_false_row (row_of f.form)) (opposes fs f u)
      | inr r ↦ or_right (is_opposed fs f) (is_false_row (row_of f.form)) r
    ]))

pub same_test : (fs : List Fact) → list_any (closes_same fs) fs ≡ list_any (full fs) fs
same_test fs = same_bool (list_any (closes_same fs) fs) (list_any (full fs) fs) (from_undone fs) (to_undone fs)

-- ---- by ids
pub ids_tell : (s : Stored) (f g : FormId) → IsShared s → IsForm s f → IsForm s g → nat_eq f.0 g.0 ≡ formula_eq (formula s f) (formula s g)
ids_tell s f g shared p q = same_bool (nat_eq f.0 g.0) (formula_eq (formula s f) (formula s g))
    (λ e. (let same : f ≡ g = ap (λ (n : ℕ). record { 0 = n }) (eqb-true f.0 g.0 e) in subst (λ (x : FormId). formula_eq (formula s f) (formula s x) ≡ true) same (formula_is (formula s f))))
    (λ e. eq-eqb f.0 g.0 (ap (λ (x : FormId). x.0) (shared.forms f g p q (same_formula (formula s f) (formula s g) e))))

pub any_push : (test : Fact → Bool) (fs : List Fact) (f : Fact) → list_any test (fs ++ f ∷ []) ≡ (list_any test fs || test f)
any_push test [] f = or_false (test f)
any_push test (x ∷ xs) f = ap (λ (b : Bool). test x || b) (any_push test xs f) ∙ sym (or_assoc (test x) (list_any test xs) (test f))
