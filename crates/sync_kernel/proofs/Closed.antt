-- Facts that `same` closes: one fact more, and fewer facts.
use Rattle.std.proofs.Common.{◌≡◌, ◌⊎◌, inl, inr, ℕ, ◌≤◌, Bool, true, false, ◌&&◌, ◌||◌, List, [], ◌∷◌, ◌++◌, take, drop, sym, ap, subst, ◌∙◌}
use Rattle.std.specs.List.{list_any}
use Rattle.std.proofs.lemmas.Bool.{and_parts, and_from, or_cases, or_left, or_right, both_ways, false_from_ne_true}
use Rattle.std.proofs.lemmas.List.{take-take, take-append-drop}
use Rattle.std.proofs.lemmas.List.Folds.{list_any-append}
use Rattle.sync_terms.specs.Trees.{Formula, Le, Lt, Eq, Not, And, Or, Imp}
use Rattle.sync_kernel_facts.specs.Facts.{Fact, is_plain}
use Rattle.sync_kernel.specs.Rows.{row_of, formula_eq}
use Rattle.sync_kernel.specs.Steps.{is_false_row}
use Rattle.sync_kernel.specs.Opposed.{is_fact, is_undone, is_closing, is_closing_with, closes_same}
use Rattle.sync_kernel.specs.Seen.{is_closed}
use Rattle.sync_kernel.proofs.Opposing.{Among, any_from, any_to, any_push, same_bool, same_formula, formula_is}

-- a fact without parameters that says this
abbrev tells : Formula → Fact → Bool
tells form g = is_plain g && formula_eq g.form form

-- ---- one fact more

no_own_negation : (f : Formula) → f ≡ Not f → ⊥
no_own_negation (Not f) e = no_own_negation f (cc)
no_own_negation (Le a b) e = cc
no_own_negation (Lt a b) e = cc
no_own_negation (Eq a b) e = cc
no_own_negation (And a b) e = cc
no_own_negation (Or a b) e = cc
no_own_negation (Imp a b) e = cc

module _ (fs gs : List Fact) where
  fact_longer : (form : Formula) → is_fact fs form ≡ true → is_fact (fs ++ gs) form ≡ true
  fact_longer form h = list_any-append (tells form) fs gs ∙ or_left (is_fact fs form) (list_any (tells form) gs) h

  undone_longer : (form : Formula) → is_undone fs form ≡ true → is_undone (fs ++ gs) form ≡ true
  undone_longer (Not f) h = fact_longer f h
  undone_longer (Le a b) h = h
  undone_longer (Lt a b) h = h
  undone_longer (Eq a b) h = h
  undone_longer (And a b) h = h
  undone_longer (Or a b) h = h
  undone_longer (Imp a b) h = h

  closing_longer : (form : Formula) → is_closing fs form ≡ true → is_closing (fs ++ gs) form ≡ true
  closing_longer form h = elim (or_cases (is_undone fs form) (is_false_row (row_of form)) h) [
    | inl u ↦ or_left (is_undone (fs ++ gs) form) (is_false_row (row_of form)) (undone_longer form u)
    | inr r ↦ or_right (is_undone (fs ++ gs) form) (is_false_row (row_of form)) r
  ]

  closed_longer : is_closed fs ≡ true → is_closed (fs ++ gs) ≡ true
  closed_longer h =
      let a = any_to (closes_same fs) fs h in
      let f = a.0 in
      let p = and_parts (is_plain f) (is_closing fs f.form) a.2 in
      list_any-append (closes_same (fs ++ gs)) fs gs
      ∙ or_left (list_any (closes_same (fs ++ gs)) fs) (list_any (closes_same (fs ++ gs)) gs)
      (any_from (closes_same (fs ++ gs)) f fs a.1 (and_from (is_plain f) (is_closing (fs ++ gs) f.form) p.0 (closing_longer f.form p.1)))

module _ (fs : List Fact) (f : Fact) (unclosed : is_closed fs ≡ false) where
  abbrev more : List Fact
  more = fs ++ f ∷ []

  fact_either : (form : Formula) → is_fact more form ≡ true → (is_fact fs form ≡ true) ⊎ ((is_plain f ≡ true) × (f.form ≡ form))
  fact_either form h = elim (or_cases (is_fact fs form) (tells form f) (sym (any_push (tells form) fs f) ∙ h)) [
    | inl e ↦ inl e
    | inr e ↦ (let p = and_parts (is_plain f) (formula_eq f.form form) e in inr (p.0, same_formula f.form form p.1))
  ]

  undone_either : (form : Formula) → is_undone more form ≡ true → (is_undone fs form ≡ true) ⊎ ((is_plain f ≡ true) × (form ≡ Not f.form))
  undone_either (Not g) h = elim (fact_either g h) [
    | inl e ↦ inl e
    | inr e ↦ inr (e.0, ap Not (sym e.1))
  ]
  undone_either (Le a b) h = inl h
  undone_either (Lt a b) h = inl h
  undone_either (Eq a b) h = inl h
  undone_either (And a b) h = inl h
  undone_either (Or a b) h = inl h
  undone_either (Imp a b) h = inl h

  -- no fact before closes alone or with those before
  none_before : (x : Fact) → Among x fs → is_plain x ≡ true → is_closing fs x.form ≡ true → ⊥
  none_before x m p h = both_ways (is_closed fs) unclosed (any_from (closes_same fs) x fs m (and_from (is_plain x) (is_closing fs x.form) p h))

  abbrev closing : Bool
  closing = is_plain f && is_closing_with fs f.form

  closing_by : is_plain f ≡ true → (is_undone fs f.form || is_fact fs (Not f.form)) ≡ true → closing ≡ true
  closing_by p h = and_from (is_plain f) (is_closing_with fs f.form) p (or_left (is_undone fs f.form || is_fact fs (Not f.form)) (is_false_row (row_of f.form)) h)

  -- a fact before closes with the new one
  by_before : (x : Fact) → Among x fs → is_plain x ≡ true → is_closing more x.form ≡ true → closing ≡ true
  by_before x m p h = elim (or_cases (is_undone more x.form) (is_false_row (row_of x.form)) h) [
    | inl u ↦ (elim (undone_either x.form u) [
      | inl v ↦ absurd (none_before x m p (or_left (is_undone fs x.form) (is_false_row (row_of x.form)) v))
      | inr v ↦ closing_by v.0 (or_right (is_undone fs f.form) (is_fact fs (Not f.form))
          (any_from (tells (Not f.form)) x fs m (and_from (is_plain x) (formula_eq x.form (Not f.form)) p (subst (λ (y : Formula). formula_eq x.form y ≡ true) v.1 (formula_is x.form)))))
    ])
    | inr r ↦ absurd (none_before x m p (or_right (is_undone fs x.form) (is_false_row (row_of x.form)) r))
  ]

  -- the new one does
  by_last : closes_same more f ≡ true → closing ≡ true
  by_last h =
      let p = and_parts (is_plain f) (is_closing more f.form) h in
      elim (or_cases (is_undone more f.form) (is_false_row (row_of f.form)) p.1) [
        | inl u ↦ (elim (undone_either f.form u) [
          | inl v ↦ closing_by p.0 (or_left (is_undone fs f.form) (is_fact fs (Not f.form)) v)
          | inr v ↦ absurd (no_own_negation f.form v.1)
        ])
        | inr r ↦ and_from (is_plain f) (is_closing_with fs f.form) p.0 (or_right (is_undone fs f.form || is_fact fs (Not f.form)) (is_false_row (row_of f.form)) r)
      ]

  to_closing : is_closed more ≡ true → closing ≡ true
  to_closing h = elim (or_cases (list_any (closes_same more) fs) (closes_same more f) (sym (any_push (closes_same more) fs f) ∙ h)) [
    | inl e ↦ (let a = any_to (closes_same more) fs e in let p = and_parts (is_plain a.0) (is_closing more a.0.form) a.2 in by_before a.0 a.1 p.0 p.1)
    | inr e ↦ by_last e
  ]

  last_closes : is_plain f ≡ true → is_closing more f.form ≡ true → is_closed more ≡ true
  last_closes p h = any_push (closes_same more) fs f ∙ or_right (list_any (closes_same more) fs) (closes_same more f) (and_from (is_plain f) (is_closing more f.form) p h)

  -- the negation of the new fact is a fact
  denied_before : is_plain f ≡ true → is_fact fs (Not f.form) ≡ true → is_closed more ≡ true
  denied_before p h =
      let a = any_to (tells (Not f.form)) fs h in
      let x = a.0 in
      let q = and_parts (is_plain x) (formula_eq x.form (Not f.form)) a.2 in
      let said : is_fact more f.form ≡ true = any_push (tells f.form) fs f ∙ or_right (is_fact fs f.form) (tells f.form f) (and_from (is_plain f) (formula_eq f.form f.form) p (formula_is f.form)) in
      let undone : is_undone more x.form ≡ true = subst (λ (y : Formula). is_undone more y ≡ true) (sym (same_formula x.form (Not f.form) q.1)) said in
      any_push (closes_same more) fs f
      ∙ or_left (list_any (closes_same more) fs) (closes_same more f)
      (any_from (closes_same more) x fs a.1 (and_from (is_plain x) (is_closing more x.form) q.0 (or_left (is_undone more x.form) (is_false_row (row_of x.form)) undone)))

  from_closing : closing ≡ true → is_closed more ≡ true
  from_closing h =
      let p = and_parts (is_plain f) (is_closing_with fs f.form) h in
      elim (or_cases (is_undone fs f.form || is_fact fs (Not f.form)) (is_false_row (row_of f.form)) p.1) [
        | inl o ↦ (elim (or_cases (is_undone fs f.form) (is_fact fs (Not f.form)) o) [
          | inl u ↦ last_closes p.0 (or_left (is_undone more f.form) (is_false_row (row_of f.form)) (undone_longer fs (f ∷ []) f.form u))
          | inr n ↦ denied_before p.0 n
        ])
        | inr r ↦ last_closes p.0 (or_right (is_undone more f.form) (is_false_row (row_of f.form)) r)
      ]

  -- facts that are open are closed by one fact more if it closes with them
  pub closed_with : is_closed (fs ++ f ∷ []) ≡ (is_plain f && is_closing_with fs f.form)
  closed_with = same_bool (is_closed more) closing to_closing from_closing

-- ---- fewer facts

pub closed_take : (n : ℕ) (fs : List Fact) → is_closed (take n fs) ≡ true → is_closed fs ≡ true
closed_take n fs h = subst (λ (gs : List Fact). is_closed gs ≡ true) (take-append-drop n fs) (closed_longer (take n fs) (drop n fs) h)

-- facts of open facts are open
pub open_before : (n m : ℕ) (fs : List Fact) → n ≤ m → is_closed (take m fs) ≡ false → is_closed (take n fs) ≡ false
open_before n m fs le unclosed =
    false_from_ne_true (is_closed (take n fs)) (λ h. both_ways (is_closed (take m fs)) unclosed (closed_take n (take m fs) (ap is_closed (take-take n m fs le) ∙ h)))
