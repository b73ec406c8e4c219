-- Nodes of formulas over parts that were read.
use Rattle.std.proofs.Common.{◌≡◌, ℕ, ◌≤◌, ◌⊎◌, inl, inr, sym, ap, ◌∙◌, subst, arith, Result}
use Rattle.std.specs.Prelude.{IsErrAnd}
use Rattle.sync_terms.specs.declared.store.TermStop.{TermStop}
use Rattle.sync_typing_ledgers.specs.Entries.{Kept}
use Rattle.sync_typing_reading.specs.Sayings.{stands_in, AreSaidOf}
use Rattle.sync_typing_reading.proofs.Staying.{stands_more}
use Rattle.sync_terms.proofs.BuildingLemmas.{form_shape-node, BuildsForm-stop, StopsBuilding-more}
use Rattle.sync_terms.specs.declared.nodes.TermId.{TermId}
use Rattle.sync_terms.specs.declared.nodes.FormId.{FormId}
use Rattle.sync_terms.specs.declared.nodes.FormNode.{FormNode}
use Rattle.sync_terms.specs.declared.nodes.FormNode.TheVariants as form
use Rattle.sync_terms.specs.Stored.{Stored, tree, formula, form_shape, IsTerm, IsForm, HasParts, Extends}
use Rattle.sync_terms.specs.Building.{HasTerm, HasForm, BuildsForm, StopsBuilding, node_formula}
use Rattle.sync_terms.specs.Trees.{Tree, Formula, Le, Lt, Eq, Not, And, Or, Imp, tree_size, formula_size, replaced, replaced_in}
use Rattle.sync_typing_reading.specs.Nodes.{compared_over, joined_over}

by_three : {A : Type 0} (P : A → Type 0) {n a b c : A} → (n ≡ a) ⊎ ((n ≡ b) ⊎ (n ≡ c)) → P a → P b → P c → P n
by_three P (inl e) p q r = subst P (sym e) p
by_three P (inr (inl e)) p q r = subst P (sym e) q
by_three P (inr (inr e)) p q r = subst P (sym e) r

of_two : {A B : Type 0} (F : A → A → B) {a b c d : A} → a ≡ c → b ≡ d → F a b ≡ F c d
of_two F p q = λ i. F (p i) (q i)

-- a node that compares two terms
pub record Compares (a b : TermId) (n : FormNode) : Type 0 where
  pub parts : (s : Stored) → HasParts s n → IsTerm s a × IsTerm s b
  pub read : (g : ℕ → Tree) (s t : Stored) (l r : TermId) → HasTerm t (replaced g (tree s a)) l
      → HasTerm t (replaced g (tree s b)) r
      → HasParts t (compared_over n l r) × (node_formula t (compared_over n l r) ≡ replaced_in g (node_formula s n))
  pub left : (g : ℕ → Tree) (s : Stored) → tree_size (replaced g (tree s a)) ≤ formula_size (replaced_in g (node_formula s n))
  pub right : (g : ℕ → Tree) (s : Stored) → tree_size (replaced g (tree s b)) ≤ formula_size (replaced_in g (node_formula s n))

le_compares : (a b : TermId) → Compares a b (form.Le a b)
unfolding replaced_in formula_size
le_compares a b = record {
  parts = λ s h. h;
  read = λ g s t l r p q. ((p.stored, q.stored), of_two Le p.value q.value);
  left = λ g s. omega arith;
  right = λ g s. omega arith;
}

lt_compares : (a b : TermId) → Compares a b (form.Lt a b)
unfolding replaced_in formula_size
lt_compares a b = record {
  parts = λ s h. h;
  read = λ g s t l r p q. ((p.stored, q.stored), of_two Lt p.value q.value);
  left = λ g s. omega arith;
  right = λ g s. omega arith;
}

eq_compares : (a b : TermId) → Compares a b (form.Eq a b)
unfolding replaced_in formula_size
eq_compares a b = record {
  parts = λ s h. h;
  read = λ g s t l r p q. ((p.stored, q.stored), of_two Eq p.value q.value);
  left = λ g s. omega arith;
  right = λ g s. omega arith;
}

pub compares : (a b : TermId) (n : FormNode) → (n ≡ form.Le a b) ⊎ ((n ≡ form.Lt a b) ⊎ (n ≡ form.Eq a b))
    → Compares a b n
compares a b n is = by_three (Compares a b) is (le_compares a b) (lt_compares a b) (eq_compares a b)

-- a node that joins two formulas
pub record Joins (f h : FormId) (n : FormNode) : Type 0 where
  pub parts : (s : Stored) → HasParts s n → IsForm s f × IsForm s h
  pub read : (g : ℕ → Tree) (s t : Stored) (l r : FormId) → HasForm t (replaced_in g (formula s f)) l
      → HasForm t (replaced_in g (formula s h)) r
      → HasParts t (joined_over n l r) × (node_formula t (joined_over n l r) ≡ replaced_in g (node_formula s n))
  pub left : (g : ℕ → Tree) (s : Stored)
      → formula_size (replaced_in g (formula s f)) ≤ formula_size (replaced_in g (node_formula s n))
  pub right : (g : ℕ → Tree) (s : Stored)
      → formula_size (replaced_in g (formula s h)) ≤ formula_size (replaced_in g (node_formula s n))

and_joins : (f h : FormId) → Joins f h (form.And f h)
unfolding replaced_in formula_size
and_joins f h = record {
  parts = λ s are. are;
  read = λ g s t l r p q. ((p.stored, q.stored), of_two And p.value q.value);
  left = λ g s. omega arith;
  right = λ g s. omega arith;
}

or_joins : (f h : FormId) → Joins f h (form.Or f h)
unfolding replaced_in formula_size
or_joins f h = record {
  parts = λ s are. are;
  read = λ g s t l r p q. ((p.stored, q.stored), of_two Or p.value q.value);
  left = λ g s. omega arith;
  right = λ g s. omega arith;
}

imp_joins : (f h : FormId) → Joins f h (form.Imp f h)
unfolding replaced_in formula_size
imp_joins f h = record {
  parts = λ s are. are;
  read = λ g s t l r p q. ((p.stored, q.stored), of_two Imp p.value q.value);
  left = λ g s. omega arith;
  right = λ g s. omega arith;
}

pub joins : (f h : FormId) (n : FormNode) → (n ≡ form.And f h) ⊎ ((n ≡ form.Or f h) ⊎ (n ≡ form.Imp f h)) → Joins f h n
joins f h n is = by_three (Joins f h) is (and_joins f h) (or_joins f h) (imp_joins f h)

-- ---- a negation

pub negated_fits : (g : ℕ → Tree) (s : Stored) (f : FormId) (n : FormNode) → n ≡ form.Not f
    → formula_size (replaced_in g (formula s f)) ≤ formula_size (replaced_in g (node_formula s n))
unfolding replaced_in formula_size
negated_fits g s f n is =
    subst (λ (m : FormNode). formula_size (replaced_in g (formula s f)) ≤ formula_size (replaced_in g (node_formula s m))) (sym is) (omega arith)

pub negated_read : (g : ℕ → Tree) (s t : Stored) (f l : FormId) (n : FormNode) → n ≡ form.Not f
    → HasForm t (replaced_in g (formula s f)) l → node_formula t (form.Not l) ≡ replaced_in g (node_formula s n)
unfolding replaced_in
negated_read g s t f l n is p = ap Not p.value ∙ ap (λ (m : FormNode). replaced_in g (node_formula s m)) (sym is)

-- ---- what is read where the store has grown

module _ (k : Kept) {s t : Stored} (more : Extends s t) (said : AreSaidOf s k) where
  pub term_then : (a : TermId) → IsTerm s a
      → replaced (stands_in t k) (tree t a) ≡ replaced (stands_in s k) (tree s a)
  term_then a is = let p = stands_more more k said in let q = (more.terms a is).1 in λ i. replaced (p i) (q i)

  pub form_then : (f : FormId) → IsForm s f
      → replaced_in (stands_in t k) (formula t f) ≡ replaced_in (stands_in s k) (formula s f)
  form_then f is = let p = stands_more more k said in let q = (more.forms f is).1 in λ i. replaced_in (p i) (q i)

-- ---- the whole

pub whole : (g : ℕ → Tree) (s : Stored) (n : FormNode) (id : FormId) → form_shape s n ≡ formula s id
    → replaced_in g (node_formula s n) ≡ replaced_in g (formula s id)
whole g s n id is = ap (replaced_in g) (sym (form_shape-node s n) ∙ is)

-- where a part is too large
pub part_stops : (g : ℕ → Tree) (s u : Stored) (n : FormNode) (id : FormId) (size : ℕ) (e : TermStop)
    (r : Result FormId TermStop) → form_shape s n ≡ formula s id → size ≤ formula_size (replaced_in g (node_formula s n))
    → StopsBuilding size e → IsErrAnd r (λ y. y ≡ e) → BuildsForm u (replaced_in g (formula s id)) r
part_stops g s u n id size e r is fits stop was =
    BuildsForm-stop e r was
    (StopsBuilding-more e stop (subst (λ (f : Formula). size ≤ formula_size f) (whole g s n id is) fits))
