-- What formulas of a store are taken apart into, by their nodes.
use Rattle.std.proofs.Common.{◌≡◌, ◌⊎◌, inl, inr, false, Option, Some, None, Ok, Err, refl, sym, ap, subst, ◌∙◌, arith}
use Rattle.std.specs.Prelude.{◌<◌}
use Rattle.sync_terms.specs.declared.nodes.TermId.{TermId}
use Rattle.sync_terms.specs.declared.nodes.FormId.{FormId}
use Rattle.sync_terms.specs.declared.nodes.FormNode.{FormNode}
use Rattle.sync_terms.specs.declared.nodes.FormNode.TheVariants as form
use Rattle.sync_terms.specs.declared.store.TermStop.{TermStop}
use Rattle.sync_terms.specs.declared.store.TermStop.TheVariants.{TooLarge, Memory}
use Rattle.sync_terms.specs.Trees.{most_nodes, Tree, Formula, Lt, neg, formula_size}
use Rattle.sync_terms.specs.Stored.{Stored, tree, formula, form_shape, IsTerm, IsForm, Extends}
use Rattle.sync_kernel_facts.specs.declared.literals.Literal.{Literal}
use Rattle.sync_kernel_facts.specs.Literals.{literal_form}
use Rattle.sync_kernel_facts.proofs.Saying.{by_shape, plain_says}
use Rattle.sync_kernel.specs.declared.splits.Pair.{Pair}
use Rattle.sync_kernel.specs.Pairs.{pair_forms, IsPair, TakesApart}
use Rattle.sync_kernel.specs.Taking.{Two, parts_of, parts_of_not, cases_of, cases_of_not}

-- two formulas
pub both_are : (f g h i : Formula) → f ≡ h → g ≡ i → ◌≡◌ {A = Option Two} (Some (record { left = f; right = g })) (Some (record { left = h; right = i }))
both_are f g h i p q = ap (λ (x : Formula). Some (record { left = x; right = g })) p ∙ ap (λ (x : Formula). Some (record { left = h; right = x })) q

module _ (s : Stored) (n : FormNode) (a b : FormId) (l r : Literal) where
  pub or_parts : n ≡ form.Or a b → literal_form s l ≡ neg (formula s a) → literal_form s r ≡ neg (formula s b) → Some (pair_forms s (record { left = l; right = r })) ≡ parts_of_not (form_shape s n)
  unfolding form_shape formula
  or_parts e f g = both_are (literal_form s l) (literal_form s r) (neg (formula s a)) (neg (formula s b)) f g ∙ ap (λ (x : FormNode). parts_of_not (form_shape s x)) (sym e)

  pub imp_parts : n ≡ form.Imp a b → literal_form s l ≡ formula s a → literal_form s r ≡ neg (formula s b) → Some (pair_forms s (record { left = l; right = r })) ≡ parts_of_not (form_shape s n)
  unfolding form_shape formula
  imp_parts e f g = both_are (literal_form s l) (literal_form s r) (formula s a) (neg (formula s b)) f g ∙ ap (λ (x : FormNode). parts_of_not (form_shape s x)) (sym e)

  pub and_parts_of : (f : Formula) → form_shape s n ≡ f → n ≡ form.And a b → literal_form s l ≡ formula s a → literal_form s r ≡ formula s b → Some (pair_forms s (record { left = l; right = r })) ≡ parts_of f
  unfolding form_shape formula
  and_parts_of f is e g h = both_are (literal_form s l) (literal_form s r) (formula s a) (formula s b) g h ∙ ap (λ (x : FormNode). parts_of (form_shape s x)) (sym e) ∙ ap parts_of is

  pub and_cases : n ≡ form.And a b → literal_form s l ≡ neg (formula s a) → literal_form s r ≡ neg (formula s b) → Some (pair_forms s (record { left = l; right = r })) ≡ cases_of_not (form_shape s n)
  unfolding form_shape formula
  and_cases e f g = both_are (literal_form s l) (literal_form s r) (neg (formula s a)) (neg (formula s b)) f g ∙ ap (λ (x : FormNode). cases_of_not (form_shape s x)) (sym e)

  pub or_cases_of : (f : Formula) → form_shape s n ≡ f → n ≡ form.Or a b → literal_form s l ≡ formula s a → literal_form s r ≡ formula s b → Some (pair_forms s (record { left = l; right = r })) ≡ cases_of f
  unfolding form_shape formula
  or_cases_of f is e g h = both_are (literal_form s l) (literal_form s r) (formula s a) (formula s b) g h ∙ ap (λ (x : FormNode). cases_of (form_shape s x)) (sym e) ∙ ap cases_of is

  pub imp_cases_of : (f : Formula) → form_shape s n ≡ f → n ≡ form.Imp a b → literal_form s l ≡ neg (formula s a) → literal_form s r ≡ formula s b → Some (pair_forms s (record { left = l; right = r })) ≡ cases_of f
  unfolding form_shape formula
  imp_cases_of f is e g h = both_are (literal_form s l) (literal_form s r) (neg (formula s a)) (formula s b) g h ∙ ap (λ (x : FormNode). cases_of (form_shape s x)) (sym e) ∙ ap cases_of is

-- what `!` before a formula leaves to its inside
pub not_parts : (s : Stored) (f : Formula) (n : FormNode) (inner : FormId) (o : Option Two) → form_shape s n ≡ f → n ≡ form.Not inner → o ≡ parts_of_not (formula s inner) → o ≡ parts_of f
unfolding form_shape formula
not_parts s f n inner o is e h = h ∙ ap (λ (x : FormNode). parts_of (form_shape s x)) (sym e) ∙ ap parts_of is

pub not_cases : (s : Stored) (f : Formula) (n : FormNode) (inner : FormId) → form_shape s n ≡ f → n ≡ form.Not inner → cases_of_not (formula s inner) ≡ cases_of f
unfolding form_shape formula
not_cases s f n inner is e = ap (λ (x : FormNode). cases_of (form_shape s x)) (sym e) ∙ ap cases_of is

-- formulas that are not taken apart
abbrev NotParts : Stored → FormNode → Type 0
NotParts s n = None ≡ parts_of_not (form_shape s n)

pub no_parts_not : (s : Stored) (n : FormNode)
    → ((a : TermId) × (b : TermId) × (n ≡ form.Le a b)) ⊎ (((a : TermId) × (b : TermId) × (n ≡ form.Lt a b)) ⊎ (((a : TermId) × (b : TermId) × (n ≡ form.Eq a b))
    ⊎ (((a : FormId) × (n ≡ form.Not a)) ⊎ ((a : FormId) × (b : FormId) × (n ≡ form.And a b)))))
    → NotParts s n
unfolding form_shape
no_parts_not s n (inl h) = subst (NotParts s) (sym h.2) refl
no_parts_not s n (inr (inl h)) = subst (NotParts s) (sym h.2) refl
no_parts_not s n (inr (inr (inl h))) = subst (NotParts s) (sym h.2) refl
no_parts_not s n (inr (inr (inr (inl h)))) = subst (NotParts s) (sym h.1) refl
no_parts_not s n (inr (inr (inr (inr h)))) = subst (NotParts s) (sym h.2) refl

abbrev NoCases : Stored → FormNode → Type 0
NoCases s n = None ≡ cases_of_not (form_shape s n)

pub no_cases_not : (s : Stored) (n : FormNode)
    → ((a : TermId) × (b : TermId) × (n ≡ form.Le a b)) ⊎ (((a : TermId) × (b : TermId) × (n ≡ form.Lt a b)) ⊎ (((a : FormId) × (n ≡ form.Not a))
    ⊎ (((a : FormId) × (b : FormId) × (n ≡ form.Or a b)) ⊎ ((a : FormId) × (b : FormId) × (n ≡ form.Imp a b)))))
    → NoCases s n
unfolding form_shape
no_cases_not s n (inl h) = subst (NoCases s) (sym h.2) refl
no_cases_not s n (inr (inl h)) = subst (NoCases s) (sym h.2) refl
no_cases_not s n (inr (inr (inl h))) = subst (NoCases s) (sym h.1) refl
no_cases_not s n (inr (inr (inr (inl h)))) = subst (NoCases s) (sym h.2) refl
no_cases_not s n (inr (inr (inr (inr h)))) = subst (NoCases s) (sym h.2) refl

pub no_parts : (s : Stored) (f : Formula) (n : FormNode) → form_shape s n ≡ f
    → ((a : TermId) × (b : TermId) × (n ≡ form.Le a b)) ⊎ (((a : TermId) × (b : TermId) × (n ≡ form.Lt a b)) ⊎ (((a : TermId) × (b : TermId) × (n ≡ form.Eq a b))
    ⊎ (((a : FormId) × (b : FormId) × (n ≡ form.Or a b)) ⊎ ((a : FormId) × (b : FormId) × (n ≡ form.Imp a b)))))
    → None ≡ parts_of f
unfolding form_shape
no_parts s f n is (inl h) = by_shape s f n (form.Le h.0 h.1) (λ (x : Formula). None ≡ parts_of x) is h.2 refl
no_parts s f n is (inr (inl h)) = by_shape s f n (form.Lt h.0 h.1) (λ (x : Formula). None ≡ parts_of x) is h.2 refl
no_parts s f n is (inr (inr (inl h))) = by_shape s f n (form.Eq h.0 h.1) (λ (x : Formula). None ≡ parts_of x) is h.2 refl
no_parts s f n is (inr (inr (inr (inl h)))) = by_shape s f n (form.Or h.0 h.1) (λ (x : Formula). None ≡ parts_of x) is h.2 refl
no_parts s f n is (inr (inr (inr (inr h)))) = by_shape s f n (form.Imp h.0 h.1) (λ (x : Formula). None ≡ parts_of x) is h.2 refl

pub no_cases : (s : Stored) (f : Formula) (n : FormNode) → form_shape s n ≡ f
    → ((a : TermId) × (b : TermId) × (n ≡ form.Le a b)) ⊎ (((a : TermId) × (b : TermId) × (n ≡ form.Lt a b)) ⊎ (((a : TermId) × (b : TermId) × (n ≡ form.Eq a b))
    ⊎ ((a : FormId) × (b : FormId) × (n ≡ form.And a b))))
    → None ≡ cases_of f
unfolding form_shape
no_cases s f n is (inl h) = by_shape s f n (form.Le h.0 h.1) (λ (x : Formula). None ≡ cases_of x) is h.2 refl
no_cases s f n is (inr (inl h)) = by_shape s f n (form.Lt h.0 h.1) (λ (x : Formula). None ≡ cases_of x) is h.2 refl
no_cases s f n is (inr (inr (inl h))) = by_shape s f n (form.Eq h.0 h.1) (λ (x : Formula). None ≡ cases_of x) is h.2 refl
no_cases s f n is (inr (inr (inr h))) = by_shape s f n (form.And h.0 h.1) (λ (x : Formula). None ≡ cases_of x) is h.2 refl

-- an answer of `cases_of`
pub taken_some : (s : Stored) (p : Pair) (o : Option Two) → Some (pair_forms s p) ≡ o → IsPair s p → TakesApart s (Ok (Some p)) o
taken_some s p o e h = subst (TakesApart s (Ok (Some p))) e (refl, h)

pub taken_none : (s : Stored) (o : Option Two) → None ≡ o → TakesApart s (Ok None) o
taken_none s o e = subst (TakesApart s (Ok None)) e tt

module _ (s t : Stored) (a b : TermId) (n : FormNode) (e : n ≡ form.Eq a b) where
  pub orders_taken : (p : Pair) → pair_forms t p ≡ record { left = Lt (tree s a) (tree s b); right = Lt (tree s b) (tree s a) } → IsPair t p → TakesApart t (Ok (Some p)) (cases_of_not (form_shape s n))
  unfolding form_shape tree
  orders_taken p f h = subst (λ (x : FormNode). TakesApart t (Ok (Some p)) (cases_of_not (form_shape s x))) (sym e) (f, h)

  pub orders_stop : (stop : TermStop) → (stop ≡ TooLarge → most_nodes < formula_size (Lt (tree s a) (tree s b))) → TakesApart t (Err stop) (cases_of_not (form_shape s n))
  unfolding form_shape tree
  orders_stop TooLarge f = subst (λ (x : FormNode). TakesApart t (Err TooLarge) (cases_of_not (form_shape s x))) (sym e) (f refl)
  orders_stop Memory f = subst (λ (x : FormNode). TakesApart t (Err Memory) (cases_of_not (form_shape s x))) (sym e) tt

-- one order of two terms, and the other
swapped_size : (x y : Tree) → most_nodes < formula_size (Lt x y) → most_nodes < formula_size (Lt y x)
unfolding formula_size
swapped_size x y h = omega (arith, h)

lt_shape : (s : Stored) (a b : TermId) → form_shape s (form.Lt a b) ≡ Lt (tree s a) (tree s b)
unfolding form_shape tree
lt_shape s a b = refl

module _ (s t : Stored) (a b : TermId) (more : Extends s t) (p : IsTerm s a) (q : IsTerm s b) where
  lt_more : form_shape t (form.Lt b a) ≡ Lt (tree s b) (tree s a)
  lt_more = lt_shape t b a ∙ ap (λ (x : Tree). Lt x (tree t a)) (more.terms b q).1 ∙ ap (Lt (tree s b)) (more.terms a p).1

  pub orders_above : most_nodes < formula_size (form_shape t (form.Lt b a)) → most_nodes < formula_size (Lt (tree s a) (tree s b))
  orders_above h = swapped_size (tree s b) (tree s a) (subst (λ (f : Formula). most_nodes < formula_size f) lt_more h)

  pub orders_forms : (u : Stored) (below above : FormId) (l r : Literal) → Extends t u → IsForm t below → formula t below ≡ form_shape s (form.Lt a b) → formula u above ≡ form_shape t (form.Lt b a)
      → l ≡ record { form = below; negated = false } → r ≡ record { form = above; negated = false }
      → pair_forms u (record { left = l; right = r }) ≡ record { left = Lt (tree s a) (tree s b); right = Lt (tree s b) (tree s a) }
  orders_forms u below above l r grows stored e f g h =
      let one = plain_says u l below g ∙ (grows.forms below stored).1 ∙ e ∙ lt_shape s a b in
      let two = plain_says u r above h ∙ f ∙ lt_more in
      ap (λ (x : Formula). record { left = x; right = literal_form u r }) one ∙ ap (λ (x : Formula). record { left = Lt (tree s a) (tree s b); right = x }) two

pub orders_below : (s : Stored) (a b : TermId) → most_nodes < formula_size (form_shape s (form.Lt a b)) → most_nodes < formula_size (Lt (tree s a) (tree s b))
orders_below s a b h = subst (λ (f : Formula). most_nodes < formula_size f) (lt_shape s a b) h
