-- The nodes of the facts of a branch, as the code counts them.
use Rattle.std.proofs.Common.{◌≡◌, ℕ, zero, suc, ◌+◌, ◌<◌, Bool, true, false, ◌||◌, ◌&&◌, if◌then◌else◌, List, [], ◌∷◌, ◌++◌, map, length, take, Ok, Err, refl, sym, ap, ◌∙◌, arith}
use Rattle.std.specs.Prelude.{not, nat_lt}
use Rattle.std.proofs.lemmas.Bool.{cond-true, cond-false, lt-ltb, ltb-true, or_left, or_right}
use Rattle.std.proofs.lemmas.List.{map_push, take-append-le, take_all, length_push}
use Rattle.sync_base.specs.declared.stops.Rule.TheVariants.{K8}
use Rattle.sync_terms.specs.declared.nodes.Sym.{Sym}
use Rattle.sync_terms.specs.Trees.{most_nodes}
use Rattle.sync_terms.specs.Trees.{Formula, Not, formula_size}
use Rattle.sync_terms.specs.Stored.{Stored, formula, Extends}
use Rattle.sync_kernel_facts.specs.declared.literals.Literal.{Literal}
use Rattle.sync_kernel.specs.declared.splits.Pair.{Pair}
use Rattle.sync_kernel_facts.specs.declared.branches.Said.{Said}
use Rattle.sync_kernel_facts.specs.Facts.{Fact, named, facts_size}
use Rattle.sync_kernel_facts.specs.Literals.{literal_form, IsLiteral}
use Rattle.sync_kernel.specs.Pairs.{pair_forms, IsPair}
use Rattle.sync_kernel_facts.specs.Branches.{said_fact, facts_in, IsSaid, AreSaid, said_size, Begins}
use Rattle.sync_kernel.specs.Taking.{Two}
use Rattle.sync_kernel.specs.Scripts.{with_fact, fitting, cases_with, both_fitting}

-- ---- while the store grows

pub literal-more : (s t : Stored) (l : Literal) → Extends s t → IsLiteral s l → literal_form t l ≡ literal_form s l
literal-more s t l e h = by l.negated
  where
    by : (b : Bool) → (if b then Not (formula t l.form) else formula t l.form) ≡ (if b then Not (formula s l.form) else formula s l.form)
    by true = ap Not (e.forms l.form h).1
    by false = (e.forms l.form h).1

pub IsLiteral-more : (s t : Stored) (l : Literal) → Extends s t → IsLiteral s l → IsLiteral t l
IsLiteral-more s t l e h = (e.forms l.form h).0

pub pair-more : (s t : Stored) (p : Pair) → Extends s t → IsPair s p → pair_forms t p ≡ pair_forms s p
pair-more s t p e h =
    ap (λ (f : Formula). record { left = f; right = literal_form t p.right }) (literal-more s t p.left e h.0)
    ∙ ap (λ (f : Formula). record { left = literal_form s p.left; right = f }) (literal-more s t p.right e h.1)

said_fact-more : (s t : Stored) (x : Said) → Extends s t → IsSaid s x → said_fact t x ≡ said_fact s x
said_fact-more s t x e h = ap (λ (f : Formula). record { name = x.name; params = map (λ (p : Sym). p.0) x.params; form = f }) (literal-more s t x.says e h.0)

pub facts-more : (s t : Stored) (xs : List Said) → Extends s t → AreSaid s xs → facts_in t xs ≡ facts_in s xs
facts-more s t [] e h = refl
facts-more s t (x ∷ xs) e h = ap (λ (f : Fact). f ∷ facts_in t xs) (said_fact-more s t x e h.0) ∙ ap (λ (fs : List Fact). said_fact s x ∷ fs) (facts-more s t xs e h.1)

pub AreSaid-more : (s t : Stored) (xs : List Said) → Extends s t → AreSaid s xs → AreSaid t xs
AreSaid-more s t [] e h = tt
AreSaid-more s t (x ∷ xs) e h = ((IsLiteral-more s t x.says e h.0.0, h.0.1 ∙ ap formula_size (sym (literal-more s t x.says e h.0.0))), AreSaid-more s t xs e h.1)

-- ---- one fact more

pub AreSaid-push : (s : Stored) (xs : List Said) (x : Said) → AreSaid s xs → IsSaid s x → AreSaid s (xs ++ x ∷ [])
AreSaid-push s [] x h k = (k, tt)
AreSaid-push s (y ∷ ys) x h k = (h.0, AreSaid-push s ys x h.1 k)

pub AreSaid-take : (s : Stored) (n : ℕ) (xs : List Said) → AreSaid s xs → AreSaid s (take n xs)
AreSaid-take s zero xs h = tt
AreSaid-take s (suc n) [] h = tt
AreSaid-take s (suc n) (x ∷ xs) h = (h.0, AreSaid-take s n xs h.1)

pub facts-push : (s : Stored) (xs : List Said) (x : Said) (name : ℕ) (form : Formula) → said_fact s x ≡ named name form → facts_in s (xs ++ x ∷ []) ≡ with_fact (facts_in s xs) name form
facts-push s xs x name form e = map_push (said_fact s) xs x ∙ ap (λ (f : Fact). facts_in s xs ++ f ∷ []) e

pub size-push : (fs : List Fact) (f : Fact) → facts_size (fs ++ f ∷ []) ≡ facts_size fs + formula_size f.form
unfolding facts_size
size-push [] f = omega arith
size-push (g ∷ gs) f = ap (λ (n : ℕ). formula_size g.form + n) (size-push gs f) ∙ omega arith

pub size-in : (s : Stored) (xs : List Said) → AreSaid s xs → said_size xs ≡ facts_size (facts_in s xs)
unfolding facts_size
size-in s [] h = refl
size-in s (x ∷ xs) h = ap (λ (n : ℕ). n + said_size xs) h.0.1 ∙ ap (λ (n : ℕ). formula_size (literal_form s x.says) + n) (size-in s xs h.1)

-- ---- within the limit, or not

if_not : {A : Type 0} (b c : Bool) (x y : A) → c ≡ not b → (if b then x else y) ≡ (if c then y else x)
if_not true c x y e = sym (cond-false c y x e)
if_not false c x y e = sym (cond-true c y x e)

-- the test that the code makes of facts with one formula more
pub fits_with : (s : Stored) (xs : List Said) (name n : ℕ) (form : Formula) (b : Bool) → AreSaid s xs → n ≡ formula_size form → b ≡ not (nat_lt most_nodes (said_size xs + n))
    → b ≡ not (nat_lt most_nodes (facts_size (with_fact (facts_in s xs) name form)))
fits_with s xs name n form b h size e =
    e ∙ ap (λ (m : ℕ). not (nat_lt most_nodes m)) (ap (λ (m : ℕ). m + n) (size-in s xs h) ∙ ap (λ (m : ℕ). facts_size (facts_in s xs) + m) size ∙ sym (size-push (facts_in s xs) (named name form)))

pub fitting_if : (fs : List Fact) (b : Bool) → b ≡ not (nat_lt most_nodes (facts_size fs)) → fitting fs ≡ (if b then Ok fs else Err K8)
fitting_if fs b e = if_not (nat_lt most_nodes (facts_size fs)) b (Err K8) (Ok fs) e

-- a formula that is too large alone
over : (a n m : ℕ) → most_nodes < n → m ≡ a + n → nat_lt most_nodes m ≡ true
over a n m h e = lt-ltb most_nodes m (omega (arith, h, e))

pub too_large_with : (fs : List Fact) (name : ℕ) (form : Formula) → most_nodes < formula_size form → nat_lt most_nodes (facts_size (with_fact fs name form)) ≡ true
too_large_with fs name form h = over (facts_size fs) (formula_size form) (facts_size (with_fact fs name form)) h (size-push fs (named name form))

pub not_fitting : (fs : List Fact) (name : ℕ) (form : Formula) → most_nodes < formula_size form → fitting (with_fact fs name form) ≡ Err K8
not_fitting fs name form h = cond-true (nat_lt most_nodes (facts_size (with_fact fs name form))) (Err K8) (Ok (with_fact fs name form)) (too_large_with fs name form h)

-- a fact more does not make them fit
pub still_not_fitting : (fs : List Fact) (left right : ℕ) (f g : Formula) → nat_lt most_nodes (facts_size (with_fact fs left f)) ≡ true → fitting (with_fact (with_fact fs left f) right g) ≡ Err K8
still_not_fitting fs left right f g h =
    cond-true (nat_lt most_nodes (facts_size (with_fact (with_fact fs left f) right g))) (Err K8) (Ok (with_fact (with_fact fs left f) right g))
    (lt-ltb most_nodes (facts_size (with_fact (with_fact fs left f) right g))
    (let less : most_nodes < facts_size (with_fact fs left f) = ltb-true most_nodes (facts_size (with_fact fs left f)) h in
    let more = size-push (with_fact fs left f) (named right g) in
    omega (arith, less, more)))

-- two branches
pub both_not_fitting : (fs : List Fact) (name : ℕ) (forms : Two) → most_nodes < formula_size forms.left → both_fitting fs name forms ≡ Err K8
both_not_fitting fs name forms h =
    cond-true (nat_lt most_nodes (facts_size (with_fact fs name forms.left)) || nat_lt most_nodes (facts_size (with_fact fs name forms.right))) (Err K8) (Ok (cases_with fs name forms))
    (or_left (nat_lt most_nodes (facts_size (with_fact fs name forms.left))) (nat_lt most_nodes (facts_size (with_fact fs name forms.right))) (too_large_with fs name forms.left h))

pub right_not_fitting : (fs : List Fact) (name : ℕ) (forms : Two) → most_nodes < formula_size forms.right → both_fitting fs name forms ≡ Err K8
right_not_fitting fs name forms h =
    cond-true (nat_lt most_nodes (facts_size (with_fact fs name forms.left)) || nat_lt most_nodes (facts_size (with_fact fs name forms.right))) (Err K8) (Ok (cases_with fs name forms))
    (or_right (nat_lt most_nodes (facts_size (with_fact fs name forms.left))) (nat_lt most_nodes (facts_size (with_fact fs name forms.right))) (too_large_with fs name forms.right h))

two_tests : (a b c d : Bool) → c ≡ not a → d ≡ not b → (c && d) ≡ not (a || b)
two_tests a b c d e f = ap (λ (x : Bool). x && d) e ∙ by a
  where
    by : (a : Bool) → (not a && d) ≡ not (a || b)
    by true = refl
    by false = f

pub both_if : (fs : List Fact) (name : ℕ) (forms : Two) (c d : Bool) → c ≡ not (nat_lt most_nodes (facts_size (with_fact fs name forms.left))) → d ≡ not (nat_lt most_nodes (facts_size (with_fact fs name forms.right)))
    → both_fitting fs name forms ≡ (if c && d then Ok (cases_with fs name forms) else Err K8)
both_if fs name forms c d e f =
    if_not (nat_lt most_nodes (facts_size (with_fact fs name forms.left)) || nat_lt most_nodes (facts_size (with_fact fs name forms.right))) (c && d) (Err K8) (Ok (cases_with fs name forms))
    (two_tests (nat_lt most_nodes (facts_size (with_fact fs name forms.left))) (nat_lt most_nodes (facts_size (with_fact fs name forms.right))) c d e f)

-- ---- where a branch begins

pub Begins-refl : (xs : List Said) → Begins xs xs
Begins-refl xs = (omega arith, take_all (length xs) xs (omega arith))

pub Begins-push : (xs ys : List Said) (y : Said) → Begins xs ys → Begins xs (ys ++ y ∷ [])
Begins-push xs ys y h = (omega (arith, length_push ys y, h.0), take-append-le (length xs) ys (y ∷ []) h.0 ∙ h.1)
