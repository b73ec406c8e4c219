-- The names that a scope knows.
use Rattle.std.proofs.Common.{◌≡◌, ℕ, zero, suc, cond, ◌&&◌, count_by, ◌+◌, ◌<◌, Bool, ◌||◌, List, [], ◌∷◌, ◌++◌, length, map, get_or, nat_eq, Option, Some, None, refl, sym, ap, ◌∙◌, arith}
use Rattle.std.specs.List.{list_any, list_all, cons_option, range_with_len, AllByRecursion}
use Rattle.sync_terms.specs.Stored.{Stored}
use Rattle.sync_terms.specs.declared.nodes.Sym.{Sym}
use Rattle.sync_machine.specs.declared.fields.Field.{Field}
use Rattle.sync_machine.specs.declared.machine.Step.{Step}
use Rattle.sync_machine.specs.declared.machine.Operation.{Operation}
use Rattle.sync_machine.specs.declared.machine.Invariant.{Invariant}
use Rattle.sync_machine.specs.declared.machine.Act.{Act}
use Rattle.sync_machine.specs.declared.machine.Act.TheVariants as stored
use Rattle.sync_machine.proofs.Checks.{list_any_view}
use Rattle.std.proofs.lemmas.List.Folds.{list_any-append}
use Rattle.std.proofs.lemmas.List.Sums.{sum_by-cons}
use Rattle.sync_machine.specs.Machines.{StepTree, OperationTree, InvariantTree}
use Rattle.sync_machine.specs.Views.{symbols_of, act_tree, step_tree, steps_tree, operation_tree, invariant_tree}
use Rattle.sync_machine.specs.Naming.{bound_by, bound_names, is_in, initialises, is_started, is_operation_name, is_invariant_name}
use Rattle.sync_machine.specs.Scoped.{is_the, starts, starts_each}

any_cons : (x : ℕ) (o : Option ℕ) (ys : List ℕ) → list_any (nat_eq x) (cons_option o ys) ≡ (is_the x o || list_any (nat_eq x) ys)
any_cons x (Some y) ys = refl
any_cons x None ys = refl

pub bound_any : (s : Stored) (x : ℕ) (xs : List Step) → is_in x (bound_names (steps_tree s xs)) ≡ list_any (λ (y : Step). is_the x (bound_by (act_tree s y.act))) xs
bound_any s x [] = refl
bound_any s x (y ∷ ys) =
    any_cons x (bound_by (act_tree s y.act)) (bound_names (steps_tree s ys))
    ∙ ap (λ b. is_the x (bound_by (act_tree s y.act)) || b) (bound_any s x ys)

-- a name is given by a parameter or by an earlier statement
pub given_any : (s : Stored) (x : ℕ) (ps : List Sym) (ss : List Step)
    → is_in x (symbols_of ps ++ bound_names (steps_tree s ss))
    ≡ (list_any (λ (y : Sym). nat_eq x y.0) ps || list_any (λ (y : Step). is_the x (bound_by (act_tree s y.act))) ss)
given_any s x ps ss =
    list_any-append (nat_eq x) (symbols_of ps) (bound_names (steps_tree s ss))
    ∙ ap (λ b. b || is_in x (bound_names (steps_tree s ss))) (list_any_view (nat_eq x) (λ (y : Sym). y.0) ps)
    ∙ ap (λ b. list_any (λ (y : Sym). nat_eq x y.0) ps || b) (bound_any s x ss)

pub listed_any : (x : ℕ) (ps : List Sym) → is_in x (symbols_of ps) ≡ list_any (λ (y : Sym). nat_eq x y.0) ps
listed_any x ps = list_any_view (nat_eq x) (λ (y : Sym). y.0) ps

initialises_starts : (s : Stored) (f : ℕ) (a : Act) → initialises f (act_tree s a) ≡ starts f a
initialises_starts s f (stored.Init g t) = refl
initialises_starts s f (stored.Require form) = refl
initialises_starts s f (stored.Assert form) = refl
initialises_starts s f (stored.Update g t) = refl
initialises_starts s f (stored.HaveVariable g) = refl
initialises_starts s f (stored.Add g p) = refl
initialises_starts s f (stored.Remove g p) = refl
initialises_starts s f (stored.Have g p) = refl
initialises_starts s f (stored.Deposit g p) = refl
initialises_starts s f (stored.Withdraw g p) = refl
initialises_starts s f (stored.Guard g p) = refl

count_starts : (s : Stored) (f : ℕ) (xs : List Step)
    → count_by (λ (t : StepTree). initialises f t.act) (steps_tree s xs) ≡ count_by (λ (x : Step). starts f x.act) xs
count_starts s f [] = refl
count_starts s f (x ∷ xs) =
    sum_by-cons (λ (t : StepTree). cond (initialises f t.act) 1 0) (step_tree s x) (steps_tree s xs)
    ∙ ap (λ b. cond b 1 0 + count_by (λ (t : StepTree). initialises f t.act) (steps_tree s xs)) (initialises_starts s f x.act)
    ∙ ap (λ n. cond (starts f x.act) 1 0 + n) (count_starts s f xs)
    ∙ sym (sum_by-cons (λ (y : Step). cond (starts f y.act) 1 0) x xs)

all_equal : (p q : ℕ → Bool) (ns : List ℕ) → ((n : ℕ) → p n ≡ q n) → list_all p ns ≡ list_all q ns
all_equal p q [] h = refl
all_equal p q (n ∷ ns) h = ap (λ b. b && list_all p ns) (h n) ∙ ap (λ b. q n && b) (all_equal p q ns h)

pub started : (s : Stored) (fs : List Field) (xs : List Step) → is_started fs (steps_tree s xs) ≡ starts_each fs xs
unfolding is_started
started s fs xs =
    all_equal (λ f. nat_eq (count_by (λ (t : StepTree). initialises f t.act) (steps_tree s xs)) 1) (λ f. nat_eq (count_by (λ (x : Step). starts f x.act) xs) 1)
    (range_with_len 0 (length fs)) (λ f. ap (λ n. nat_eq n 1) (count_starts s f xs))

pub operation_any : (s : Stored) (n : ℕ) (os : List Operation) → is_operation_name (map (operation_tree s) os) n ≡ list_any (λ (o : Operation). nat_eq n o.name) os
operation_any s n os = list_any_view (λ (o : OperationTree). nat_eq n o.name) (operation_tree s) os

pub invariant_any : (s : Stored) (n : ℕ) (is : List Invariant) → is_invariant_name (map (invariant_tree s) is) n ≡ list_any (λ (i : Invariant). nat_eq n i.name) is
invariant_any s n is = list_any_view (λ (i : InvariantTree). nat_eq n i.name) (invariant_tree s) is

-- what holds of each element holds at a place
pub at_place : {A : Type 0} (P : A → Type 0) (xs : List A) (k : ℕ) (d : A) → AllByRecursion P xs → k < length xs → P (get_or xs k d)
at_place P [] k d h lt = absurd (omega arith)
at_place P (x ∷ xs) zero d h lt = h.0
at_place P (x ∷ xs) (suc k) d h lt = at_place P xs k d h.1 (omega arith)
