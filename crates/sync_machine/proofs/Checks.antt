-- Checks that tell the first fault, one after the other and over a list.
use Rattle.std.proofs.Common.{◌≡◌, ℕ, suc, ◌+◌, ◌<◌, ◌≤◌, Bool, ◌||◌, List, [], ◌∷◌, length, map, take, drop, get_or, Option, Some, None, refl, sym, ap, subst, ◌∙◌, add-one, arith}
use Rattle.std.specs.List.{list_any}
use Rattle.std.proofs.Math.Seq.{take-suc, drop-cons}
use Rattle.std.proofs.lemmas.List.{take-map, get_or-map, length-map, drop_all}
use Rattle.sync_base.specs.Outcome.{first}
use Rattle.sync_machine.specs.Naming.{first_fault}

-- behind a check that passed the next one decides
pub first_none : {R : Type 0} (a b : Option R) → a ≡ None → first a b ≡ b
first_none a b e = rw e refl

pub first_some : {R : Type 0} (a b : Option R) (r : R) → a ≡ Some r → first a b ≡ Some r
first_some a b r e = rw e refl

-- both of two checks that pass
pub first_both : {R : Type 0} (a b : Option R) → first a b ≡ None → (a ≡ None) × (b ≡ None)
first_both None b e = (refl, e)
first_both (Some r) b e = absurd cc

pub list_any_view : {A B : Type 0} (p : B → Bool) (f : A → B) (xs : List A) → list_any p (map f xs) ≡ list_any (λ x. p (f x)) xs
list_any_view p f [] = refl
list_any_view p f (x ∷ xs) = ap (λ b. p (f x) || b) (list_any_view p f xs)

-- the faults from the k-th element on
pub faults_from : {A R : Type 0} → (List A → A → Option R) → ℕ → List A → Option R
faults_from judge k xs = first_fault judge (take k xs) (drop k xs)

pub from_start : {A R : Type 0} (judge : List A → A → Option R) (xs : List A) → faults_from judge 0 xs ≡ first_fault judge [] xs
unfolding faults_from
from_start judge xs = refl

pub from_next : {A R : Type 0} (judge : List A → A → Option R) (k : ℕ) (xs : List A) (d : A) → k < length xs
    → faults_from judge k xs ≡ first (judge (take k xs) (get_or xs k d)) (faults_from judge (k + 1) xs)
unfolding faults_from first_fault
from_next judge k xs d h =
    ap (first_fault judge (take k xs)) (drop-cons xs k d h)
    ∙ ap (λ before. first (judge (take k xs) (get_or xs k d)) (first_fault judge before (drop (suc k) xs))) (sym (take-suc xs k d h))
    ∙ ap (λ n. first (judge (take k xs) (get_or xs k d)) (first_fault judge (take n xs) (drop n xs))) (sym (add-one k))

pub from_end : {A R : Type 0} (judge : List A → A → Option R) (k : ℕ) (xs : List A) → length xs ≤ k → faults_from judge k xs ≡ None
unfolding faults_from first_fault
from_end judge k xs h = ap (first_fault judge (take k xs)) (drop_all k xs h)

-- a loop that passed the k-th element
pub goes_on : {A R : Type 0} (judge : List A → A → Option R) (k : ℕ) (xs : List A) (d : A) (all : Option R) → k < length xs
    → faults_from judge k xs ≡ all → judge (take k xs) (get_or xs k d) ≡ None → faults_from judge (k + 1) xs ≡ all
goes_on judge k xs d all h so_far passed =
    sym (first_none (judge (take k xs) (get_or xs k d)) (faults_from judge (k + 1) xs) passed) ∙ sym (from_next judge k xs d h) ∙ so_far

-- one that stops there
pub stops : {A R : Type 0} (judge : List A → A → Option R) (k : ℕ) (xs : List A) (d : A) (all : Option R) (r : R) → k < length xs
    → faults_from judge k xs ≡ all → judge (take k xs) (get_or xs k d) ≡ Some r → all ≡ Some r
stops judge k xs d all r h so_far told =
    sym so_far ∙ from_next judge k xs d h ∙ first_some (judge (take k xs) (get_or xs k d)) (faults_from judge (k + 1) xs) r told

-- one that passed all
pub ends : {A R : Type 0} (judge : List A → A → Option R) (k : ℕ) (xs : List A) (all : Option R) → length xs ≤ k
    → faults_from judge k xs ≡ all → all ≡ None
ends judge k xs all h so_far = sym so_far ∙ from_end judge k xs h

-- the same where the list is seen through a view
module _ {A B R : Type 0} (judge : List B → B → Option R) (view : A → B) (k : ℕ) (xs : List A) (d : A) (all : Option R) where
  judged : k < length xs → judge (take k (map view xs)) (get_or (map view xs) k (view d)) ≡ judge (map view (take k xs)) (view (get_or xs k d))
  judged h = rw (take-map view k xs, get_or-map view xs k d (view d) h) refl

  pub goes_on_view : k < length xs → faults_from judge k (map view xs) ≡ all → judge (map view (take k xs)) (view (get_or xs k d)) ≡ None
      → faults_from judge (k + 1) (map view xs) ≡ all
  goes_on_view h so_far passed = goes_on judge k (map view xs) (view d) all (omega (arith, length-map xs view)) so_far (judged h ∙ passed)

  pub stops_view : (r : R) → k < length xs → faults_from judge k (map view xs) ≡ all → judge (map view (take k xs)) (view (get_or xs k d)) ≡ Some r
      → all ≡ Some r
  stops_view r h so_far told = stops judge k (map view xs) (view d) all r (omega (arith, length-map xs view)) so_far (judged h ∙ told)

  -- where the element itself is known to stand at the place
  pub goes_on_item : d ≡ get_or xs k d → k < length xs → faults_from judge k (map view xs) ≡ all → judge (map view (take k xs)) (view d) ≡ None
      → faults_from judge (k + 1) (map view xs) ≡ all
  goes_on_item is h so_far passed = goes_on_view h so_far (subst (λ y. judge (map view (take k xs)) (view y) ≡ None) is passed)

  pub stops_item : (r : R) → d ≡ get_or xs k d → k < length xs → faults_from judge k (map view xs) ≡ all → judge (map view (take k xs)) (view d) ≡ Some r
      → all ≡ Some r
  stops_item r is h so_far told = stops_view r h so_far (subst (λ y. judge (map view (take k xs)) (view y) ≡ Some r) is told)

pub ends_view : {A B R : Type 0} (judge : List B → B → Option R) (view : A → B) (k : ℕ) (xs : List A) (all : Option R) → length xs ≤ k
    → faults_from judge k (map view xs) ≡ all → all ≡ None
ends_view judge view k xs all h so_far = ends judge k (map view xs) all (omega (arith, length-map xs view)) so_far
