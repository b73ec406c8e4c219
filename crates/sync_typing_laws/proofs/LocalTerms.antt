-- What a term of a text is where it is read in an environment.
use Rattle.std.specs.Prelude.{◌≡◌, ℕ, Bool, true, ◌&&◌, Option, Some, None}
use Rattle.std.proofs.lemmas.Bool.{and_parts}
use Rattle.sync_base.specs.Outcome.{first}
use Rattle.sync_terms.specs.Trees.{Tree, Lit, Name, Add, Sub, Scale, Get, Has, Size, Sum, Nil, Put, Del, Bump, Formula, Le, Lt, Eq, Not, And, Or, Imp}
use Rattle.sync_terms.specs.Values.{Valuation, num, mapped, truth}
use Rattle.sync_machine.specs.Naming.{sort_fault, number_fault, map_fault, formula_fault}
use Rattle.sync_machine.specs.Scope.{Known}
use Rattle.sync_machine.specs.States.{Sort, Numbers, Maps}
use Rattle.sync_rules.specs.Locality.{names_only, form_names_only}
use mathlib.Core.Path.{refl}

none_both : {A : Type 0} (a b : Option A) → first a b ≡ None → (a ≡ None) × (b ≡ None)
none_both None b e = (refl, e)
none_both (Some x) b e = absurd (let no : Some x ≡ None = e in cc)

number_sort : (o : Option Sort) → sort_fault Numbers o ≡ None → o ≡ Some Numbers
number_sort None e = absurd (cc)
number_sort (Some Numbers) e = refl
number_sort (Some Maps) e = absurd (cc)

map_sort : (o : Option Sort) → sort_fault Maps o ≡ None → o ≡ Some Maps
map_sort None e = absurd (cc)
map_sort (Some Numbers) e = absurd (cc)
map_sort (Some Maps) e = refl

-- Where all names are numbers, a term is the same under valuations that give its names the same numbers.
module _ (k : Known) (p : ℕ → Bool) (v w : Valuation) (numbers : (y : ℕ) → k y ≡ Some Numbers → p y ≡ true → v.number y ≡ w.number y) (no_maps : (y : ℕ) → k y ≡ Some Maps → ⊥) where
  mutual
    unfolding number_fault map_fault names_only

    pub number_agrees : (t : Tree) → number_fault k t ≡ None → names_only p t ≡ true → num v t ≡ num w t
    number_agrees (Lit n) e is = refl
    number_agrees (Name y) e is = numbers y (number_sort (k y) e) is
    number_agrees (Add a b) e is = let f = none_both (number_fault k a) (number_fault k b) e in let q = and_parts (names_only p a) (names_only p b) is in let ea = number_agrees a f.0 q.0 in let eb = number_agrees b f.1 q.1 in cc
    number_agrees (Sub a b) e is = let f = none_both (number_fault k a) (number_fault k b) e in let q = and_parts (names_only p a) (names_only p b) is in let ea = number_agrees a f.0 q.0 in let eb = number_agrees b f.1 q.1 in cc
    number_agrees (Scale n a) e is = let ea = number_agrees a e is in cc
    number_agrees (Get a b) e is = let f = none_both (map_fault k a) (number_fault k b) e in let q = and_parts (names_only p a) (names_only p b) is in let ea = map_agrees a f.0 q.0 in let eb = number_agrees b f.1 q.1 in cc
    number_agrees (Has a b) e is = let f = none_both (map_fault k a) (number_fault k b) e in let q = and_parts (names_only p a) (names_only p b) is in let ea = map_agrees a f.0 q.0 in let eb = number_agrees b f.1 q.1 in cc
    number_agrees (Size a) e is = let ea = map_agrees a e is in cc
    number_agrees (Sum a) e is = let ea = map_agrees a e is in cc
    number_agrees Nil e is = refl
    number_agrees (Put a b c) e is = refl
    number_agrees (Del a b) e is = refl
    number_agrees (Bump a b c) e is = refl

    pub map_agrees : (t : Tree) → map_fault k t ≡ None → names_only p t ≡ true → mapped v t ≡ mapped w t
    map_agrees (Name y) e is = absurd (no_maps y (map_sort (k y) e))
    map_agrees (Put a b c) e is =
        let f = none_both (map_fault k a) (first (number_fault k b) (number_fault k c)) e in let g = none_both (number_fault k b) (number_fault k c) f.1 in
        let q = and_parts (names_only p a && names_only p b) (names_only p c) is in let r = and_parts (names_only p a) (names_only p b) q.0 in
        let ea = map_agrees a f.0 r.0 in let eb = number_agrees b g.0 r.1 in let ec = number_agrees c g.1 q.1 in cc
    map_agrees (Del a b) e is = let f = none_both (map_fault k a) (number_fault k b) e in let q = and_parts (names_only p a) (names_only p b) is in let ea = map_agrees a f.0 q.0 in let eb = number_agrees b f.1 q.1 in cc
    map_agrees (Bump a b c) e is =
        let f = none_both (map_fault k a) (first (number_fault k b) (number_fault k c)) e in let g = none_both (number_fault k b) (number_fault k c) f.1 in
        let q = and_parts (names_only p a && names_only p b) (names_only p c) is in let r = and_parts (names_only p a) (names_only p b) q.0 in
        let ea = map_agrees a f.0 r.0 in let eb = number_agrees b g.0 r.1 in let ec = number_agrees c g.1 q.1 in cc
    map_agrees Nil e is = refl
    map_agrees (Lit n) e is = refl
    map_agrees (Add a b) e is = refl
    map_agrees (Sub a b) e is = refl
    map_agrees (Scale n a) e is = refl
    map_agrees (Get a b) e is = refl
    map_agrees (Has a b) e is = refl
    map_agrees (Size a) e is = refl
    map_agrees (Sum a) e is = refl

  pub formula_agrees : (f : Formula) → formula_fault k f ≡ None → form_names_only p f ≡ true → truth v f ≡ truth w f
  unfolding formula_fault form_names_only truth
  formula_agrees (Le a b) e is = let f = none_both (number_fault k a) (number_fault k b) e in let q = and_parts (names_only p a) (names_only p b) is in let ea = number_agrees a f.0 q.0 in let eb = number_agrees b f.1 q.1 in cc
  formula_agrees (Lt a b) e is = let f = none_both (number_fault k a) (number_fault k b) e in let q = and_parts (names_only p a) (names_only p b) is in let ea = number_agrees a f.0 q.0 in let eb = number_agrees b f.1 q.1 in cc
  formula_agrees (Eq a b) e is = let f = none_both (number_fault k a) (number_fault k b) e in let q = and_parts (names_only p a) (names_only p b) is in let ea = number_agrees a f.0 q.0 in let eb = number_agrees b f.1 q.1 in cc
  formula_agrees (Not g) e is = let eg = formula_agrees g e is in cc
  formula_agrees (And g h) e is = let f = none_both (formula_fault k g) (formula_fault k h) e in let q = and_parts (form_names_only p g) (form_names_only p h) is in let ea = formula_agrees g f.0 q.0 in let eb = formula_agrees h f.1 q.1 in cc
  formula_agrees (Or g h) e is = let f = none_both (formula_fault k g) (formula_fault k h) e in let q = and_parts (form_names_only p g) (form_names_only p h) is in let ea = formula_agrees g f.0 q.0 in let eb = formula_agrees h f.1 q.1 in cc
  formula_agrees (Imp g h) e is = let f = none_both (formula_fault k g) (formula_fault k h) e in let q = and_parts (form_names_only p g) (form_names_only p h) is in let ea = formula_agrees g f.0 q.0 in let eb = formula_agrees h f.1 q.1 in cc
