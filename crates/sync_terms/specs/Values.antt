-- What terms and formulas mean: their values and truth, and the validity of a sequent.
use Rattle.std.specs.Prelude.{◌≡◌, ℕ, ℤ, pos, ◌+ℤ◌, ◌*ℤ◌, ◌-ℤ◌, Bool, true, not, ◌&&◌, ◌||◌, List, [], ◌∷◌, nat_eq, int_le, int_lt, if◌then◌else◌}
use Rattle.std.specs.Ordering.{int_eq}
use Rattle.std.specs.List.{AllByRecursion}
use Rattle.sync_terms.specs.Trees.{Tree, Lit, Name, Add, Sub, Scale, Get, Has, Size, Sum, Nil, Put, Del, Bump, Formula, Le, Lt, Eq, Not, And, Or, Imp}
use Rattle.sync_terms.specs.Maps as maps

-- What each symbol stands for: a number where a number is wanted, and a finite map where a map is.
pub record Valuation : Type 0 where
  pub number : ℕ → ℤ
  pub mapping : ℕ → maps.Map

-- the number that a term is, and the map that it is
abbrev mutual
  pub num : Valuation → Tree → ℤ
  num v (Lit n) = n
  num v (Name x) = v.number x
  num v (Add a b) = num v a +ℤ num v b
  num v (Sub a b) = num v a -ℤ num v b
  num v (Scale n a) = n *ℤ num v a
  num v (Get m k) = maps.get (mapped v m) (num v k)
  num v (Has m k) = maps.has (mapped v m) (num v k)
  num v (Size m) = maps.size (mapped v m)
  num v (Sum m) = maps.sum (mapped v m)
  num v Nil = pos 0
  num v (Put m k w) = pos 0
  num v (Del m k) = pos 0
  num v (Bump m k n) = pos 0

  pub mapped : Valuation → Tree → maps.Map
  mapped v (Name x) = v.mapping x
  mapped v (Put m k w) = maps.put (mapped v m) (num v k) (num v w)
  mapped v (Del m k) = maps.del (mapped v m) (num v k)
  mapped v (Bump m k n) = maps.bump (mapped v m) (num v k) (num v n)
  mapped v Nil = maps.nil
  mapped v (Lit n) = maps.nil
  mapped v (Add a b) = maps.nil
  mapped v (Sub a b) = maps.nil
  mapped v (Scale n a) = maps.nil
  mapped v (Get m k) = maps.nil
  mapped v (Has m k) = maps.nil
  mapped v (Size m) = maps.nil
  mapped v (Sum m) = maps.nil

-- whether a formula is true
unfoldable pub truth : Valuation → Formula → Bool
truth v (Le a b) = int_le (num v a) (num v b)
truth v (Lt a b) = int_lt (num v a) (num v b)
truth v (Eq a b) = int_eq (num v a) (num v b)
truth v (Not f) = not (truth v f)
truth v (And f g) = truth v f && truth v g
truth v (Or f g) = truth v f || truth v g
truth v (Imp f g) = not (truth v f) || truth v g

abbrev pub Holds : Valuation → Formula → Type 0
Holds v f = truth v f ≡ true

-- one symbol stands for the number n, and for the map m where a map is wanted; all else stays
abbrev pub with_value : ℕ → ℤ → maps.Map → Valuation → Valuation
with_value x n m v = record { number = λ y. if nat_eq y x then n else v.number y; mapping = λ y. if nat_eq y x then m else v.mapping y }

-- each symbol stands for what its term is
abbrev pub with_terms : (ℕ → Tree) → Valuation → Valuation
with_terms f v = record { number = λ x. num v (f x); mapping = λ x. mapped v (f x) }

-- The formula holds whatever its parameters stand for. In a formula that keeps the sorts a parameter is a number alone, and this is for all numbers.
abbrev pub HoldsForAll : List ℕ → Valuation → Formula → Type 0
HoldsForAll [] v f = Holds v f
HoldsForAll (p ∷ ps) v f = (n : ℤ) (m : maps.Map) → HoldsForAll ps (with_value p n m v) f

-- a hypothesis, with its parameters, without a name
pub record Hypothesis : Type 0 where
  pub params : List ℕ
  pub form : Formula

-- The claim is true wherever the hypotheses are, those with parameters for all that these may stand for.
abbrev pub IsValid : List Hypothesis → Formula → Type 0
IsValid hyps claim = (v : Valuation) → AllByRecursion (λ h. HoldsForAll h.params v h.form) hyps → Holds v claim
