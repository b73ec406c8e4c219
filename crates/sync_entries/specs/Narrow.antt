-- Maps from numbers to numbers, and numbers within signed 128 bits.
use Rattle.std.specs.Prelude.{◌≡◌, ℤ, pos, negsuc, ◌+ℤ◌, ◌^◌, Bool, Some, FitsSigned, nat_lt}
use Rattle.std.specs.Int.{w128}
use Rattle.std.specs.List.{fold}
use Rattle.std.specs.Ordering.{int_cmp}
use Rattle.std.specs.FinMap as finmap

abbrev pub Map : Type 0
Map = finmap.FinMap int_cmp ℤ

-- the sum of the values
abbrev pub sum_of : Map → ℤ
sum_of m = fold (λ (sum n : ℤ). sum +ℤ n) (pos 0) (finmap.values m)

-- the bound as a test; `negsuc n` is -(n + 1)
abbrev pub is_narrow : ℤ → Bool
is_narrow (pos n) = nat_lt n (2 ^ 127)
is_narrow (negsuc n) = nat_lt n (2 ^ 127)

-- every value of a map is within it
abbrev pub HasNarrowValues : Map → Type 0
HasNarrowValues m = (k n : ℤ) → finmap.get m k ≡ Some n → FitsSigned w128 n
