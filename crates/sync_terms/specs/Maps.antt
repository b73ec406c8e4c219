-- Finite maps from numbers to numbers, and their functions.
use Rattle.std.specs.Prelude.{ℤ, pos, ◌+ℤ◌, List, [], ◌∷◌, unwrap_or, is_some, int_lt, if◌then◌else◌}
use Rattle.std.specs.Ordering.{int_cmp}
use Rattle.std.specs.FinMap as finmap

abbrev pub Map : Type 0
Map = finmap.FinMap int_cmp ℤ

-- nothing is there
abbrev pub nil : Map
nil = finmap.empty

-- the value at a key, 0 where there is none
abbrev pub get : Map → ℤ → ℤ
get m k = unwrap_or (finmap.get m k) (pos 0)

-- 1 where the key is there, else 0
abbrev pub has : Map → ℤ → ℤ
has m k = if is_some (finmap.get m k) then pos 1 else pos 0

-- the number of keys
abbrev pub size : Map → ℤ
size m = pos (finmap.len m)

abbrev pub added_up : List ℤ → ℤ
added_up [] = pos 0
added_up (n ∷ ns) = n +ℤ added_up ns

-- the sum of the values
abbrev pub sum : Map → ℤ
sum m = added_up (finmap.values m)

abbrev pub put : Map → ℤ → ℤ → Map
put m k v = finmap.insert m k v

abbrev pub del : Map → ℤ → Map
del m k = finmap.remove m k

-- the value raised by n where that is positive; else the key is gone
abbrev pub bump : Map → ℤ → ℤ → Map
bump m k n = if int_lt (pos 0) (get m k +ℤ n) then put m k (get m k +ℤ n) else del m k
