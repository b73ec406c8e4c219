-- Which terms and formulas have values within a bound, all of their parts among them.
--
-- `fits` says which numbers are within it. A map is within it where its values are.
use Rattle.std.specs.Prelude.{ℤ, Bool, true, ◌&&◌}
use Rattle.std.specs.List.{list_all}
use Rattle.std.specs.FinMap as finmap
use Rattle.sync_terms.specs.Trees.{Tree, Lit, Name, Add, Sub, Scale, Get, Has, Size, Sum, Nil, Put, Del, Bump, Formula, Le, Lt, Eq, Not, And, Or, Imp}
use Rattle.sync_terms.specs.Maps as maps
use Rattle.sync_terms.specs.Values.{Valuation, num, mapped}

-- every value of a map fits
abbrev pub values_fit : (ℤ → Bool) → maps.Map → Bool
values_fit fits m = list_all fits (finmap.values m)

unfoldable mutual
  -- a term where a number is wanted
  pub number_fits : (ℤ → Bool) → Valuation → Tree → Bool
  number_fits fits v (Lit n) = fits n
  number_fits fits v (Name x) = fits (v.number x)
  number_fits fits v (Add a b) = number_fits fits v a && number_fits fits v b && fits (num v (Add a b))
  number_fits fits v (Sub a b) = number_fits fits v a && number_fits fits v b && fits (num v (Sub a b))
  number_fits fits v (Scale n a) = fits n && number_fits fits v a && fits (num v (Scale n a))
  number_fits fits v (Get m k) = map_fits fits v m && number_fits fits v k && fits (num v (Get m k))
  number_fits fits v (Has m k) = map_fits fits v m && number_fits fits v k && fits (num v (Has m k))
  number_fits fits v (Size m) = map_fits fits v m && fits (num v (Size m))
  number_fits fits v (Sum m) = map_fits fits v m && fits (num v (Sum m))
  number_fits fits v Nil = true
  number_fits fits v (Put m k w) = true
  number_fits fits v (Del m k) = true
  number_fits fits v (Bump m k n) = true

  -- a term where a map is wanted
  pub map_fits : (ℤ → Bool) → Valuation → Tree → Bool
  map_fits fits v (Name x) = values_fit fits (v.mapping x)
  map_fits fits v (Put m k w) = map_fits fits v m && number_fits fits v k && number_fits fits v w
  map_fits fits v (Del m k) = map_fits fits v m && number_fits fits v k
  map_fits fits v (Bump m k n) = map_fits fits v m && number_fits fits v k && number_fits fits v n && values_fit fits (mapped v (Bump m k n))
  map_fits fits v Nil = true
  map_fits fits v (Lit n) = true
  map_fits fits v (Add a b) = true
  map_fits fits v (Sub a b) = true
  map_fits fits v (Scale n a) = true
  map_fits fits v (Get m k) = true
  map_fits fits v (Has m k) = true
  map_fits fits v (Size m) = true
  map_fits fits v (Sum m) = true

unfoldable pub form_fits : (ℤ → Bool) → Valuation → Formula → Bool
form_fits fits v (Le a b) = number_fits fits v a && number_fits fits v b
form_fits fits v (Lt a b) = number_fits fits v a && number_fits fits v b
form_fits fits v (Eq a b) = number_fits fits v a && number_fits fits v b
form_fits fits v (Not f) = form_fits fits v f
form_fits fits v (And f g) = form_fits fits v f && form_fits fits v g
form_fits fits v (Or f g) = form_fits fits v f && form_fits fits v g
form_fits fits v (Imp f g) = form_fits fits v f && form_fits fits v g
