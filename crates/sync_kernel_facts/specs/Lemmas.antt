-- What can be said of any map at a key: formulas that are true whatever their symbols stand for.
use Rattle.std.specs.Prelude.{pos}
use Rattle.sync_terms.specs.Trees.{Tree, Lit, Add, Sub, Get, Has, Size, Sum, Nil, Put, Del, Bump, Formula, Le, Lt, Eq, Not, And, Or, Imp}

abbrev pub zero : Tree
zero = Lit (pos 0)

abbrev pub one : Tree
one = Lit (pos 1)

-- one map has at one key what another has at another
abbrev pub alike : (map left other right : Tree) → Formula
alike m j n k = And (Eq (Get m j) (Get n k)) (Eq (Has m j) (Has n k))

-- the key is there, with this value
abbrev pub is_found : (map key value : Tree) → Formula
is_found m k w = And (Eq (Get m k) w) (Eq (Has m k) one)

-- the key is not there
abbrev pub is_gone : (map key : Tree) → Formula
is_gone m k = And (Eq (Get m k) zero) (Eq (Has m k) zero)

-- at equal keys a map has the same
abbrev pub cong_fact : (map left right : Tree) → Formula
cong_fact m j k = Imp (Eq j k) (alike m j m k)

-- at a key: any map
abbrev pub any_read : (map key : Tree) → Formula
any_read m k = And (And (Le zero (Has m k)) (Le (Has m k) one)) (Or (Eq (Has m k) one) (Eq (Get m k) zero))

-- at a key: a map that was changed at the key j alone
abbrev pub changed_read : (map key inner j : Tree) → (change : Formula) → Formula
changed_read m k inner j change = Or (And (Eq k j) change) (And (Not (Eq k j)) (alike m k inner k))

-- the key is there with the raised value, where that is positive, and else not there
abbrev pub is_raised : (map key raised : Tree) → Formula
is_raised m k w = Or (And (Lt zero w) (is_found m k w)) (And (Le w zero) (is_gone m k))

-- what a map has at a key
abbrev pub read_fact : (map key : Tree) → Formula
read_fact Nil k = is_gone Nil k
read_fact (Put m j w) k = changed_read (Put m j w) k m j (is_found (Put m j w) k w)
read_fact (Del m j) k = changed_read (Del m j) k m j (is_gone (Del m j) k)
read_fact (Bump m j n) k = changed_read (Bump m j n) k m j (is_raised (Bump m j n) k (Add (Get m j) n))
read_fact m k = any_read m k

-- how many keys a map has, by those of the map that it was before
abbrev pub size_law : (map : Tree) → Formula
size_law Nil = Eq (Size Nil) zero
size_law (Put m j w) = Eq (Size (Put m j w)) (Sub (Add (Size m) one) (Has m j))
size_law (Del m j) = Eq (Size (Del m j)) (Sub (Size m) (Has m j))
size_law (Bump m j n) = Eq (Size (Bump m j n)) (Sub (Add (Size m) (Has (Bump m j n) j)) (Has m j))
size_law m = Le zero (Size m)

-- a map that has the key has at least one
abbrev pub is_present_within : (map key : Tree) → Formula
is_present_within m k = Le (Has m k) (Size m)

abbrev pub size_fact : (map key : Tree) → Formula
size_fact m k = And (is_present_within m k) (size_law m)

-- the sum of a map's values, by that of the map that it was before
abbrev pub sum_law : (map : Tree) → Formula
sum_law Nil = Eq (Sum Nil) zero
sum_law (Put m j w) = Eq (Sum (Put m j w)) (Sub (Add (Sum m) w) (Get m j))
sum_law (Del m j) = Eq (Sum (Del m j)) (Sub (Sum m) (Get m j))
sum_law (Bump m j n) = Eq (Sum (Bump m j n)) (Sub (Add (Sum m) (Get (Bump m j n) j)) (Get m j))
sum_law m = Eq zero zero

-- the sum of a map without keys, and of one with this key alone
abbrev pub small_sums : (map key : Tree) → Formula
small_sums m k = And (Imp (Eq (Size m) zero) (Eq (Sum m) zero)) (Imp (And (Eq (Size m) one) (Eq (Has m k) one)) (Eq (Sum m) (Get m k)))

abbrev pub total_fact : (map key : Tree) → Formula
total_fact m k = And (small_sums m k) (sum_law m)
