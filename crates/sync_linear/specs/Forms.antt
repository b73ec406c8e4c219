-- Terms as sums: a constant and so many times each atom, and when all of it stays within signed 128 bits.
use Rattle.std.specs.Prelude.{ℤ, pos, ◌+ℤ◌, ◌-ℤ◌, ◌*ℤ◌, Bool, true, false, ◌&&◌, nat_eq, if◌then◌else◌, FitsSigned}
use Rattle.std.specs.Int.{w128}
use Rattle.std.specs.Ordering.{int_eq}
use Rattle.sync_terms.specs.Trees.{Tree, Lit, Name, Add, Sub, Scale, Get, Has, Size, Sum, Nil, Put, Del, Bump}

-- whether two terms are the same tree
abbrev pub tree_eq : Tree → Tree → Bool
tree_eq (Lit n) (Lit m) = int_eq n m
tree_eq (Name x) (Name y) = nat_eq x y
tree_eq (Add a b) (Add c d) = tree_eq a c && tree_eq b d
tree_eq (Sub a b) (Sub c d) = tree_eq a c && tree_eq b d
tree_eq (Scale n a) (Scale m b) = int_eq n m && tree_eq a b
tree_eq (Get a b) (Get c d) = tree_eq a c && tree_eq b d
tree_eq (Has a b) (Has c d) = tree_eq a c && tree_eq b d
tree_eq (Size a) (Size b) = tree_eq a b
tree_eq (Sum a) (Sum b) = tree_eq a b
tree_eq Nil Nil = true
tree_eq (Put a b e) (Put c d f) = tree_eq a c && (tree_eq b d && tree_eq e f)
tree_eq (Del a b) (Del c d) = tree_eq a c && tree_eq b d
tree_eq (Bump a b e) (Bump c d f) = tree_eq a c && (tree_eq b d && tree_eq e f)
tree_eq _ _ = false

-- the constant of a term
abbrev pub constant_of : Tree → ℤ
constant_of (Lit n) = n
constant_of (Add a b) = constant_of a +ℤ constant_of b
constant_of (Sub a b) = constant_of a -ℤ constant_of b
constant_of (Scale n a) = n *ℤ constant_of a
constant_of (Name x) = pos 0
constant_of (Get m k) = pos 0
constant_of (Has m k) = pos 0
constant_of (Size m) = pos 0
constant_of (Sum m) = pos 0
constant_of Nil = pos 0
constant_of (Put m k v) = pos 0
constant_of (Del m k) = pos 0
constant_of (Bump m k n) = pos 0

-- a term without its constant, where each atom counts as w says
abbrev pub weighed : (Tree → ℤ) → Tree → ℤ
weighed w (Lit n) = pos 0
weighed w (Add a b) = weighed w a +ℤ weighed w b
weighed w (Sub a b) = weighed w a -ℤ weighed w b
weighed w (Scale n a) = n *ℤ weighed w a
weighed w (Name x) = w (Name x)
weighed w (Get m k) = w (Get m k)
weighed w (Has m k) = w (Has m k)
weighed w (Size m) = w (Size m)
weighed w (Sum m) = w (Sum m)
weighed w Nil = pos 0
weighed w (Put m k v) = pos 0
weighed w (Del m k) = pos 0
weighed w (Bump m k n) = pos 0

-- 1 at one atom, 0 at the others
abbrev pub one_at : Tree → Tree → ℤ
one_at atom t = if tree_eq atom t then pos 1 else pos 0

-- how many times an atom stands in a term
abbrev pub coefficient_of : Tree → Tree → ℤ
coefficient_of atom t = weighed (one_at atom) t

-- the constant and each coefficient fit signed 128 bits
pub record IsWithin (t : Tree) : Type 0 where
  pub constant : FitsSigned w128 (constant_of t)
  pub atoms : (atom : Tree) → FitsSigned w128 (coefficient_of atom t)

-- so do those of each part, from the leaves upward
abbrev pub Narrow : Tree → Type 0
Narrow (Add a b) = IsWithin (Add a b) × Narrow a × Narrow b
Narrow (Sub a b) = IsWithin (Sub a b) × Narrow a × Narrow b
Narrow (Scale n a) = IsWithin (Scale n a) × Narrow a
Narrow (Lit n) = IsWithin (Lit n)
Narrow (Name x) = Unit {0}
Narrow (Get m k) = Unit {0}
Narrow (Has m k) = Unit {0}
Narrow (Size m) = Unit {0}
Narrow (Sum m) = Unit {0}
Narrow Nil = Unit {0}
Narrow (Put m k v) = Unit {0}
Narrow (Del m k) = Unit {0}
Narrow (Bump m k n) = Unit {0}
