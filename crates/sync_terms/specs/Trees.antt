-- Terms and formulas as trees, apart from any store.
use Rattle.std.specs.Prelude.{ℕ, ◌+◌, ℤ}
use Rattle.sync_terms.specs.declared.store.TheConstants.{MOST_NODES}

-- a term: a number or a finite map. A name is a symbol's number
pub data Tree : Type 0 where
  Lit : (value : ℤ) → Tree
  Name : (symbol : ℕ) → Tree
  Add : (left right : Tree) → Tree
  Sub : (left right : Tree) → Tree
  Scale : (times : ℤ) (term : Tree) → Tree
  Get : (map key : Tree) → Tree
  Has : (map key : Tree) → Tree
  Size : (map : Tree) → Tree
  Sum : (map : Tree) → Tree
  Nil : Tree
  Put : (map key value : Tree) → Tree
  Del : (map key : Tree) → Tree
  Bump : (map key count : Tree) → Tree

-- a formula without quantifiers
pub data Formula : Type 0 where
  Le : (left right : Tree) → Formula
  Lt : (left right : Tree) → Formula
  Eq : (left right : Tree) → Formula
  Not : (form : Formula) → Formula
  And : (left right : Formula) → Formula
  Or : (left right : Formula) → Formula
  Imp : (left right : Formula) → Formula

-- the number of nodes of a term
unfoldable pub tree_size : Tree → ℕ
tree_size (Lit n) = 1
tree_size (Name x) = 1
tree_size (Add a b) = tree_size a + tree_size b + 1
tree_size (Sub a b) = tree_size a + tree_size b + 1
tree_size (Scale n a) = tree_size a + 1
tree_size (Get m k) = tree_size m + tree_size k + 1
tree_size (Has m k) = tree_size m + tree_size k + 1
tree_size (Size m) = tree_size m + 1
tree_size (Sum m) = tree_size m + 1
tree_size Nil = 1
tree_size (Put m k v) = tree_size m + tree_size k + tree_size v + 1
tree_size (Del m k) = tree_size m + tree_size k + 1
tree_size (Bump m k n) = tree_size m + tree_size k + tree_size n + 1

-- the number of nodes of a formula, those of its terms among them
unfoldable pub formula_size : Formula → ℕ
formula_size (Le a b) = tree_size a + tree_size b + 1
formula_size (Lt a b) = tree_size a + tree_size b + 1
formula_size (Eq a b) = tree_size a + tree_size b + 1
formula_size (Not f) = formula_size f + 1
formula_size (And f g) = formula_size f + formula_size g + 1
formula_size (Or f g) = formula_size f + formula_size g + 1
formula_size (Imp f g) = formula_size f + formula_size g + 1

-- the most nodes that a term or a formula of a store has
abbrev pub most_nodes : ℕ
most_nodes = MOST_NODES

-- the negation of a formula, where a double negation is none
abbrev pub neg : Formula → Formula
neg (Le a b) = Not (Le a b)
neg (Lt a b) = Not (Lt a b)
neg (Eq a b) = Not (Eq a b)
neg (Not f) = f
neg (And f g) = Not (And f g)
neg (Or f g) = Not (Or f g)
neg (Imp f g) = Not (Imp f g)

-- each symbol replaced at once
unfoldable pub replaced : (ℕ → Tree) → Tree → Tree
replaced s (Lit n) = Lit n
replaced s (Name x) = s x
replaced s (Add a b) = Add (replaced s a) (replaced s b)
replaced s (Sub a b) = Sub (replaced s a) (replaced s b)
replaced s (Scale n a) = Scale n (replaced s a)
replaced s (Get m k) = Get (replaced s m) (replaced s k)
replaced s (Has m k) = Has (replaced s m) (replaced s k)
replaced s (Size m) = Size (replaced s m)
replaced s (Sum m) = Sum (replaced s m)
replaced s Nil = Nil
replaced s (Put m k v) = Put (replaced s m) (replaced s k) (replaced s v)
replaced s (Del m k) = Del (replaced s m) (replaced s k)
replaced s (Bump m k n) = Bump (replaced s m) (replaced s k) (replaced s n)

unfoldable pub replaced_in : (ℕ → Tree) → Formula → Formula
replaced_in s (Le a b) = Le (replaced s a) (replaced s b)
replaced_in s (Lt a b) = Lt (replaced s a) (replaced s b)
replaced_in s (Eq a b) = Eq (replaced s a) (replaced s b)
replaced_in s (Not f) = Not (replaced_in s f)
replaced_in s (And f g) = And (replaced_in s f) (replaced_in s g)
replaced_in s (Or f g) = Or (replaced_in s f) (replaced_in s g)
replaced_in s (Imp f g) = Imp (replaced_in s f) (replaced_in s g)
