-- Formulas as lines: a term that is at most 0, 0, or not 0.
use Rattle.std.specs.Prelude.{◌^◌, ℤ, pos, negsuc, Bool, true, false, not, ◌&&◌, nat_lt, int_lt, List, [], ◌∷◌, ◌++◌, Option, Some, None}
use Rattle.std.specs.Ordering.{int_eq}
use Rattle.std.specs.List.{list_all}
use Rattle.sync_terms.specs.Trees.{Tree, Lit, Name, Add, Sub, Scale, Get, Has, Size, Sum, Nil, Put, Del, Bump, Formula, Le, Lt, Eq, Not, And, Or, Imp}
use Rattle.sync_linear.specs.Forms.{tree_eq, constant_of, coefficient_of}
use Rattle.sync_kernel.specs.declared.rows.Kind.{Kind}
use Rattle.sync_kernel.specs.declared.rows.Kind.TheVariants.{AtMostZero, Zero, NotZero}

pub record Row : Type 0 where
  pub kind : Kind
  pub line : Tree

abbrev pub row : Kind → Tree → Option Row
row kind line = Some (record { kind = kind; line = line })

abbrev pub one_more : Tree → Tree
one_more t = Add t (Lit (pos 1))

-- the line of the negation of a formula
abbrev pub row_of_not : Formula → Option Row
row_of_not (Le t u) = row AtMostZero (one_more (Sub u t))
row_of_not (Lt t u) = row AtMostZero (Sub u t)
row_of_not (Eq t u) = row NotZero (Sub t u)
row_of_not (Not f) = None
row_of_not (And f g) = None
row_of_not (Or f g) = None
row_of_not (Imp f g) = None

abbrev pub row_of : Formula → Option Row
row_of (Le t u) = row AtMostZero (Sub t u)
row_of (Lt t u) = row AtMostZero (one_more (Sub t u))
row_of (Eq t u) = row Zero (Sub t u)
row_of (Not f) = row_of_not f
row_of (And f g) = None
row_of (Or f g) = None
row_of (Imp f g) = None

-- the atoms of a term, each as often as it stands there
abbrev pub atoms_of : Tree → List Tree
atoms_of (Lit n) = []
atoms_of (Name x) = Name x ∷ []
atoms_of (Add a b) = atoms_of a ++ atoms_of b
atoms_of (Sub a b) = atoms_of a ++ atoms_of b
atoms_of (Scale n a) = atoms_of a
atoms_of (Get m k) = Get m k ∷ []
atoms_of (Has m k) = Has m k ∷ []
atoms_of (Size m) = Size m ∷ []
atoms_of (Sum m) = Sum m ∷ []
atoms_of Nil = []
atoms_of (Put m k v) = []
atoms_of (Del m k) = []
atoms_of (Bump m k n) = []

-- whether a number fits signed 128 bits
abbrev pub fits : ℤ → Bool
fits (pos n) = nat_lt n (2 ^ 127)
fits (negsuc n) = nat_lt n (2 ^ 127)

-- whether the constant and all coefficients of a term do
abbrev pub within : Tree → Bool
within t = fits (constant_of t) && list_all (λ a. fits (coefficient_of a t)) (atoms_of t)

-- whether those of its parts do too, from the leaves upward
abbrev pub narrow : Tree → Bool
narrow (Add a b) = within (Add a b) && (narrow a && narrow b)
narrow (Sub a b) = within (Sub a b) && (narrow a && narrow b)
narrow (Scale n a) = within (Scale n a) && narrow a
narrow (Lit n) = within (Lit n)
narrow (Name x) = true
narrow (Get m k) = true
narrow (Has m k) = true
narrow (Size m) = true
narrow (Sum m) = true
narrow Nil = true
narrow (Put m k v) = true
narrow (Del m k) = true
narrow (Bump m k n) = true

-- whether no atom stays
abbrev pub no_atom : Tree → Bool
no_atom t = list_all (λ a. int_eq (coefficient_of a t) (pos 0)) (atoms_of t)

-- whether a line that is this number is false
abbrev pub is_false : Kind → ℤ → Bool
is_false AtMostZero n = int_lt (pos 0) n
is_false Zero n = not (int_eq n (pos 0))
is_false NotZero n = int_eq n (pos 0)

abbrev pub formula_eq : Formula → Formula → Bool
formula_eq (Le a b) (Le c d) = tree_eq a c && tree_eq b d
formula_eq (Lt a b) (Lt c d) = tree_eq a c && tree_eq b d
formula_eq (Eq a b) (Eq c d) = tree_eq a c && tree_eq b d
formula_eq (Not f) (Not g) = formula_eq f g
formula_eq (And f g) (And h i) = formula_eq f h && formula_eq g i
formula_eq (Or f g) (Or h i) = formula_eq f h && formula_eq g i
formula_eq (Imp f g) (Imp h i) = formula_eq f h && formula_eq g i
formula_eq _ _ = false
