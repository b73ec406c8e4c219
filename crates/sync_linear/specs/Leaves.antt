-- Leaves of sums, and their lines.
use Rattle.std.specs.Prelude.{ℤ, pos, ◌*ℤ◌, [], ◌∷◌}
use Rattle.sync_linear.specs.declared.leaves.Leaf.{Leaf}
use Rattle.sync_linear.specs.declared.leaves.Leaf.TheVariants.{Number, Atom}
use Rattle.sync_linear.specs.Lines.{Line}

-- the line of a leaf, where an atom may stand 0 times
abbrev pub leaf_line : Leaf → Line
leaf_line (Number n) = record { constant = n; atoms = [] }
leaf_line (Atom id n) = record { constant = pos 0; atoms = (id, n) ∷ [] }

-- its constant, or how many times its atom stands there
abbrev pub number_of : Leaf → ℤ
number_of (Number n) = n
number_of (Atom id n) = n

-- so many times a leaf
abbrev pub scaled_leaf : ℤ → Leaf → Leaf
scaled_leaf c (Number n) = Number (c *ℤ n)
scaled_leaf c (Atom id n) = Atom id (c *ℤ n)
