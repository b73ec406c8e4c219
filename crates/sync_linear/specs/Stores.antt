-- Lines over a store of terms: the line of a term, by the ids of its atoms.
use Rattle.std.specs.Prelude.{◌≡◌, ◌≢◌, ℕ, ◌<◌, pos, length}
use Rattle.sync_terms.specs.declared.nodes.TermId.{TermId}
use Rattle.sync_terms.specs.Trees.{Tree, Lit, Name, Add, Sub, Scale, Get, Has, Size, Sum, Nil, Put, Del, Bump}
use Rattle.sync_terms.specs.Stored.{Stored, tree, IsTerm}
use Rattle.sync_linear.specs.declared.changes.Change.{Change}
use Rattle.sync_linear.specs.declared.changes.Change.TheVariants.{Plus, Minus, Times}
use Rattle.sync_linear.specs.Lines.{Line, times}
use Rattle.sync_linear.specs.Forms.{constant_of, coefficient_of, IsWithin}

-- a term is stored under some id
abbrev pub HasId : Stored → Tree → Type 0
HasId s t = (id : TermId) × IsTerm s id × (tree s id ≡ t)

-- the atoms of a term are stored
abbrev pub HasAtoms : Stored → Tree → Type 0
HasAtoms s (Add a b) = HasAtoms s a × HasAtoms s b
HasAtoms s (Sub a b) = HasAtoms s a × HasAtoms s b
HasAtoms s (Scale n a) = HasAtoms s a
HasAtoms s (Name x) = HasId s (Name x)
HasAtoms s (Get m k) = HasId s (Get m k)
HasAtoms s (Has m k) = HasId s (Has m k)
HasAtoms s (Size m) = HasId s (Size m)
HasAtoms s (Sum m) = HasId s (Sum m)
HasAtoms s (Lit n) = Unit {0}
HasAtoms s Nil = Unit {0}
HasAtoms s (Put m k v) = Unit {0}
HasAtoms s (Del m k) = Unit {0}
HasAtoms s (Bump m k n) = Unit {0}

-- the line has the term's constant, and at each stored atom the term's coefficient
pub record IsLineOf (s : Stored) (t : Tree) (line : Line) : Type 0 where
  pub constant : line.constant ≡ constant_of t
  pub atoms : (id : TermId) → IsTerm s id → times line.atoms id.0 ≡ coefficient_of (tree s id) t
  pub stored : (id : ℕ) → times line.atoms id ≢ pos 0 → id < length s.nodes
  pub has_atoms : HasAtoms s t

-- the term that a change makes of two
abbrev pub joined : Change → Tree → Tree → Tree
joined Plus a b = Add a b
joined Minus a b = Sub a b
joined (Times c) a b = Add a (Scale c b)

-- no step of it leaves signed 128 bits
abbrev pub JoinFits : Change → Tree → Tree → Type 0
JoinFits Plus a b = IsWithin (Add a b)
JoinFits Minus a b = IsWithin (Sub a b)
JoinFits (Times c) a b = IsWithin (Scale c b) × IsWithin (Add a (Scale c b))
