-- A term taken apart down the operands that are walked.
use Rattle.std.specs.Prelude.{◌≡◌, ◌⊎◌, ℕ, ◌-◌, ◌<◌, ℤ, pos, List, [], ◌∷◌, ◌++◌, length, take}
use Rattle.std.specs.List.{AllByRecursion}
use Rattle.sync_terms.specs.declared.nodes.TermId.{TermId}
use Rattle.sync_terms.specs.Trees.{Tree, Lit, Add, Sub, Scale}
use Rattle.sync_terms.specs.Stored.{Stored, tree, IsTerm}
use Rattle.sync_linear.specs.declared.terms.Rest.{Rest}
use Rattle.sync_linear.specs.declared.terms.Rest.TheVariants.{Plus, Minus, Times, AddedTo, TakenFrom, Opposite}
use Rattle.sync_linear.specs.declared.terms.Part.{Part}
use Rattle.sync_linear.specs.declared.terms.Part.TheVariants.{Under, Alone}
use Rattle.sync_linear.specs.Lines.{Line}
use Rattle.sync_linear.specs.Leaves.{leaf_line}
use Rattle.sync_linear.specs.Forms.{constant_of, coefficient_of, Narrow}
use Rattle.sync_linear.specs.Stores.{HasAtoms, IsLineOf}

-- the term that the rest makes of the operand that is walked
abbrev pub completed : Stored → Rest → Tree → Tree
completed s (Plus b) a = Add a (tree s b)
completed s (Minus b) a = Sub a (tree s b)
completed s (Times n) a = Scale n a
completed s (AddedTo a) b = Add (tree s a) b
completed s (TakenFrom a) b = Sub (tree s a) b
completed s Opposite b = Sub (Lit (pos 0)) b

-- its other operand is stored, before this id
abbrev pub IsBelow : Stored → ℕ → Rest → Type 0
IsBelow s id (Plus b) = IsTerm s b × (b.0 < id)
IsBelow s id (Minus b) = IsTerm s b × (b.0 < id)
IsBelow s id (Times n) = Unit {0}
IsBelow s id (AddedTo a) = IsTerm s a × (a.0 < id)
IsBelow s id (TakenFrom a) = IsTerm s a × (a.0 < id)
IsBelow s id Opposite = Unit {0}

abbrev pub IsPartOf : Stored → TermId → Part → Type 0
IsPartOf s t (Under rest a) = (tree s t ≡ completed s rest (tree s a)) × IsTerm s a × (a.0 < t.0) × IsBelow s t.0 rest
IsPartOf s t (Alone leaf) = IsLineOf s (tree s t) (leaf_line leaf) × Narrow (tree s t)

-- the term that the rests make of an innermost one, the outermost rest first
abbrev pub wrapped : Stored → List Rest → Tree → Tree
wrapped s [] t = t
wrapped s (r ∷ rs) t = completed s r (wrapped s rs t)

-- the rest takes the operand that is walked from this one
abbrev pub TakesFrom : Stored → TermId → Rest → Type 0
TakesFrom s a (TakenFrom b) = b ≡ a
TakesFrom s a Opposite = tree s a ≡ Lit (pos 0)
TakesFrom s a (Plus b) = ⊥
TakesFrom s a (Minus b) = ⊥
TakesFrom s a (Times n) = ⊥
TakesFrom s a (AddedTo b) = ⊥

-- the last two rests are signs
pub record EndInSigns (rests : List Rest) : Type 0 where
  pub front : List Rest
  pub shorter : take (length rests - 1) rests ≡ front ++ Opposite ∷ []
  pub all : rests ≡ (front ++ Opposite ∷ []) ++ Opposite ∷ []

-- the rest went last; or it was a third sign, and the second is gone
abbrev pub IsPut : List Rest → Rest → List Rest → Type 0
IsPut old rest new = (new ≡ old ++ rest ∷ []) ⊎ ((rest ≡ Opposite) × EndInSigns old × (new ≡ take (length old - 1) old))

-- two terms have the same lines, and each is narrow where the other is
pub record AreAlike (s : Stored) (a b : Tree) : Type 0 where
  pub constant : constant_of a ≡ constant_of b
  pub atoms : (x : Tree) → coefficient_of x a ≡ coefficient_of x b
  pub stored : HasAtoms s a → HasAtoms s b
  pub narrow : Narrow a → Narrow b
  pub wide : Narrow b → Narrow a

-- the rests make a term like the stored one of an inner one, of which this is the line
pub record IsTaken (s : Stored) (t : TermId) (rests : List Rest) (line : Line) : Type 0 where
  pub inner : Tree
  pub whole : AreAlike s (wrapped s rests inner) (tree s t)
  pub below : AllByRecursion (IsBelow s t.0) rests
  pub has_line : IsLineOf s inner line
  pub narrow : Narrow inner
