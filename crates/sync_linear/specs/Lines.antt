-- What a line is: a constant, and how many times each atom stands in it.
use Rattle.std.specs.Prelude.{◌≡◌, ◌≢◌, ℕ, ℤ, pos, List, unwrap_or, Some, FitsSigned}
use Rattle.std.specs.Int.{w128}
use Rattle.std.specs.Ordering.{nat_cmp}
use Rattle.std.specs.BTreeMap.{is_at}
use Rattle.std.specs.Map.{lookup}
use Rattle.sync_linear.specs.declared.changes.Change.{Change}
use Rattle.sync_linear.specs.Changes.{changed, ChangeFits}

-- the atoms' ids, ascending, with a number for each
abbrev pub Atoms : Type 0
Atoms = List (ℕ × ℤ)

pub record Line : Type 0 where
  pub constant : ℤ
  pub atoms : Atoms

-- how many times an atom stands there, 0 where it does not
abbrev pub times : Atoms → ℕ → ℤ
times atoms id = unwrap_or (lookup (is_at (nat_cmp id)) atoms) (pos 0)

-- no atom stands there 0 times
abbrev pub HasNoZero : Atoms → Type 0
HasNoZero atoms = (id : ℕ) → lookup (is_at (nat_cmp id)) atoms ≢ Some (pos 0)

-- what holds of every line
pub record IsLine (line : Line) : Type 0 where
  pub no_zero : HasNoZero line.atoms
  pub constant_fits : FitsSigned w128 line.constant
  pub times_fit : (id : ℕ) → FitsSigned w128 (times line.atoms id)

-- the new line is the old one, changed by the other at its constant and at each atom
pub record IsChanged (how : Change) (old by new : Line) : Type 0 where
  pub constant : new.constant ≡ changed how old.constant by.constant
  pub atoms : (id : ℕ) → times new.atoms id ≡ changed how (times old.atoms id) (times by.atoms id)

-- no step of that change leaves signed 128 bits
pub record LineFits (how : Change) (old by : Line) : Type 0 where
  pub constant : ChangeFits how old.constant by.constant
  pub atoms : (id : ℕ) → ChangeFits how (times old.atoms id) (times by.atoms id)
