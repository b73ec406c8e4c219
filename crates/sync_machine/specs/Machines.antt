-- A machine as plain lists, with trees in the place of ids.
use Rattle.std.specs.Prelude.{ℕ, List, Option}
use Rattle.sync_terms.specs.Trees.{Tree, Formula}
use Rattle.sync_machine.specs.declared.fields.Field.{Field}
use Rattle.sync_base.specs.declared.strategies.OpMode.{OpMode}

-- a new name for the value, or a term that the value equals
pub data PatternTree : Type 0 where
  Bind : (symbol : ℕ) → PatternTree
  Term : (term : Tree) → PatternTree

pub record PlaceTree : Type 0 where
  pub key : Option Tree
  pub value : Option PatternTree

-- what a statement does; the number is the field's
pub data ActTree : Type 0 where
  Init : (field : ℕ) (term : Tree) → ActTree
  Require : (form : Formula) → ActTree
  Assert : (form : Formula) → ActTree
  Update : (field : ℕ) (term : Tree) → ActTree
  HaveVariable : (field : ℕ) → ActTree
  Add : (field : ℕ) (place : PlaceTree) → ActTree
  Remove : (field : ℕ) (place : PlaceTree) → ActTree
  Have : (field : ℕ) (place : PlaceTree) → ActTree
  Deposit : (field : ℕ) (place : PlaceTree) → ActTree
  Withdraw : (field : ℕ) (place : PlaceTree) → ActTree
  Guard : (field : ℕ) (place : PlaceTree) → ActTree

pub record StepTree : Type 0 where
  pub act : ActTree
  pub line : ℕ

-- parameters are symbols
pub record OperationTree : Type 0 where
  pub name : ℕ
  pub mode : OpMode
  pub params : List ℕ
  pub steps : List StepTree
  pub line : ℕ

pub record InvariantTree : Type 0 where
  pub name : ℕ
  pub params : List ℕ
  pub form : Formula
  pub line : ℕ

pub record MachineTree : Type 0 where
  pub name : ℕ
  pub fields : List Field
  pub ops : List OperationTree
  pub invariants : List InvariantTree
