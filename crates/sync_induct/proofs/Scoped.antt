-- Conditions and values that speak of known symbols alone, so that their values depend on these.
use Rattle.std.proofs.Common.{◌≡◌, ℕ, ◌<◌, ◌≤◌, List, [], ◌∷◌, length, slice_index_or, Option, Some, None}
use Rattle.std.specs.List.{AllByRecursion}
use Rattle.sync_terms.specs.Trees.{Tree, Nil, Formula}
use Rattle.sync_machine.specs.declared.fields.Field.{Field}
use Rattle.sync_machine.specs.Machines.{StepTree, OperationTree, MachineTree}
use Rattle.sync_machine.specs.Statements.{condition}
use Rattle.sync_machine.specs.States.{sort_of, strategy_at, strategy_of, current_of, advanced, last_values, first_values}
use Rattle.sync_machine.specs.Scope.{Known, knows, IsFormula, HasSort, IsNameSymbol, IsScopedInvariant, ChangesNothing}

abbrev pub IsConditionIn : Known → Option Formula → Type 0
IsConditionIn k None = Unit {0}
IsConditionIn k (Some f) = IsFormula k f

-- the conditions of an operation's statements name known symbols alone
unfoldable pub AreConditionsIn : List Field → Known → List Tree → List StepTree → Type 0
AreConditionsIn fs k cur [] = Unit {0}
AreConditionsIn fs k cur (s ∷ ss) = IsConditionIn k (condition (strategy_of fs s.act) (current_of cur s.act) s.act) × AreConditionsIn fs k (advanced fs cur s.act) ss

-- An operation speaks of the fields, its parameters and the names that it binds alone, each as its sort.
pub record IsScopedOperation (fs : List Field) (o : OperationTree) : Type 0 where
  pub given : List ℕ
  pub are_names : AllByRecursion IsNameSymbol given
  pub conditions : AreConditionsIn fs (knows fs given) (first_values fs o.mode) o.steps
  pub values : (x : ℕ) → x < length fs → HasSort (knows fs given) (sort_of (strategy_at fs x)) (slice_index_or (last_values fs (first_values fs o.mode) o.steps) x Nil)

-- every condition and value speaks of known symbols alone
pub record IsScoped (m : MachineTree) : Type 0 where
  pub few_fields : length m.fields ≤ 32
  pub operations : AllByRecursion (IsScopedOperation m.fields) m.ops
  pub properties : AllByRecursion ChangesNothing m.ops
  pub invariants : AllByRecursion (IsScopedInvariant m.fields) m.invariants
