-- The checks of a machine, in order: that each duty is proved, and that what each statement makes is not too large.
use Rattle.std.specs.Prelude.{ℕ, suc, List, [], ◌∷◌, ◌++◌, map}
use Rattle.std.specs.List.{AllByRecursion}
use Rattle.sync_terms.specs.Trees.{Tree, tree_size}
use Rattle.sync_machine.specs.declared.fields.Field.{Field}
use Rattle.sync_base.specs.declared.strategies.Strategy.{Strategy}
use Rattle.sync_machine.specs.Machines.{StepTree, OperationTree, InvariantTree, MachineTree}
use Rattle.sync_machine.specs.Statements.{safety, condition, after}
use Rattle.sync_machine.specs.States.{strategy_of, current_of, advanced, last_values, first_values}
use Rattle.sync_kernel_facts.specs.Facts.{Fact}
use Rattle.sync_induct_acts.specs.Conditions.{condition_size}
use Rattle.sync_induct.specs.Duties.{Duty, IsProved, safety_duties, step_facts, facts_behind, keeps_duties, base_facts}

-- a duty has a proof; what the statement in a line makes, of so many nodes, is not too large
pub data Check : Type 0 where
  Proves : (duty : Duty) → Check
  Fits : (line nodes : ℕ) → Check

abbrev pub proves : List Duty → List Check
proves ds = map Proves ds

-- a statement on a field of this strategy, with this value so far: its safety condition, then what is known behind it, and the value that it leaves
abbrev pub statement_checks : ℕ → ℕ → List Fact → Strategy → Tree → StepTree → List Check
statement_checks op n facts k cur s =
    proves (safety_duties op n s.line facts (safety k cur s.act))
    ++ Fits s.line (condition_size (condition k cur s.act)) ∷ Fits s.line (tree_size (after k cur s.act)) ∷ []

-- statements that are numbered from n
unfoldable pub step_checks : List Field → ℕ → List Tree → List Fact → ℕ → List StepTree → List Check
step_checks fs op cur facts n [] = []
step_checks fs op cur facts n (s ∷ ss) =
    statement_checks op n facts (strategy_of fs s.act) (current_of cur s.act) s
    ++ step_checks fs op (advanced fs cur s.act) (facts ++ step_facts fs cur n s) (suc n) ss

-- an operation: its statements, then the invariants that it has to keep
abbrev pub operation_checks : List Field → List InvariantTree → ℕ → OperationTree → List Check
operation_checks fs is op o =
    step_checks fs op (first_values fs o.mode) (base_facts o.mode is) 1 o.steps
    ++ proves (keeps_duties o op (facts_behind fs (first_values fs o.mode) (base_facts o.mode is) 1 o.steps)
    (last_values fs (first_values fs o.mode) o.steps) 0 is)

unfoldable pub checks_from : List Field → List InvariantTree → ℕ → List OperationTree → List Check
checks_from fs is op [] = []
checks_from fs is op (o ∷ os) = operation_checks fs is op o ++ checks_from fs is (suc op) os

-- all checks of a machine
abbrev pub checks_of : MachineTree → List Check
checks_of m = checks_from m.fields m.invariants 0 m.ops

-- what is checked is so: a duty's claim follows from its facts
abbrev pub IsShown : Check → Type 0
IsShown (Proves d) = IsProved d
IsShown (Fits line nodes) = Unit {0}

abbrev pub AreShown : List Check → Type 0
AreShown cs = AllByRecursion IsShown cs
