-- All duties of a machine, apart from the other checks.
use Rattle.std.proofs.Common.{ℕ, suc, List, [], ◌∷◌, ◌++◌}
use Rattle.std.specs.List.{AllByRecursion}
use Rattle.sync_terms.specs.Trees.{Tree}
use Rattle.sync_machine.specs.declared.fields.Field.{Field}
use Rattle.sync_machine.specs.Machines.{StepTree, OperationTree, InvariantTree, MachineTree}
use Rattle.sync_machine.specs.Statements.{safety}
use Rattle.sync_machine.specs.States.{strategy_of, current_of, advanced, last_values, first_values}
use Rattle.sync_kernel_facts.specs.Facts.{Fact}
use Rattle.sync_induct.specs.Duties.{Duty, safety_duties, step_facts, facts_behind, keeps_duties, base_facts, IsProved}

-- The safety conditions of statements that are numbered from n: each from the facts before its statement.
unfoldable pub step_duties : List Field → ℕ → List Tree → List Fact → ℕ → List StepTree → List Duty
step_duties fs op cur facts n [] = []
step_duties fs op cur facts n (s ∷ ss) =
    safety_duties op n s.line facts (safety (strategy_of fs s.act) (current_of cur s.act) s.act)
    ++ step_duties fs op (advanced fs cur s.act) (facts ++ step_facts fs cur n s) (suc n) ss

-- the duties of an operation: its safety conditions, then the invariants that it has to keep
abbrev pub operation_duties : List Field → List InvariantTree → ℕ → OperationTree → List Duty
operation_duties fs is op o =
    step_duties fs op (first_values fs o.mode) (base_facts o.mode is) 1 o.steps
    ++ keeps_duties o op (facts_behind fs (first_values fs o.mode) (base_facts o.mode is) 1 o.steps)
    (last_values fs (first_values fs o.mode) o.steps) 0 is

unfoldable pub duties_from : List Field → List InvariantTree → ℕ → List OperationTree → List Duty
duties_from fs is op [] = []
duties_from fs is op (o ∷ os) = operation_duties fs is op o ++ duties_from fs is (suc op) os

-- everything that has to be proved of a machine, in order
abbrev pub duties_of : MachineTree → List Duty
duties_of m = duties_from m.fields m.invariants 0 m.ops

abbrev pub AreProved : List Duty → Type 0
AreProved ds = AllByRecursion IsProved ds
