-- A machine whose names are known changes declared fields alone, of which there are at most 32.
use Rattle.std.proofs.Common.{ℕ, ◌<◌, ◌≤◌, List, [], ◌∷◌, length, arith}
use Rattle.std.specs.List.{AllByRecursion}
use Rattle.sync_machine.specs.declared.fields.Field.{Field}
use Rattle.sync_machine.specs.Machines.{ActTree, StepTree, OperationTree, MachineTree}
use Rattle.sync_machine.specs.Machines as acts
use Rattle.sync_machine.specs.Statements.{changed_by}
use Rattle.sync_machine.specs.Scope.{Known, knows}
use Rattle.sync_machine.specs.Named.{own_names, IsStatementIn, KnowsItsNames, IsNamed}
use Rattle.sync_rules.specs.FieldSets.{IsSmall, ChangesFields, HasFewFields}

below : (f n : ℕ) → f < n → n ≤ 32 → f < 32
below f n h few = omega arith

small : (fs : List Field) (k : Known) (act : ActTree) → length fs ≤ 32 → IsStatementIn fs k act → IsSmall (changed_by act)
unfolding changed_by
small fs k (acts.Init f t) few h = below f (length fs) h.0 few
small fs k (acts.Update f t) few h = below f (length fs) h.0 few
small fs k (acts.Add f p) few h = below f (length fs) h.0 few
small fs k (acts.Remove f p) few h = below f (length fs) h.0 few
small fs k (acts.Deposit f p) few h = below f (length fs) h.0 few
small fs k (acts.Withdraw f p) few h = below f (length fs) h.0 few
small fs k (acts.HaveVariable f) few h = tt
small fs k (acts.Have f p) few h = tt
small fs k (acts.Guard f p) few h = tt
small fs k (acts.Require form) few h = tt
small fs k (acts.Assert form) few h = tt

all-small : (fs : List Field) (k : Known) (ss : List StepTree) → length fs ≤ 32 → AllByRecursion (λ (s : StepTree). IsStatementIn fs k s.act) ss → ChangesFields ss
all-small fs k [] few h = tt
all-small fs k (s ∷ ss) few h = (small fs k s.act few h.0, all-small fs k ss few h.1)

operations-small : (fs : List Field) (os : List OperationTree) → length fs ≤ 32 → AllByRecursion (KnowsItsNames fs) os → AllByRecursion (λ (o : OperationTree). ChangesFields o.steps) os
operations-small fs [] few h = tt
operations-small fs (o ∷ os) few h =
    (all-small fs (knows fs (own_names o)) o.steps few h.0.statements, operations-small fs os few h.1)

pub HasFewFields-from_IsNamed : (m : MachineTree) → IsNamed m → HasFewFields m
HasFewFields-from_IsNamed m h = operations-small m.fields m.ops h.few_fields h.operations
