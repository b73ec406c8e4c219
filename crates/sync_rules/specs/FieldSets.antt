-- What has to be proved of a machine, with the fields that an invariant names as a list of marks.
--
-- The names of an invariant are looked for once, and not again for each operation.
use Rattle.std.specs.Prelude.{◌<◌, ℕ, suc, List, [], ◌∷◌, ◌++◌, map, Bool, true, false, slice_index_or, Option, Some, None, if◌then◌else◌}
use Rattle.std.specs.List.{list_any, range_with_len, AllByRecursion}
use Rattle.sync_terms.specs.Trees.{Formula}
use Rattle.sync_machine.specs.declared.fields.Field.{Field}
use Rattle.sync_base.specs.declared.strategies.OpMode.{OpMode}
use Rattle.sync_base.specs.declared.strategies.OpMode.TheVariants as mode
use Rattle.sync_machine.specs.Machines.{StepTree, OperationTree, InvariantTree, MachineTree}
use Rattle.sync_machine.specs.Statements.{changed_by}
use Rattle.sync_terms.specs.declared.proofs.Claim.TheVariants.{Keeps}
use Rattle.sync_terms.specs.declared.proofs.Obligation.{Obligation}
use Rattle.sync_rules.specs.Obligations.{form_names, safety_claims}

-- the field with this number is marked
abbrev pub has : List Bool → ℕ → Bool
has marks x = slice_index_or marks x false

-- the fields that a formula names
unfoldable pub marks_of : Formula → List Bool
marks_of form = map (λ x. form_names x form) (range_with_len 0 32)

-- the fields that each invariant names
abbrev pub marks_of_all : List InvariantTree → List (List Bool)
marks_of_all is = map (λ (i : InvariantTree). marks_of i.form) is

-- this field is marked, if there is one
abbrev pub is_marked : List Bool → Option ℕ → Bool
is_marked marks (Some f) = has marks f
is_marked marks None = false

-- a field that a changing statement operates on is marked
abbrev pub is_changed : List Bool → List StepTree → Bool
is_changed marks ss = list_any (λ (s : StepTree). is_marked marks (changed_by s.act)) ss

-- an operation of this mode has to keep an invariant that names the marked fields
abbrev pub is_marked_by : OpMode → List StepTree → List Bool → Bool
is_marked_by mode.Init ss marks = true
is_marked_by mode.Transition ss marks = is_changed marks ss
is_marked_by mode.Property ss marks = false

-- the invariants, numbered from j, that an operation has to keep
unfoldable pub marked_claims : OperationTree → ℕ → ℕ → List (List Bool) → List Obligation
marked_claims o op j [] = []
marked_claims o op j (marks ∷ all) =
    if is_marked_by o.mode o.steps marks then record { op = op; claim = Keeps j; line = o.line } ∷ marked_claims o op (suc j) all
    else marked_claims o op (suc j) all

-- the operations, numbered from op
unfoldable pub all_claims : List Field → List (List Bool) → ℕ → List OperationTree → List Obligation
all_claims fs marks op [] = []
all_claims fs marks op (o ∷ os) = (safety_claims fs op 1 o.steps ++ marked_claims o op 0 marks) ++ all_claims fs marks (suc op) os

-- a field that is changed is one of the first 32, which are as many as a machine has
abbrev pub IsSmall : Option ℕ → Type 0
IsSmall None = Unit {0}
IsSmall (Some f) = f < 32

abbrev pub ChangesFields : List StepTree → Type 0
ChangesFields ss = AllByRecursion (λ (s : StepTree). IsSmall (changed_by s.act)) ss

-- every statement that changes a field changes one of the first 32
abbrev pub HasFewFields : MachineTree → Type 0
HasFewFields m = AllByRecursion (λ (o : OperationTree). ChangesFields o.steps) m.ops
