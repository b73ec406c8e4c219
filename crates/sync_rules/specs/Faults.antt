-- The first rule on strategies that a machine breaks.
--
-- The first place in the text counts, and at one place the rule that is asked first.
use Rattle.std.specs.Prelude.{ℕ, List, [], ◌∷◌, ◌++◌, Bool, true, false, ◌&&◌, Option, Some, None}
use Rattle.sync_base.specs.declared.stops.Rule.{Rule}
use Rattle.sync_base.specs.declared.stops.Rule.TheVariants.{S1, S2, S3, S4, S5, S6}
use Rattle.sync_base.specs.declared.stops.Refusal.{Refusal}
use Rattle.sync_base.specs.Outcome.{first}
use Rattle.sync_machine.specs.declared.fields.Field.{Field}
use Rattle.sync_base.specs.declared.strategies.Strategy.{Strategy}
use Rattle.sync_base.specs.declared.strategies.OpMode.{OpMode}
use Rattle.sync_machine.specs.Machines.{ActTree, StepTree, OperationTree, MachineTree}
use Rattle.sync_machine.specs.States.{strategy_of}
use Rattle.sync_rules.specs.declared.kinds.OpKind.{OpKind}
use Rattle.sync_rules.specs.Strategies.{has_statement, kind_of}
use Rattle.sync_rules.specs.Order.{may_stand_in, is_in_order, is_only_update, keeps_still}
use Rattle.sync_rules.specs.Locality.{has_local_terms}
use Rattle.sync_rules.specs.Shapes.{fits}

abbrev pub has_kind : Strategy → Option OpKind → Bool
has_kind s None = true
has_kind s (Some kind) = has_statement s kind

-- the statement is one of its field's strategy, and of an operation of this mode
abbrev pub is_allowed : List Field → OpMode → ActTree → Bool
is_allowed fs mode act = has_kind (strategy_of fs act) (kind_of act) && may_stand_in mode act

-- the rule is broken where its test fails, and then no later one is asked
abbrev pub asks : Rule → Bool → Option Rule → Option Rule
asks rule true later = later
asks rule false later = Some rule

-- the first rule that a statement breaks behind the earlier ones of its operation
unfoldable pub broken_rule : List Field → OpMode → List StepTree → ActTree → Option Rule
broken_rule fs mode earlier act =
    asks S1 (is_allowed fs mode act)
    (asks S2 (is_in_order earlier act)
    (asks S3 (is_only_update earlier act)
    (asks S4 (has_local_terms fs mode act)
    (asks S5 (keeps_still mode act)
    (asks S6 (fits (strategy_of fs act) act) None)))))

abbrev pub refused_at : ℕ → Option Rule → Option Refusal
refused_at line None = None
refused_at line (Some rule) = Some (record { line = line; rule = rule })

-- the first fault of statements that stand behind these earlier ones
unfoldable pub steps_fault : List Field → OpMode → List StepTree → List StepTree → Option Refusal
steps_fault fs mode earlier [] = None
steps_fault fs mode earlier (s ∷ ss) = first (refused_at s.line (broken_rule fs mode earlier s.act)) (steps_fault fs mode (earlier ++ s ∷ []) ss)

abbrev pub operation_fault : List Field → OperationTree → Option Refusal
operation_fault fs o = steps_fault fs o.mode [] o.steps

unfoldable pub operations_fault : List Field → List OperationTree → Option Refusal
operations_fault fs [] = None
operations_fault fs (o ∷ os) = first (operation_fault fs o) (operations_fault fs os)

-- the first fault of a machine's operations
abbrev pub strategy_fault : MachineTree → Option Refusal
strategy_fault m = operations_fault m.fields m.ops
