-- The conditions of an operation's statements as tests, so that a meaning can be computed from them.
use Rattle.std.specs.Prelude.{◌≡◌, ◌↔◌, Bool, true, not, ◌&&◌, ◌||◌, List, [], ◌∷◌, Option, Some, None}
use Rattle.sync_terms.specs.Trees.{Tree, Formula}
use Rattle.sync_terms.specs.Values.{Valuation, truth}
use Rattle.sync_machine.specs.declared.fields.Field.{Field}
use Rattle.sync_machine.specs.Machines.{StepTree}
use Rattle.sync_machine.specs.Statements.{safety, condition}
use Rattle.sync_machine.specs.States.{strategy_of, current_of, advanced, AreMet, IsKeptSafe}

-- the condition is true, where there is one
abbrev pub is_met : Valuation → Option Formula → Bool
is_met v None = true
is_met v (Some f) = truth v f

-- every statement's condition is true
unfoldable pub are_met : List Field → Valuation → List Tree → List StepTree → Bool
are_met fs v cur [] = true
are_met fs v cur (s ∷ ss) = is_met v (condition (strategy_of fs s.act) (current_of cur s.act) s.act)
    && are_met fs v (advanced fs cur s.act) ss

-- every statement's safety condition is true, up to the first condition that is not
unfoldable pub is_kept_safe : List Field → Valuation → List Tree → List StepTree → Bool
is_kept_safe fs v cur [] = true
is_kept_safe fs v cur (s ∷ ss) = is_met v (safety (strategy_of fs s.act) (current_of cur s.act) s.act)
    && (not (is_met v (condition (strategy_of fs s.act) (current_of cur s.act) s.act)) || is_kept_safe fs v (advanced fs cur s.act) ss)

-- the tests say what the facts say
abbrev pub ConditionsAreTests : Type 0
ConditionsAreTests = (fs : List Field) (v : Valuation) (cur : List Tree) (ss : List StepTree) → (are_met fs v cur ss ≡ true) ↔ AreMet fs v cur ss

abbrev pub SafetyIsATest : Type 0
SafetyIsATest = (fs : List Field) (v : Valuation) (cur : List Tree) (ss : List StepTree) → (is_kept_safe fs v cur ss ≡ true) ↔ IsKeptSafe fs v cur ss
