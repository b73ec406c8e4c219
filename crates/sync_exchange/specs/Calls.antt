-- What a call of an exchange is given, and what it says.
use Rattle.std.specs.Prelude.{◌≡◌, ℕ, ℤ, List, [], slice_get, Option, Some, unwrap_or, option_map, Result}
use Rattle.std.specs.Borrow.{Bor}
use Rattle.sync_entries.specs.Narrow.{is_narrow}
use Rattle.sync_machine.specs.declared.machine.Machine.{Machine}
use Rattle.sync_machine.specs.Machines.{OperationTree}
use Rattle.sync_machine.specs.States as states
use Rattle.sync_machine.specs.Views.{machine_tree}
use Rattle.sync_join.specs.declared.tokens.Rest.{Rest}
use Rattle.sync_join.specs.declared.values.State.{State}
use Rattle.sync_join.specs.Views.{state_tree, kept_of}
use Rattle.sync_exchange.specs.declared.hands.Bound.{Bound}
use Rattle.sync_exchange.specs.declared.hands.Hand.{Hand}
use Rattle.sync_exchange.specs.declared.hands.Names.{Names}
use Rattle.sync_exchange.specs.declared.hands.XStop.{XStop}
use Rattle.sync_exchange.specs.Exchange.{Exchanged, exchange_in}
use Rattle.sync_exchange.specs.declared.works.Finished.{Finished}
use Rattle.sync_exchange.specs.Outcomes.{Gives, Exchanges}
use Rattle.sync_exchange.specs.Projection.{IsStep, IsStart}
use Rattle.sync_exchange.specs.Works.{finished}

-- the operation with this number
abbrev pub IsOperation : Machine → ℕ → OperationTree → Type 0
IsOperation m op o = slice_get (machine_tree m).ops op ≡ Some o

-- the state that is given as the whole, empty where none is
abbrev pub whole_of : Option (Bor State) → states.State
whole_of whole = unwrap_or (option_map {T = Bor State} {U = states.State} (λ s. state_tree s.now) whole) []

abbrev pub exchange_at : Machine → OperationTree → List ℤ → Names → states.State → Hand → Rest → Result Exchanged XStop
exchange_at m o args names whole hand rest = exchange_in is_narrow m.fields o args names.tokens names.given whole hand.held (kept_of rest)

-- what the call leaves and answers is a declared step, or a declared start, of the whole
abbrev pub IsStepAt : Machine → OperationTree → List ℤ → Names → states.State → Hand → Rest → Bound → Hand → Rest → Type 0
IsStepAt m o args names whole hand rest bound left kept =
    IsStep (machine_tree m) o args names.tokens names.given whole hand.held (kept_of rest) bound.values left.held (kept_of kept)

abbrev pub IsStartAt : Machine → OperationTree → List ℤ → Names → Hand → Rest → Bound → Hand → Rest → Type 0
IsStartAt m o args names hand rest bound left kept =
    IsStart (machine_tree m) o args names.tokens names.given hand.held (kept_of rest) bound.values left.held (kept_of kept)

-- what the call of the operation with this number says, whichever it is
abbrev pub ExchangesAt : Result Bound XStop → Machine → ℕ → List ℤ → Names → states.State → Hand → Rest → Hand → Rest → Type 0
ExchangesAt r m op args names whole hand rest left kept = (o : OperationTree) → IsOperation m op o
    → Exchanges r left.held (kept_of kept) (exchange_at m o args names whole hand rest)

abbrev pub IsStepOf : Machine → ℕ → List ℤ → Names → states.State → Hand → Rest → Bound → Hand → Rest → Type 0
IsStepOf m op args names whole hand rest bound left kept = (o : OperationTree) → IsOperation m op o
    → IsStepAt m o args names whole hand rest bound left kept

abbrev pub IsStartOf : Machine → ℕ → List ℤ → Names → Hand → Rest → Bound → Hand → Rest → Type 0
IsStartOf m op args names hand rest bound left kept = (o : OperationTree) → IsOperation m op o
    → IsStartAt m o args names hand rest bound left kept

-- what is done in place of hand and rest is what the definition gives
abbrev pub RunsAt : Result Finished XStop → Machine → ℕ → List ℤ → Names → states.State → Hand → Rest → Type 0
RunsAt r m op args names whole hand rest = (o : OperationTree) → IsOperation m op o
    → Gives (finished rest.records) r (exchange_at m o args names whole hand rest)
