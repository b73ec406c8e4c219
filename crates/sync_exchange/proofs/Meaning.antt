-- What an exchange means for the whole: a step or a start.
use Rattle.std.specs.Prelude.{◌≡◌, ℕ, ℤ, List, Some, Result, Ok, Err, IfOk, slice_get}
use Rattle.sync_machine.specs.Machines.{OperationTree, MachineTree}
use Rattle.sync_machine.specs.States.{State}
use Rattle.sync_join.specs.Shards.{Kept}
use Rattle.sync_entries.specs.Narrow.{is_narrow}
use Rattle.sync_exchange.specs.declared.hands.Held.{Held}
use Rattle.sync_exchange.specs.declared.hands.Bound.{Bound}
use Rattle.sync_exchange.specs.declared.hands.XStop.{XStop}
use Rattle.sync_exchange.specs.Exchange.{exchange_in}
use Rattle.sync_exchange.specs.Outcomes.{Exchanges}
use Rattle.sync_exchange.specs.Projection.{IsStep, IsStart}
use Rattle.sync_exchange.proofs.Projecting.{projects, initialises}

-- an answer is what the definition gives of the operation with this number
abbrev pub IsExact : MachineTree → ℕ → List ℤ → List ℕ → List ℕ → State → List Held → Kept → List Held → Kept → Result Bound XStop → Type 0
IsExact m op args tokens given whole hand kept left rest r =
    (o : OperationTree) → slice_get m.ops op ≡ Some o → Exchanges r left rest (exchange_in is_narrow m.fields o args tokens given whole hand kept)

pub is-step : (m : MachineTree) (op : ℕ) (args : List ℤ) (tokens given : List ℕ) (whole : State) (hand : List Held) (kept : Kept) (left : List Held) (rest : Kept) (r : Result Bound XStop)
    → IsExact m op args tokens given whole hand kept left rest r
    → IfOk r (λ (b : Bound). (o : OperationTree) → slice_get m.ops op ≡ Some o → IsStep m o args tokens given whole hand kept b.values left rest)
is-step m op args tokens given whole hand kept left rest (Ok b) exact = λ o at proved has other long names others sound s joined reached either.
    projects is_narrow m proved o has other args long tokens given hand names others kept sound s joined reached whole either
    (record { hand = left; kept = rest; bound = b.values }) (exact o at)
is-step m op args tokens given whole hand kept left rest (Err stop) exact = tt

pub is-start : (m : MachineTree) (op : ℕ) (args : List ℤ) (tokens given : List ℕ) (whole : State) (hand : List Held) (kept : Kept) (left : List Held) (rest : Kept) (r : Result Bound XStop)
    → IsExact m op args tokens given whole hand kept left rest r
    → IfOk r (λ (b : Bound). (o : OperationTree) → slice_get m.ops op ≡ Some o → IsStart m o args tokens given hand kept b.values left rest)
is-start m op args tokens given whole hand kept left rest (Ok b) exact = λ o at proved has init long names permissions blank empty.
    initialises is_narrow m proved o has init args long tokens given hand names permissions kept blank empty whole
    (record { hand = left; kept = rest; bound = b.values }) (exact o at)
is-start m op args tokens given whole hand kept left rest (Err stop) exact = tt
