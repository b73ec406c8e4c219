-- How an answer that may stop for want of memory compares with what a definition gives.
use Rattle.std.specs.Prelude.{◌≡◌, List, Bool, true, false, Result, Ok, Err}
use Rattle.sync_exchange_values.specs.declared.stops.EvalStop.{EvalStop}
use Rattle.sync_exchange_values.specs.declared.stops.EvalStop.TheVariants as eval
use Rattle.sync_join.specs.Shards.{Kept}
use Rattle.sync_exchange.specs.declared.hands.Bound.{Bound}
use Rattle.sync_exchange.specs.declared.hands.Held.{Held}
use Rattle.sync_exchange.specs.declared.hands.XStop.{XStop}
use Rattle.sync_exchange.specs.declared.hands.XStop.TheVariants.{Missing, Differs, RequireFalse, StoreEmpty, Width, Memory}
use Rattle.sync_exchange.specs.Exchange.{Exchanged}

abbrev pub stop_of : EvalStop → XStop
stop_of eval.Width = Width
stop_of eval.Memory = Memory

-- a stop is for want of memory, or the definition stops in the same way
abbrev pub Stops : {B : Type 0} → XStop → Result B XStop → Type 0
Stops Memory wanted = Unit {0}
Stops (Missing slot) wanted = wanted ≡ Err (Missing slot)
Stops (Differs slot) wanted = wanted ≡ Err (Differs slot)
Stops (RequireFalse line) wanted = wanted ≡ Err (RequireFalse line)
Stops (StoreEmpty slot) wanted = wanted ≡ Err (StoreEmpty slot)
Stops Width wanted = wanted ≡ Err Width

-- unless memory was wanting, the answer, seen by view, is what the definition gives
abbrev pub Gives : {A B : Type 0} → (A → B) → Result A XStop → Result B XStop → Type 0
Gives view (Ok x) wanted = wanted ≡ Ok (view x)
Gives view (Err stop) wanted = Stops stop wanted

-- unless memory was wanting, what an answer leaves is what the definition gives
abbrev pub Leaves : {A B : Type 0} → Result A XStop → B → Result B XStop → Type 0
Leaves (Ok x) left wanted = wanted ≡ Ok left
Leaves (Err stop) left wanted = Stops stop wanted

-- a stop that says that something is too wide
abbrev pub Stopped : XStop → Bool → Type 0
Stopped Width fits = fits ≡ false
Stopped Memory fits = Unit {0}
Stopped (Missing slot) fits = ⊥
Stopped (Differs slot) fits = ⊥
Stopped (RequireFalse line) fits = ⊥
Stopped (StoreEmpty slot) fits = ⊥

-- unless memory was wanting, an answer is the value where it fits, and else it says that it is too wide
abbrev pub Measures : {A B : Type 0} → (A → B) → Result A XStop → Bool → B → Type 0
Measures view (Ok x) fits value = (fits ≡ true) × (view x ≡ value)
Measures view (Err stop) fits value = Stopped stop fits

-- unless memory was wanting, an exchange with this answer leaves hand and rest as the definition does
abbrev pub Exchanges : Result Bound XStop → List Held → Kept → Result Exchanged XStop → Type 0
Exchanges (Ok bound) hand kept wanted = wanted ≡ Ok (record { hand = hand; kept = kept; bound = bound.values })
Exchanges (Err stop) hand kept wanted = Stops stop wanted
