-- How an answer that may stop for want of memory compares with what a definition gives.
use Rattle.std.specs.Prelude.{◌≡◌, Result, Ok, Err, Option, Some, None}
use Rattle.sync_base.specs.declared.stops.Refusal.{Refusal}
use Rattle.sync_base.specs.declared.stops.Stop.{Stop}
use Rattle.sync_base.specs.declared.stops.Stop.TheVariants.{Refused, Memory}

-- a stop is for want of memory, or the definition gives the same refusal
abbrev pub Stops : {B : Type 0} → Stop → Result B Refusal → Type 0
Stops Memory wanted = Unit {0}
Stops (Refused r) wanted = wanted ≡ Err r

-- unless memory was wanting, the answer, seen by view, is what the definition gives
abbrev pub Gives : {A B : Type 0} → (A → B) → Result A Stop → Result B Refusal → Type 0
Gives view (Ok x) wanted = wanted ≡ Ok (view x)
Gives view (Err s) wanted = Stops s wanted

-- unless memory was wanting, a check refuses exactly what the definition refuses
abbrev pub Passes : {A : Type 0} → Result A Stop → Option Refusal → Type 0
Passes (Ok x) fault = fault ≡ None
Passes (Err Memory) fault = Unit {0}
Passes (Err (Refused r)) fault = fault ≡ Some r

-- the first of two that gives something
abbrev pub first : {A : Type 0} → Option A → Option A → Option A
first (Some x) y = Some x
first None y = y

infixl 10 ◌>>=◌
abbrev pub ◌>>=◌ : {A B E : Type 0} → Result A E → (A → Result B E) → Result B E
(Ok x) >>= f = f x
(Err e) >>= f = Err e
