-- What threads look at before and at an exchange is what its laws say: names, safety conditions and guarded cells.
use Rattle.std.specs.Prelude.{◌≡◌, ℕ, ◌≤◌, ℤ, Bool, true, List, [], ◌∷◌, ◌++◌, length, ◌⊎◌, Option, Some, None, Ok}
use Rattle.std.specs.List.{Contains}
use Rattle.sync_machine.specs.declared.fields.Field.{Field}
use Rattle.sync_machine.specs.Machines.{OperationTree, MachineTree}
use Rattle.sync_machine.specs.Naming.{bound_names, machine_fault, AreTextNames}
use Rattle.sync_machine.specs.States.{State, IsInit, IsReached, first_values}
use Rattle.sync_rules.specs.Faults.{strategy_fault}
use Rattle.sync_rules.specs.Plain.{is_plain}
use Rattle.sync_join.specs.declared.tokens.Token.{Token}
use Rattle.sync_join.specs.Shards.{Kept, AreSoundShards}
use Rattle.sync_join.specs.Join.{join_of}
use Rattle.sync_exchange.specs.declared.hands.Held.{Held}
use Rattle.sync_exchange.specs.Exchange.{Exchanged, tokens_in, exchange_in}
use Rattle.sync_exchange.specs.Projection.{AreNames, ArePermissions, AreBlank, IsProved}
use Rattle.sync_exchange_laws.specs.Conditions.{valuation_at, conditions_hold, safety_holds}
use Rattle.sync_exchange_laws.specs.Agreeing.{StandsForSame}
use Rattle.sync_exchange_laws.specs.Guards.{guarded}
use Rattle.sync_thread_meaning.specs.Exchanges.{operation_names, are_safe, guarded_key}

-- Before it binds a name an operation's names stand for the same to a thread and in the laws.
abbrev pub NamesAgree : Type 0
NamesAgree = (fs : List Field) (s : State) (o : OperationTree) (args : List ℤ) → length s ≤ length fs
    → length args ≡ length o.params
    → (x : ℕ) → StandsForSame (operation_names fs s o args) (valuation_at fs s o args []) x

-- the key of the first of these objects
abbrev pub first_key : List Token → Option ℤ
first_key [] = None
first_key (t ∷ ts) = Some t.key

-- To a thread, which gives each bound name the value that its field has there, the operation is safe, and guards this
-- first.
pub record IsSeen (fs : List Field) (s : State) (o : OperationTree) (args : List ℤ) (safe : Bool) (key : Option ℤ)
    : Type 0 where
  pub safety : are_safe fs (operation_names fs s o args) (first_values fs o.mode) o.steps ≡ safe
  pub guards : guarded_key fs (operation_names fs s o args) (first_values fs o.mode) o.steps ≡ key

-- Where the conditions of an operation hold with these bound values, a thread sees its safety and what it guards as the
-- laws do.
abbrev pub SightsAgree : Type 0
SightsAgree = (m : MachineTree) → AreTextNames m → machine_fault m ≡ None → strategy_fault m ≡ None
    → (o : OperationTree) → Contains m.ops o → (args bound : List ℤ) → length args ≡ length o.params
    → (s : State) → length s ≤ length m.fields → conditions_hold m.fields s o args bound ≡ true
    → IsSeen m.fields s o args (safety_holds m.fields s o args bound) (first_key (guarded m.fields s o args bound))

-- Under what the theorem of sharding asks, an exchange that succeeds is safe to the thread that does it, and it guards
-- to
-- it what it guards.
abbrev pub ExchangesAreSeen : Type 0
ExchangesAreSeen = (fits : ℤ → Bool) (m : MachineTree) → IsProved m → (o : OperationTree) → Contains m.ops o
    → (IsInit o → ⊥)
    → (args : List ℤ) → length args ≡ length o.params
    → (tokens given : List ℕ) (hand : List Held) → AreNames m.fields o tokens given hand
    → (others : List Token) (kept : Kept) → AreSoundShards m.fields (tokens_in hand ++ others) kept
    → (s : State) → join_of m.fields (tokens_in hand ++ others) kept ≡ Some s → IsReached m s
    → (whole : State) → (whole ≡ s) ⊎ (is_plain m.fields o ≡ true)
    → (x : Exchanged) → exchange_in fits m.fields o args tokens given whole hand kept ≡ Ok x
    → IsSeen m.fields s o args true (first_key (guarded m.fields s o args x.bound))

-- The exchange of an init that succeeds is safe to the thread that starts, which sees no state before it.
abbrev pub StartsAreSeen : Type 0
StartsAreSeen = (fits : ℤ → Bool) (m : MachineTree) → IsProved m → (o : OperationTree) → Contains m.ops o → IsInit o
    → (args : List ℤ) → length args ≡ length o.params
    → (tokens given : List ℕ) (hand : List Held) → AreNames m.fields o tokens given hand
    → ArePermissions (tokens_in hand) → (kept : Kept) → AreBlank m.fields kept.records → kept.stored ≡ []
    → (whole : State) (x : Exchanged) → exchange_in fits m.fields o args tokens given whole hand kept ≡ Ok x
    → IsSeen m.fields [] o args true (first_key (guarded m.fields [] o args []))
