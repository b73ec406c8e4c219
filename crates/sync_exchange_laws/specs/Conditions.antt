-- An operation at a state, with arguments and with values of the names that it binds: whether its conditions hold,
-- and what it leads to. All of it is computed.
use Rattle.std.specs.Prelude.{◌≡◌, ℕ, ℤ, pos, Bool, true, List, ◌++◌, length, slice_index_or, nat_lt, if◌then◌else◌, ◌⊎◌, Some, None, Ok}
use Rattle.std.specs.List.{Contains}
use Rattle.sync_terms.specs.Maps as maps
use Rattle.sync_terms.specs.Values.{Valuation}
use Rattle.sync_machine.specs.declared.fields.Field.{Field}
use Rattle.sync_machine.specs.Machines.{OperationTree, MachineTree}
use Rattle.sync_machine.specs.Naming.{machine_fault, AreTextNames}
use Rattle.sync_machine.specs.Named.{own_names}
use Rattle.sync_machine.specs.States.{Number, State, first_values, last_values, values_in, IsAt, AreGiven, IsInit, IsReached, Steps}
use Rattle.sync_machine.specs.Tests.{are_met, is_kept_safe}
use Rattle.sync_rules.specs.Faults.{strategy_fault}
use Rattle.sync_rules.specs.Plain.{is_plain}
use Rattle.sync_join.specs.declared.tokens.Token.{Token}
use Rattle.sync_join.specs.Shards.{Kept, AreSoundShards}
use Rattle.sync_join.specs.Join.{number_of, entries_of, join_of}
use Rattle.sync_exchange.specs.declared.hands.Held.{Held}
use Rattle.sync_exchange.specs.Exchange.{Exchanged, argument, tokens_in, exchange_in}
use Rattle.sync_exchange.specs.Projection.{AreNames, IsProved}

-- what symbols stand for: fields for the values of the state, parameters for the arguments, bound names for the
-- values bound
abbrev pub valuation_at : List Field → State → OperationTree → List ℤ → List ℤ → Valuation
valuation_at fs s o args bound = record {
  number = λ x.
      if nat_lt x (length fs) then number_of (slice_index_or s x (Number (pos 0))) else argument (own_names o) (args ++ bound) x;
  mapping = λ x. if nat_lt x (length fs) then entries_of (slice_index_or s x (Number (pos 0))) else maps.nil;
}

-- all conditions of its statements are true
abbrev pub conditions_hold : List Field → State → OperationTree → List ℤ → List ℤ → Bool
conditions_hold fs s o args bound = are_met fs (valuation_at fs s o args bound) (first_values fs o.mode) o.steps

-- all its safety conditions are, as far as the conditions before them
abbrev pub safety_holds : List Field → State → OperationTree → List ℤ → List ℤ → Bool
safety_holds fs s o args bound = is_kept_safe fs (valuation_at fs s o args bound) (first_values fs o.mode) o.steps

-- the state that it leads to
abbrev pub state_after : List Field → State → OperationTree → List ℤ → List ℤ → State
state_after fs s o args bound =
    values_in (valuation_at fs s o args bound) fs (last_values fs (first_values fs o.mode) o.steps)

-- Where the conditions hold, the operation is a step.
abbrev pub ConditionsMakeSteps : Type 0
ConditionsMakeSteps = (m : MachineTree) → AreTextNames m → machine_fault m ≡ None → strategy_fault m ≡ None
    → (o : OperationTree) → Contains m.ops o → (IsInit o → ⊥) → (args bound : List ℤ) → length args ≡ length o.params
    → (s : State) → length s ≡ length m.fields → conditions_hold m.fields s o args bound ≡ true
    → Steps m s o args (state_after m.fields s o args bound)

-- An operation with these arguments and bound values, at this state: its conditions and its safety conditions hold, as
-- computed, and these tokens and what is kept are the shards of the state that is computed.
pub record MeetsConditions (m : MachineTree) (s : State) (o : OperationTree) (args bound : List ℤ) (bag : List Token)
    (kept : Kept) : Type 0 where
  pub before : IsAt s (valuation_at m.fields s o args bound)
  pub named_as : AreGiven (own_names o) (args ++ bound) (valuation_at m.fields s o args bound)
  pub conditions : conditions_hold m.fields s o args bound ≡ true
  pub safe : safety_holds m.fields s o args bound ≡ true
  pub joined : join_of m.fields bag kept ≡ Some (state_after m.fields s o args bound)

-- Under what the theorem of sharding asks, an exchange that succeeds does so with the values that it answers.
abbrev pub ExchangesMeetConditions : Type 0
ExchangesMeetConditions = (fits : ℤ → Bool) (m : MachineTree) → IsProved m → (o : OperationTree) → Contains m.ops o
    → (IsInit o → ⊥)
    → (args : List ℤ) → length args ≡ length o.params
    → (tokens given : List ℕ) (hand : List Held) → AreNames m.fields o tokens given hand
    → (others : List Token) (kept : Kept) → AreSoundShards m.fields (tokens_in hand ++ others) kept
    → (s : State) → join_of m.fields (tokens_in hand ++ others) kept ≡ Some s → IsReached m s
    → (whole : State) → (whole ≡ s) ⊎ (is_plain m.fields o ≡ true)
    → (x : Exchanged) → exchange_in fits m.fields o args tokens given whole hand kept ≡ Ok x
    → MeetsConditions m s o args x.bound (tokens_in x.hand ++ others) x.kept
