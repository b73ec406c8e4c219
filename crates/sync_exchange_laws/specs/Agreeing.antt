-- An exchange under any valuation that agrees with its own: it succeeds exactly where what it asks is brought.
use Rattle.std.specs.Prelude.{◌≡◌, ℕ, ◌<◌, ℤ, List, [], ◌∷◌, ◌++◌, length, ◌⊎◌, true, Some, None, Ok}
use Rattle.std.specs.List.{AllByRecursion, Contains}
use Rattle.sync_terms.specs.Values.{Valuation}
use Rattle.sync_machine.specs.declared.fields.Field.{Field}
use Rattle.sync_machine.specs.Machines.{OperationTree, MachineTree}
use Rattle.sync_machine.specs.Named.{own_names}
use Rattle.sync_machine.specs.Naming.{is_in, machine_fault, AreTextNames}
use Rattle.sync_machine.specs.States.{State, IsInit, IsReached}
use Rattle.sync_rules.specs.Faults.{strategy_fault}
use Rattle.sync_rules.specs.Plain.{is_plain}
use Rattle.sync_rules.specs.declared.slots.Role.TheVariants.{Given}
use Rattle.sync_rules.specs.Slots.{SlotTree}
use Rattle.sync_join.specs.declared.tokens.Token.{Token}
use Rattle.sync_join.specs.Shards.{Kept, AreSoundShards}
use Rattle.sync_join.specs.Join.{join_of}
use Rattle.sync_exchange.specs.declared.hands.Held.{Held}
use Rattle.sync_exchange.specs.Exchange.{Exchanged, tokens_in, variable_slots, beginning, exchange_of}
use Rattle.sync_exchange.specs.Projection.{AreNames, ArePermissions, AreBlank, IsProved}
use Rattle.sync_exchange_laws.specs.Conditions.{valuation_at}
use Rattle.sync_exchange_laws.specs.Along.{all_left, AreVariablesThere, begun_under, ended}
use Rattle.sync_exchange_laws.specs.Succeeding.{AreBroughtUnder, values_bound_at}
use Rattle.sync_exchange_laws.specs.Starts.{start_valuation}
use Rattle.sync_exchange_laws.specs.Terms.{AllReadSame}

-- ---- valuations that agree

-- the valuation at the end of an exchange: the state, the arguments and the values that it binds on its way
abbrev pub end_valuation : List Field → State → OperationTree → List ℤ → List ℕ → List ℕ → State → List Held → Kept
    → Valuation
end_valuation fs s o args tokens given whole hand kept =
    valuation_at fs s o args (values_bound_at fs s o args tokens given whole hand kept)

-- A variable has the same value under both, unless its slot gives its token.
abbrev pub IsSlotSame : Valuation → Valuation → SlotTree → Type 0
IsSlotSame v w s = (s.role ≡ Given → ⊥) → v.number s.field ≡ w.number s.field

-- All that an operation reads has the same value under both: the variables of its slots, the terms of its statements.
pub record Agrees (fs : List Field) (o : OperationTree) (v w : Valuation) : Type 0 where
  pub variables : AllByRecursion (IsSlotSame v w) (variable_slots fs o)
  pub statements : AllReadSame fs v w o.steps

-- A symbol stands for the same under both.
abbrev pub StandsForSame : Valuation → Valuation → ℕ → Type 0
StandsForSame v w x = (v.number x ≡ w.number x) × (v.mapping x ≡ w.mapping x)

-- So valuations agree that stand for the same at each field and at each parameter and bound name of the operation.
abbrev pub ValuationsAgree : Type 0
ValuationsAgree = (m : MachineTree) → AreTextNames m → machine_fault m ≡ None → strategy_fault m ≡ None
    → (o : OperationTree) → Contains m.ops o → (v w : Valuation)
    → ((f : ℕ) → f < length m.fields → StandsForSame v w f)
    → ((x : ℕ) → is_in x (own_names o) ≡ true → StandsForSame v w x)
    → Agrees m.fields o v w

-- ---- what is asked and what is left

-- The holder brings what the exchange asks under this valuation: each token that a slot names, with the key and the
-- value of its terms, and that each require is true.
pub record BringsAll (fs : List Field) (v : Valuation) (o : OperationTree) (args : List ℤ) (tokens given : List ℕ)
    (hand : List Held) (kept : Kept) (whole : State) : Type 0 where
  pub variables : AreVariablesThere v (variable_slots fs o) (beginning fs o args tokens given whole hand kept)
  pub statements : AreBroughtUnder fs v o.steps (begun_under fs v o args tokens given whole hand kept)

-- what the exchange leaves, with the keys and the values that the terms have under this valuation
abbrev pub exchanged_under : List Field → Valuation → OperationTree → List ℤ → List ℕ → List ℕ → State → List Held
    → Kept → Exchanged
exchanged_under fs v o args tokens given whole hand kept =
    ended (all_left fs v o.steps (begun_under fs v o args tokens given whole hand kept))

-- The exchange succeeds exactly where all that it asks under this valuation is brought, and then it leaves what the
-- terms have there.
pub record GoesBy (fs : List Field) (v : Valuation) (o : OperationTree) (args : List ℤ) (tokens given : List ℕ)
    (hand : List Held) (kept : Kept) (whole : State) : Type 0 where
  pub succeeds : BringsAll fs v o args tokens given hand kept whole
      → exchange_of fs o args tokens given whole hand kept ≡ Ok
      (exchanged_under fs v o args tokens given whole hand kept)
  pub alone : (x : Exchanged) → exchange_of fs o args tokens given whole hand kept ≡ Ok x
      → BringsAll fs v o args tokens given hand kept whole
      × (x ≡ exchanged_under fs v o args tokens given whole hand kept)

-- ---- the laws

-- Under what the theorem of sharding asks, the exchange of a transition or property goes by each valuation that agrees
-- with its own at the end.
abbrev pub ExchangesGoByAny : Type 0
ExchangesGoByAny = (m : MachineTree) → IsProved m → (o : OperationTree) → Contains m.ops o → (IsInit o → ⊥)
    → (args : List ℤ) → length args ≡ length o.params
    → (tokens given : List ℕ) (hand : List Held) → AreNames m.fields o tokens given hand
    → (others : List Token) (kept : Kept) → AreSoundShards m.fields (tokens_in hand ++ others) kept
    → (s : State) → join_of m.fields (tokens_in hand ++ others) kept ≡ Some s → IsReached m s
    → (whole : State) → (whole ≡ s) ⊎ (is_plain m.fields o ≡ true)
    → (v : Valuation) → Agrees m.fields o v (end_valuation m.fields s o args tokens given whole hand kept)
    → GoesBy m.fields v o args tokens given hand kept whole

-- The exchange of an init goes by each valuation that agrees with that of its arguments.
abbrev pub StartsGoByAny : Type 0
StartsGoByAny = (m : MachineTree) → IsProved m → (o : OperationTree) → Contains m.ops o → IsInit o
    → (args : List ℤ) → length args ≡ length o.params
    → (tokens given : List ℕ) (hand : List Held) → AreNames m.fields o tokens given hand
    → ArePermissions (tokens_in hand) → (kept : Kept) → AreBlank m.fields kept.records → kept.stored ≡ []
    → (whole : State)
    → (v : Valuation) → Agrees m.fields o v (start_valuation m.fields o args)
    → GoesBy m.fields v o args tokens given hand kept whole
