-- That an exchange succeeds where the holder brings what it asks, and what its bound names are worth then.
use Rattle.std.specs.Prelude.{◌≡◌, ℕ, ℤ, true, List, [], ◌∷◌, ◌++◌, length, ◌⊎◌, Some, Ok, Err}
use Rattle.std.specs.List.{Contains}
use Rattle.sync_terms.specs.Values.{Valuation}
use Rattle.sync_machine.specs.declared.fields.Field.{Field}
use Rattle.sync_machine.specs.Machines.{ActTree, StepTree, OperationTree, MachineTree}
use Rattle.sync_machine.specs.Machines as acts
use Rattle.sync_machine.specs.States.{State, IsInit, IsReached}
use Rattle.sync_rules.specs.Plain.{is_plain}
use Rattle.sync_join.specs.declared.tokens.Token.{Token}
use Rattle.sync_join.specs.Shards.{Kept, AreSoundShards}
use Rattle.sync_join.specs.Join.{join_of}
use Rattle.sync_exchange.specs.declared.hands.Held.{Held}
use Rattle.sync_exchange.specs.Exchange.{Exchanging, Exchanged, Answer, tokens_in, variable_slots, beginning, does, exchange_of}
use Rattle.sync_exchange.specs.Projection.{AreNames, IsProved}
use Rattle.sync_exchange_laws.specs.Conditions.{valuation_at}
use Rattle.sync_exchange_laws.specs.Along.{IsThere, left_under, AreVariablesThere, begun_under, IsAlong}

-- What a statement asks of the holder is there, with the key and the value of its place; a require is true. Stored
-- objects are not the holder's to bring.
abbrev pub IsBroughtUnder : Valuation → ActTree → Exchanging → Type 0
IsBroughtUnder v (acts.Withdraw f p) x = Unit {0}
IsBroughtUnder v (acts.Guard f p) x = Unit {0}
IsBroughtUnder v a x = IsThere v a x

-- statement by statement
abbrev pub AreBroughtUnder : List Field → Valuation → List StepTree → Exchanging → Type 0
AreBroughtUnder fs v [] x = Unit {0}
AreBroughtUnder fs v (s ∷ ss) x = IsBroughtUnder v s.act x × AreBroughtUnder fs v ss (left_under fs v s.act x)

-- what is bound behind an answer: nothing more where it stops
abbrev pub values_behind : (Exchanging → List ℤ) → List ℤ → Answer → List ℤ
values_behind later so_far (Ok y) = later y
values_behind later so_far (Err stop) = so_far

-- The values that these statements bind, behind those bound before: of the tokens that slots name and of the objects
-- that are stored, up to the end or to where the exchange stops.
abbrev pub values_bound : List Field → List StepTree → Exchanging → List ℤ
values_bound fs [] x = x.bound
values_bound fs (s ∷ ss) x = values_behind (values_bound fs ss) x.bound (does (λ n. true) fs s x)

-- the values that an operation binds at a state
abbrev pub values_bound_at : List Field → State → OperationTree → List ℤ → List ℕ → List ℕ → State → List Held → Kept → List ℤ
values_bound_at fs s o args tokens given whole hand kept =
    values_bound fs o.steps (begun_under fs (valuation_at fs s o args []) o args tokens given whole hand kept)

-- The exchange succeeds and goes along the valuation of the values that it binds.
pub record SucceedsWith (m : MachineTree) (s : State) (o : OperationTree) (args : List ℤ) (tokens given : List ℕ)
    (hand : List Held) (kept : Kept) (whole : State) (bound : List ℤ) : Type 0 where
  pub left : Exchanged
  pub answer : exchange_of m.fields o args tokens given whole hand kept ≡ Ok left
  pub bound_as : left.bound ≡ bound
  pub along : IsAlong m.fields (valuation_at m.fields s o args bound) o args tokens given hand kept whole left

-- Under what the theorem of sharding asks: where the tokens of the variables are there, and each other token that the
-- statements ask for, with the keys and the values that their terms have at the values that are bound on the way, and
-- each require is true there, the exchange succeeds. It asks for no stored object: safety at the joined state says
-- that each is there, and with the value that is asked for.
abbrev pub ExchangesSucceed : Type 0
ExchangesSucceed = (m : MachineTree) → IsProved m → (o : OperationTree) → Contains m.ops o → (IsInit o → ⊥)
    → (args : List ℤ) → length args ≡ length o.params
    → (tokens given : List ℕ) (hand : List Held) → AreNames m.fields o tokens given hand
    → (others : List Token) (kept : Kept) → AreSoundShards m.fields (tokens_in hand ++ others) kept
    → (s : State) → join_of m.fields (tokens_in hand ++ others) kept ≡ Some s → IsReached m s
    → (whole : State) → (whole ≡ s) ⊎ (is_plain m.fields o ≡ true)
    → AreVariablesThere (valuation_at m.fields s o args []) (variable_slots m.fields o) (beginning m.fields o args tokens given whole hand kept)
    → AreBroughtUnder m.fields (valuation_at m.fields s o args (values_bound_at m.fields s o args tokens given whole hand kept)) o.steps
    (begun_under m.fields (valuation_at m.fields s o args []) o args tokens given whole hand kept)
    → SucceedsWith m s o args tokens given hand kept whole (values_bound_at m.fields s o args tokens given whole hand kept)
