-- That an exchange whose tokens are there, and whose requires are true, succeeds.
use Rattle.std.specs.Prelude.{◌≡◌, ℕ, ℤ, true, false, ◌&&◌, List, [], ◌∷◌, ◌++◌, length, slice_get, Some, Ok, Err, ◌⊎◌}
use Rattle.std.specs.List.{Contains}
use Rattle.sync_terms.specs.Trees.{Formula}
use Rattle.sync_terms.specs.Values.{Valuation, truth}
use Rattle.sync_machine.specs.declared.fields.Field.{Field}
use Rattle.sync_machine.specs.Machines.{PlaceTree, ActTree, StepTree, OperationTree, MachineTree}
use Rattle.sync_machine.specs.Machines as acts
use Rattle.sync_machine.specs.States.{State, IsInit, IsAt, AreGiven, AreMet, first_values, IsReached}
use Rattle.sync_rules.specs.Plain.{is_plain}
use Rattle.sync_rules.specs.Slots.{SlotTree, slots_of}
use Rattle.sync_join.specs.declared.tokens.Token.{Token}
use Rattle.sync_join.specs.Shards.{Kept, perm, AreSoundShards}
use Rattle.sync_join.specs.Join.{join_of}
use Rattle.sync_exchange.specs.declared.hands.Held.{Held}
use Rattle.sync_exchange.specs.declared.hands.XStop.{XStop}
use Rattle.sync_exchange.specs.declared.hands.XStop.TheVariants.{Missing, Differs, RequireFalse, StoreEmpty, Width, Memory}
use Rattle.sync_exchange.specs.Exchange.{Exchanging, Exchanged, tokens_in, named, is_at_place, key_at, is_asked, use_variables, variable_slots, beginning, does, exchange_of}
use Rattle.sync_exchange.specs.Projection.{names_token, AreNames, IsProved}

-- the token that the next slot names is there, of this field, with the key and the value that the place asks for
abbrev pub HasAsked : ℕ → PlaceTree → Exchanging → Type 0
HasAsked f p x = (t : Token) × (named x ≡ Ok t) × ((is_at_place f (key_at p x) t && is_asked p t.value x) ≡ true)

-- What a statement asks of the holder: that a require is true, and its token. Stored objects are not the holder's to
-- bring.
abbrev pub IsBrought : StepTree → Exchanging → Type 0
IsBrought s x = act s.act where
  act : ActTree → Type 0
  act (acts.Require form) = truth x.names form ≡ true
  act (acts.Remove f p) = HasAsked f p x
  act (acts.Have f p) = HasAsked f p x
  act (acts.Deposit f p) = HasAsked perm p x
  act (acts.Init f t) = Unit {0}
  act (acts.Update f t) = Unit {0}
  act (acts.HaveVariable f) = Unit {0}
  act (acts.Assert form) = Unit {0}
  act (acts.Add f p) = Unit {0}
  act (acts.Withdraw f p) = Unit {0}
  act (acts.Guard f p) = Unit {0}

-- so it is at each statement, as far as the exchange has come
abbrev pub AreBrought : List Field → List StepTree → Exchanging → Type 0
AreBrought fs [] x = Unit {0}
AreBrought fs (s ∷ ss) x = IsBrought s x × ((y : Exchanging) → does (λ n. true) fs s x ≡ Ok y → AreBrought fs ss y)

-- Under what the theorem of sharding asks: where the tokens of the variables are there, and at each statement what it
-- asks of the holder, the exchange succeeds. So no store lacks an object, and none has another value than is asked.
abbrev pub Progresses : Type 0
Progresses = (m : MachineTree) → IsProved m → (o : OperationTree) → Contains m.ops o → (IsInit o → ⊥)
    → (args : List ℤ) → length args ≡ length o.params
    → (tokens given : List ℕ) (hand : List Held) → AreNames m.fields o tokens given hand
    → (others : List Token) (kept : Kept) → AreSoundShards m.fields (tokens_in hand ++ others) kept
    → (s : State) → join_of m.fields (tokens_in hand ++ others) kept ≡ Some s → IsReached m s
    → (whole : State) → (whole ≡ s) ⊎ (is_plain m.fields o ≡ true)
    → (begun : Exchanging)
    → use_variables (variable_slots m.fields o) (beginning m.fields o args tokens given whole hand kept) ≡ Ok begun
    → AreBrought m.fields o.steps begun
    → (x : Exchanged) × (exchange_of m.fields o args tokens given whole hand kept ≡ Ok x)

-- the slot with this number, counted from 0, names a token of the holder
abbrev pub NamesToken : List Field → OperationTree → ℕ → Type 0
NamesToken fs o slot = (s : SlotTree) × (slice_get (slots_of fs o) slot ≡ Some s) × (names_token s.role ≡ true)

-- A require of this line is false at the state, with these arguments, where the conditions of all statements before
-- it are true.
pub record IsRefuted (m : MachineTree) (s : State) (o : OperationTree) (args : List ℤ) (line : ℕ) : Type 0 where
  pub front : List StepTree
  pub form : Formula
  pub back : List StepTree
  pub written : o.steps ≡ front ++ record { act = acts.Require form; line = line } ∷ back
  pub names : Valuation
  pub before : IsAt s names
  pub given : AreGiven o.params args names
  pub met : AreMet m.fields names (first_values m.fields o.mode) front
  pub is_false : truth names form ≡ false

-- What is for the holder to bring: a token that is missing or that differs, at a slot that names a token; a require
-- that is false. No other stop is: an object that a slot looks for in a store is there, and has the value that is
-- asked for.
abbrev pub IsHolders : MachineTree → State → OperationTree → List ℤ → XStop → Type 0
IsHolders m s o args (Missing slot) = NamesToken m.fields o slot
IsHolders m s o args (Differs slot) = NamesToken m.fields o slot
IsHolders m s o args (RequireFalse line) = IsRefuted m s o args line
IsHolders m s o args (StoreEmpty slot) = ⊥
IsHolders m s o args Width = ⊥
IsHolders m s o args Memory = ⊥

-- Under what the theorem of sharding asks an exchange stops with none but these.
abbrev pub StopsAreHolders : Type 0
StopsAreHolders = (m : MachineTree) → IsProved m → (o : OperationTree) → Contains m.ops o → (IsInit o → ⊥)
    → (args : List ℤ) → length args ≡ length o.params
    → (tokens given : List ℕ) (hand : List Held) → AreNames m.fields o tokens given hand
    → (others : List Token) (kept : Kept) → AreSoundShards m.fields (tokens_in hand ++ others) kept
    → (s : State) → join_of m.fields (tokens_in hand ++ others) kept ≡ Some s → IsReached m s
    → (whole : State) → (whole ≡ s) ⊎ (is_plain m.fields o ≡ true)
    → (stop : XStop) → exchange_of m.fields o args tokens given whole hand kept ≡ Err stop → IsHolders m s o args stop
