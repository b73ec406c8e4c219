-- That a local exchange is a declared step of the whole, whatever the other holders have.
use Rattle.std.specs.Prelude.{◌≡◌, ℕ, ℤ, pos, List, [], ◌∷◌, ◌++◌, length, map, Bool, true, false, ◌⊎◌, Some, None, Ok, count_by, nat_eq}
use Rattle.std.specs.List.{AllByRecursion, Contains, IsDistinct}
use Rattle.std.specs.Ordering.{int_eq}
use Rattle.sync_machine.specs.declared.fields.Field.{Field}
use Rattle.sync_machine.specs.Machines.{OperationTree, MachineTree}
use Rattle.sync_machine.specs.Naming.{bound_names, machine_fault, AreTextNames}
use Rattle.sync_machine.specs.States.{Value, Number, Mapped, State, Sort, Numbers, Maps, sort_of, first_values, AreGiven, IsKeptSafe, IsInit, Steps, Starts, IsReached, HoldsAlways}
use Rattle.sync_terms.specs.Maps as maps
use Rattle.sync_rules.specs.Faults.{strategy_fault}
use Rattle.sync_join.specs.declared.tokens.Token.{Token}
use Rattle.sync_join.specs.Shards.{Kept, perm, AreSoundShards}
use Rattle.sync_join.specs.Join.{join_of}
use Rattle.sync_rules.specs.declared.slots.Role.{Role}
use Rattle.sync_rules.specs.declared.slots.Role.TheVariants.{Change, Taken, Read, Given, In, Out, Seen}
use Rattle.sync_rules.specs.Slots.{SlotTree, slots_of}
use Rattle.sync_exchange.specs.declared.hands.Held.{Held}
use Rattle.sync_exchange.specs.Exchange.{Exchanged, exchange_in, tokens_in}
use Rattle.sync_rules.specs.Plain.{is_plain}

-- ---- names

-- slots that name a token of the hand, and slots that give a new one
abbrev pub names_token : Role → Bool
names_token Change = true
names_token Taken = true
names_token Read = true
names_token In = true
names_token Given = false
names_token Out = false
names_token Seen = false

abbrev pub names_new : Role → Bool
names_new Given = true
names_new Out = true
names_new Change = false
names_new Taken = false
names_new Read = false
names_new In = false
names_new Seen = false

abbrev pub is_among : ℕ → List Held → Type 0
is_among name hs = Contains (map (λ (h : Held). h.name) hs) name

-- As many names as the slots want; the names of the hand differ, and so do the new ones, of which none is held.
pub record AreNames (fs : List Field) (o : OperationTree) (tokens given : List ℕ) (hand : List Held) : Type 0 where
  pub enough_tokens : length tokens ≡ count_by (λ (s : SlotTree). names_token s.role) (slots_of fs o)
  pub enough_given : length given ≡ count_by (λ (s : SlotTree). names_new s.role) (slots_of fs o)
  pub held_apart : IsDistinct nat_eq (map (λ (h : Held). h.name) hand)
  pub given_apart : IsDistinct nat_eq given
  pub given_new : (name : ℕ) → Contains given name → is_among name hand → ⊥

-- a machine whose parameters and bound names are symbols of names, which keeps the rules of names and of strategies, and always holds
pub record IsProved (m : MachineTree) : Type 0 where
  pub symbols : AreTextNames m
  pub named : machine_fault m ≡ None
  pub strategies : strategy_fault m ≡ None
  pub holds : HoldsAlways m

-- ---- steps

-- The hand and the tokens of the others are, with what is kept, the shards of a state that a step leads to from s. Under the
-- valuation of the step the names that the operation binds stand for these values, and its asserts and all other safety
-- conditions are true.
pub record LeadsOn (m : MachineTree) (s : State) (o : OperationTree) (args bound : List ℤ) (bag : List Token) (kept : Kept) : Type 0 where
  pub sound : AreSoundShards m.fields bag kept
  pub state : State
  pub joined : join_of m.fields bag kept ≡ Some state
  pub step : Steps m s o args state
  pub answered : AreGiven (bound_names o.steps) bound step.names
  pub safe : IsKeptSafe m.fields step.names (first_values m.fields o.mode) o.steps

-- An exchange that leaves this hand and these records and answers these values is a declared step of the whole, whatever the
-- others hold, where the machine is proved, the names are as many as are wanted and apart, and hand, others and records make a
-- reached state.
abbrev pub IsStep : MachineTree → OperationTree → List ℤ → List ℕ → List ℕ → State → List Held → Kept → List ℤ → List Held → Kept → Type 0
IsStep m o args tokens given whole hand kept bound left rest = IsProved m → Contains m.ops o → (IsInit o → ⊥) → length args ≡ length o.params
    → AreNames m.fields o tokens given hand
    → (others : List Token) → AreSoundShards m.fields (tokens_in hand ++ others) kept
    → (s : State) → join_of m.fields (tokens_in hand ++ others) kept ≡ Some s → IsReached m s → (whole ≡ s) ⊎ (is_plain m.fields o ≡ true)
    → LeadsOn m s o args bound (tokens_in left ++ others) rest

-- Whatever the others hold: where the hand with their tokens makes a reached state, an exchange of a transition or
-- property that does not fail is a declared step of the whole, whatever the bound of numbers.
abbrev pub ProjectsOf : (ℤ → Bool) → MachineTree → Type 0
ProjectsOf fits m = (o : OperationTree) → Contains m.ops o → (IsInit o → ⊥)
    → (args : List ℤ) → length args ≡ length o.params
    → (tokens given : List ℕ) (hand : List Held) → AreNames m.fields o tokens given hand
    → (others : List Token) (kept : Kept) → AreSoundShards m.fields (tokens_in hand ++ others) kept
    → (s : State) → join_of m.fields (tokens_in hand ++ others) kept ≡ Some s → IsReached m s
    → (whole : State) → (whole ≡ s) ⊎ (is_plain m.fields o ≡ true)
    → (x : Exchanged) → exchange_in fits m.fields o args tokens given whole hand kept ≡ Ok x
    → LeadsOn m s o args x.bound (tokens_in x.hand ++ others) x.kept

-- so of every proved machine
abbrev pub Projects : (ℤ → Bool) → Type 0
Projects fits = (m : MachineTree) → IsProved m → ProjectsOf fits m

-- ---- starts

-- permissions alone, of each cell at most one
pub record ArePermissions (ts : List Token) : Type 0 where
  pub permissions : AllByRecursion (λ (t : Token). t.field ≡ perm) ts
  pub apart : IsDistinct int_eq (map (λ (t : Token). t.key) ts)

-- nothing is recorded yet
abbrev pub IsBlank : Sort → Value → Type 0
IsBlank Numbers v = v ≡ Number (pos 0)
IsBlank Maps v = v ≡ Mapped maps.nil

abbrev pub AreBlank : List Field → List Value → Type 0
AreBlank [] [] = Unit {0}
AreBlank (f ∷ fs) (v ∷ vs) = IsBlank (sort_of f.strategy) v × AreBlank fs vs
AreBlank [] (v ∷ vs) = ⊥
AreBlank (f ∷ fs) [] = ⊥

-- The tokens are, with what is kept, the shards of a state that an init gives, and so of its valuation.
pub record Begins (m : MachineTree) (o : OperationTree) (args bound : List ℤ) (bag : List Token) (kept : Kept) : Type 0 where
  pub sound : AreSoundShards m.fields bag kept
  pub state : State
  pub joined : join_of m.fields bag kept ≡ Some state
  pub start : Starts m o args state
  pub answered : AreGiven (bound_names o.steps) bound start.names
  pub safe : IsKeptSafe m.fields start.names (first_values m.fields o.mode) o.steps

-- The exchange of an init that leaves this hand and these records is a declared start, where the machine is proved, the
-- names are as many as are wanted and apart, and the hand had permissions alone, and nothing was recorded or stored.
abbrev pub IsStart : MachineTree → OperationTree → List ℤ → List ℕ → List ℕ → List Held → Kept → List ℤ → List Held → Kept → Type 0
IsStart m o args tokens given hand kept bound left rest = IsProved m → Contains m.ops o → IsInit o → length args ≡ length o.params
    → AreNames m.fields o tokens given hand
    → ArePermissions (tokens_in hand) → AreBlank m.fields kept.records → kept.stored ≡ []
    → Begins m o args bound (tokens_in left) rest

-- The exchange of an init by a holder of permissions alone, where nothing is recorded or stored, is a declared start.
abbrev pub InitialisesOf : (ℤ → Bool) → MachineTree → Type 0
InitialisesOf fits m = (o : OperationTree) → Contains m.ops o → IsInit o
    → (args : List ℤ) → length args ≡ length o.params
    → (tokens given : List ℕ) (hand : List Held) → AreNames m.fields o tokens given hand
    → ArePermissions (tokens_in hand) → (kept : Kept) → AreBlank m.fields kept.records → kept.stored ≡ []
    → (whole : State) (x : Exchanged) → exchange_in fits m.fields o args tokens given whole hand kept ≡ Ok x
    → Begins m o args x.bound (tokens_in x.hand) x.kept

-- so of every proved machine
abbrev pub Initialises : (ℤ → Bool) → Type 0
Initialises fits = (m : MachineTree) → IsProved m → InitialisesOf fits m

-- ---- plain operations

-- the exchange of a plain operation does not depend on the whole state
abbrev pub ReadsNoState : (ℤ → Bool) → Type 0
ReadsNoState fits = (m : MachineTree) → AreTextNames m → machine_fault m ≡ None → strategy_fault m ≡ None
    → (o : OperationTree) → Contains m.ops o → is_plain m.fields o ≡ true
    → (args : List ℤ) (tokens given : List ℕ) (hand : List Held) (kept : Kept) (one other : State)
    → exchange_in fits m.fields o args tokens given one hand kept ≡ exchange_in fits m.fields o args tokens given other hand kept
