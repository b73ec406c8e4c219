-- An exchange along one valuation: what each statement finds and leaves, with the values that its terms have there.
use Rattle.std.specs.Prelude.{◌≡◌, ℕ, ℤ, pos, List, [], ◌∷◌, ◌++◌, length, ◌⊎◌, Bool, true, Some, Ok}
use Rattle.std.specs.List.{AllByRecursion, Contains}
use Rattle.sync_terms.specs.Values.{Valuation, num, Holds}
use Rattle.sync_machine.specs.declared.fields.Field.{Field}
use Rattle.sync_machine.specs.Machines.{PlaceTree, ActTree, StepTree, OperationTree, MachineTree}
use Rattle.sync_machine.specs.Machines as acts
use Rattle.sync_machine.specs.Named.{own_names}
use Rattle.sync_machine.specs.Naming.{bound_names}
use Rattle.sync_machine.specs.Statements.{key_of, value_of, binds}
use Rattle.sync_machine.specs.States.{State, sort_of, strategy_at, value_in, AreGiven, IsAt, IsInit, IsReached}
use Rattle.sync_rules.specs.Plain.{is_plain}
use Rattle.sync_join.specs.declared.tokens.Token.{Token}
use Rattle.sync_join.specs.Shards.{Kept, AreSoundShards}
use Rattle.sync_join.specs.Join.{join_of}
use Rattle.sync_exchange.specs.declared.hands.Held.{Held}
use Rattle.sync_exchange.specs.Exchange.{Exchanging, Exchanged, tokens_in, named, stored_at, withdrawn, permission, token_of, next_name, after_reading, after_taking, after_seeing, after_giving, knowing, binding, storing, raising, started, updated, variable_slots, beginning, exchange_in, exchange_of}
use Rattle.sync_exchange.specs.Projection.{AreNames, IsProved}
use Rattle.sync_rules.specs.declared.slots.Role.{Role}
use Rattle.sync_rules.specs.declared.slots.Role.TheVariants.{Given}
use Rattle.sync_rules.specs.Slots.{SlotTree}
use Rattle.sync_exchange_laws.specs.Conditions.{valuation_at}

-- the key and the value of a place
abbrev pub key_under : Valuation → PlaceTree → ℤ
key_under v p = num v (key_of p)

abbrev pub value_under : Valuation → PlaceTree → ℤ
value_under v p = num v (value_of p)

-- What a statement asks is there: its token or its stored object, with the key and the value of its place; a require
-- is true.
abbrev pub IsThere : Valuation → ActTree → Exchanging → Type 0
IsThere v (acts.Require form) x = Holds v form
IsThere v (acts.Remove f p) x = named x ≡ Ok (token_of f (key_under v p) (value_under v p))
IsThere v (acts.Have f p) x = named x ≡ Ok (token_of f (key_under v p) (value_under v p))
IsThere v (acts.Deposit f p) x = named x ≡ Ok (permission (key_under v p) (value_under v p))
IsThere v (acts.Withdraw f p) x = stored_at f (key_under v p) x.kept.stored ≡ Some (value_under v p)
IsThere v (acts.Guard f p) x = stored_at f (key_under v p) x.kept.stored ≡ Some (value_under v p)
IsThere v (acts.Init f t) x = Unit {0}
IsThere v (acts.Assert form) x = Unit {0}
IsThere v (acts.Update f t) x = Unit {0}
IsThere v (acts.HaveVariable f) x = Unit {0}
IsThere v (acts.Add f p) x = Unit {0}

-- what it leaves then
abbrev pub left_under : List Field → Valuation → ActTree → Exchanging → Exchanging
left_under fs v (acts.Require form) x = x
left_under fs v (acts.Assert form) x = x
left_under fs v (acts.HaveVariable f) x = x
left_under fs v (acts.Init f t) x = started (strategy_at fs f) f (value_in v (sort_of (strategy_at fs f)) t) x
left_under fs v (acts.Update f t) x = updated (strategy_at fs f) f (value_in v (sort_of (strategy_at fs f)) t) x
left_under fs v (acts.Remove f p) x = binding (binds p) (value_under v p) (after_taking x)
left_under fs v (acts.Have f p) x = binding (binds p) (value_under v p) (after_reading x)
left_under fs v (acts.Add f p) x =
    raising fs f (key_under v p) (value_under v p) (after_giving (token_of f (key_under v p) (value_under v p)) x)
left_under fs v (acts.Deposit f p) x =
    storing (x.kept.stored ++ token_of f (key_under v p) (value_under v p) ∷ []) (after_taking x)
left_under fs v (acts.Withdraw f p) x =
    binding (binds p) (value_under v p)
    (storing (withdrawn f (key_under v p) x.kept.stored) (after_giving (permission (key_under v p) (value_under v p)) x))
left_under fs v (acts.Guard f p) x = binding (binds p) (value_under v p) (after_seeing x)

-- statement by statement
abbrev pub all_left : List Field → Valuation → List StepTree → Exchanging → Exchanging
all_left fs v [] x = x
all_left fs v (s ∷ ss) x = all_left fs v ss (left_under fs v s.act x)

abbrev pub AreThere : List Field → Valuation → List StepTree → Exchanging → Type 0
AreThere fs v [] x = Unit {0}
AreThere fs v (s ∷ ss) x = IsThere v s.act x × AreThere fs v ss (left_under fs v s.act x)

-- ---- the slots of variables

-- What the slot of a variable asks is there: its token, with the value that the variable has. A new one is given, and
-- asks nothing.
abbrev pub IsVariableThere : Valuation → SlotTree → Exchanging → Type 0
IsVariableThere v s x = asks s.role where
  asks : Role → Type 0
  asks Given = Unit {0}
  asks role = named x ≡ Ok (token_of s.field (pos 0) (v.number s.field))

-- what it leaves then
abbrev pub variable_left : Valuation → SlotTree → Exchanging → Exchanging
variable_left v s x = left s.role where
  left : Role → Exchanging
  left Given = knowing s.field (next_name x.given) (pos 0) (after_giving (token_of s.field (pos 0) (pos 0)) x)
  left role = knowing s.field (next_name x.tokens) (v.number s.field) (after_reading x)

-- slot by slot
abbrev pub variables_left : Valuation → List SlotTree → Exchanging → Exchanging
variables_left v [] x = x
variables_left v (s ∷ ss) x = variables_left v ss (variable_left v s x)

abbrev pub AreVariablesThere : Valuation → List SlotTree → Exchanging → Type 0
AreVariablesThere v [] x = Unit {0}
AreVariablesThere v (s ∷ ss) x = IsVariableThere v s x × AreVariablesThere v ss (variable_left v s x)

-- an exchange behind its variables' slots
abbrev pub begun_under : List Field → Valuation → OperationTree → List ℤ → List ℕ → List ℕ → State → List Held → Kept
    → Exchanging
begun_under fs v o args tokens given whole hand kept =
    variables_left v (variable_slots fs o) (beginning fs o args tokens given whole hand kept)

-- ---- the whole

-- what is left behind the last statement
abbrev pub ended : Exchanging → Exchanged
ended x = record { hand = x.hand ++ x.entered; kept = x.kept; bound = x.bound }

-- The exchange along this valuation leaves this: each slot finds what it asks, the token of a variable, another token
-- or a stored object, with the key and the value of its terms; each require is true; and what is left has the keys and
-- the values of the terms.
pub record IsAlong (fs : List Field) (v : Valuation) (o : OperationTree) (args : List ℤ) (tokens given : List ℕ)
    (hand : List Held)
    (kept : Kept) (whole : State) (x : Exchanged) : Type 0 where
  pub variables : AreVariablesThere v (variable_slots fs o) (beginning fs o args tokens given whole hand kept)
  pub found : AreThere fs v o.steps (begun_under fs v o args tokens given whole hand kept)
  pub leaves : x ≡ ended (all_left fs v o.steps (begun_under fs v o args tokens given whole hand kept))

-- an assert is true
abbrev pub AssertHolds : Valuation → ActTree → Type 0
AssertHolds v (acts.Assert form) = Holds v form
AssertHolds v (acts.Require form) = Unit {0}
AssertHolds v (acts.Init f t) = Unit {0}
AssertHolds v (acts.Update f t) = Unit {0}
AssertHolds v (acts.HaveVariable f) = Unit {0}
AssertHolds v (acts.Add f p) = Unit {0}
AssertHolds v (acts.Remove f p) = Unit {0}
AssertHolds v (acts.Have f p) = Unit {0}
AssertHolds v (acts.Deposit f p) = Unit {0}
AssertHolds v (acts.Withdraw f p) = Unit {0}
AssertHolds v (acts.Guard f p) = Unit {0}

-- An exchange that succeeds goes along one valuation: fields have the values of the state, parameters the arguments,
-- and bound names the values that it answers. All asserts hold there.
pub record GoesAlongOne (m : MachineTree) (s : State) (o : OperationTree) (args : List ℤ) (tokens given : List ℕ)
    (hand : List Held)
    (kept : Kept) (whole : State) (x : Exchanged) : Type 0 where
  pub before : IsAt s (valuation_at m.fields s o args x.bound)
  pub named_as : AreGiven (own_names o) (args ++ x.bound) (valuation_at m.fields s o args x.bound)
  pub asserts : AllByRecursion (λ (step : StepTree). AssertHolds (valuation_at m.fields s o args x.bound) step.act) o.steps
  pub along : IsAlong m.fields (valuation_at m.fields s o args x.bound) o args tokens given hand kept whole x

abbrev pub ExchangesGoAlong : Type 0
ExchangesGoAlong = (fits : ℤ → Bool) (m : MachineTree) → IsProved m → (o : OperationTree) → Contains m.ops o
    → (IsInit o → ⊥)
    → (args : List ℤ) → length args ≡ length o.params
    → (tokens given : List ℕ) (hand : List Held) → AreNames m.fields o tokens given hand
    → (others : List Token) (kept : Kept) → AreSoundShards m.fields (tokens_in hand ++ others) kept
    → (s : State) → join_of m.fields (tokens_in hand ++ others) kept ≡ Some s → IsReached m s
    → (whole : State) → (whole ≡ s) ⊎ (is_plain m.fields o ≡ true)
    → (x : Exchanged) → exchange_in fits m.fields o args tokens given whole hand kept ≡ Ok x
    → GoesAlongOne m s o args tokens given hand kept whole x

-- And it succeeds, without a bound of numbers, where it can go along the valuation of a list of values for its bound
-- names: then it answers these.
abbrev pub ExchangesFollow : Type 0
ExchangesFollow = (m : MachineTree) → IsProved m → (o : OperationTree) → Contains m.ops o → (IsInit o → ⊥)
    → (args : List ℤ) → length args ≡ length o.params
    → (tokens given : List ℕ) (hand : List Held) → AreNames m.fields o tokens given hand
    → (others : List Token) (kept : Kept) → AreSoundShards m.fields (tokens_in hand ++ others) kept
    → (s : State) → join_of m.fields (tokens_in hand ++ others) kept ≡ Some s → IsReached m s
    → (whole : State) → (whole ≡ s) ⊎ (is_plain m.fields o ≡ true)
    → (bound : List ℤ) → length bound ≡ length (bound_names o.steps)
    → (x : Exchanged) → IsAlong m.fields (valuation_at m.fields s o args bound) o args tokens given hand kept whole x
    → (exchange_of m.fields o args tokens given whole hand kept ≡ Ok x) × (x.bound ≡ bound)
