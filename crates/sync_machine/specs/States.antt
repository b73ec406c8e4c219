-- States of a machine, its steps, the states that it reaches, and what holds always.
use Rattle.std.specs.Prelude.{◌≡◌, ℕ, suc, ℤ, pos, List, [], ◌∷◌, length, map, slice_index_or, slice_set, Option, Some, None, Contains}
use Rattle.std.specs.List.{AllByRecursion, range_with_len}
use Rattle.sync_terms.specs.Trees.{Tree, Lit, Name, Nil, Formula}
use Rattle.sync_terms.specs.Maps as maps
use Rattle.sync_terms.specs.Values.{Valuation, num, mapped, Holds}
use Rattle.sync_machine.specs.declared.fields.Field.{Field}
use Rattle.sync_base.specs.declared.strategies.Strategy.{Strategy}
use Rattle.sync_base.specs.declared.strategies.Strategy.TheVariants.{Variable, Constant, NotTokenized, Option as OptionField, Map, Set, Multiset, Count, PersistentOption, PersistentMap, PersistentSet, PersistentCount, StorageMap}
use Rattle.sync_base.specs.declared.strategies.OpMode.{OpMode}
use Rattle.sync_base.specs.declared.strategies.OpMode.TheVariants as mode
use Rattle.sync_machine.specs.Machines.{ActTree, StepTree, OperationTree, InvariantTree, MachineTree}
use Rattle.sync_machine.specs.Statements.{safety, condition, after, field_of}

-- a number, or a finite map
pub data Value : Type 0 where
  Number : (number : ℤ) → Value
  Mapped : (entries : maps.Map) → Value

-- the sort of a strategy's values
pub data Sort : Type 0 where
  Numbers : Sort
  Maps : Sort

unfoldable pub sort_of : Strategy → Sort
sort_of Variable = Numbers
sort_of Constant = Numbers
sort_of NotTokenized = Numbers
sort_of Count = Numbers
sort_of PersistentCount = Numbers
sort_of OptionField = Maps
sort_of Map = Maps
sort_of Set = Maps
sort_of Multiset = Maps
sort_of PersistentOption = Maps
sort_of PersistentMap = Maps
sort_of PersistentSet = Maps
sort_of StorageMap = Maps

-- a state: a value for each field, in the order of declaration
abbrev pub State : Type 0
State = List Value

-- the value of a term of a sort
abbrev pub value_in : Valuation → Sort → Tree → Value
value_in v Numbers t = Number (num v t)
value_in v Maps t = Mapped (mapped v t)

-- a symbol stands for a value
abbrev pub StandsFor : Valuation → ℕ → Value → Type 0
StandsFor v x (Number n) = v.number x ≡ n
StandsFor v x (Mapped m) = v.mapping x ≡ m

-- the fields' symbols, from the number n on, stand for the values of a state
abbrev pub IsAtFrom : ℕ → State → Valuation → Type 0
IsAtFrom n [] v = Unit {0}
IsAtFrom n (x ∷ xs) v = StandsFor v n x × IsAtFrom (suc n) xs v

abbrev pub IsAt : State → Valuation → Type 0
IsAt s v = IsAtFrom 0 s v

-- the parameters stand for the arguments
abbrev pub AreGiven : List ℕ → List ℤ → Valuation → Type 0
AreGiven [] [] v = Unit {0}
AreGiven (p ∷ ps) (n ∷ ns) v = (v.number p ≡ n) × AreGiven ps ns v
AreGiven [] (n ∷ ns) v = ⊥
AreGiven (p ∷ ps) [] v = ⊥

abbrev pub strategies : List Field → List Strategy
strategies fs = map (λ f. f.strategy) fs

abbrev pub strategy_at : List Field → ℕ → Strategy
strategy_at fs f = slice_index_or (strategies fs) f NotTokenized

-- a field's value so far, as a term over the state before
abbrev pub current_of : List Tree → ActTree → Tree
current_of cur act = at (field_of act) where
  at : Option ℕ → Tree
  at (Some f) = slice_index_or cur f Nil
  at None = Nil

abbrev pub strategy_of : List Field → ActTree → Strategy
strategy_of fs act = of (field_of act) where
  of : Option ℕ → Strategy
  of (Some f) = strategy_at fs f
  of None = NotTokenized

-- the fields' values behind a statement
abbrev pub advanced : List Field → List Tree → ActTree → List Tree
advanced fs cur act = behind (field_of act) where
  behind : Option ℕ → List Tree
  behind (Some f) = slice_set cur f (after (strategy_of fs act) (current_of cur act) act)
  behind None = cur

-- the fields' values behind all statements of a list
unfoldable pub last_values : List Field → List Tree → List StepTree → List Tree
last_values fs cur [] = cur
last_values fs cur (s ∷ ss) = last_values fs (advanced fs cur s.act) ss

-- the fields' values before the first statement: the state before, and for an init nothing yet
abbrev pub blank : Sort → Tree
blank Numbers = Lit (pos 0)
blank Maps = Nil

abbrev pub first_values : List Field → OpMode → List Tree
first_values fs mode.Init = map (λ f. blank (sort_of f.strategy)) fs
first_values fs mode.Transition = map Name (range_with_len 0 (length fs))
first_values fs mode.Property = map Name (range_with_len 0 (length fs))

abbrev pub IsMet : Valuation → Option Formula → Type 0
IsMet v None = Unit {0}
IsMet v (Some f) = Holds v f

-- every statement's conditions are true, and the names that it binds stand for their values
unfoldable pub AreMet : List Field → Valuation → List Tree → List StepTree → Type 0
AreMet fs v cur [] = Unit {0}
AreMet fs v cur (s ∷ ss) = IsMet v (condition (strategy_of fs s.act) (current_of cur s.act) s.act)
    × AreMet fs v (advanced fs cur s.act) ss

-- wherever the conditions of all earlier statements are true, a statement's safety condition is
unfoldable pub IsKeptSafe : List Field → Valuation → List Tree → List StepTree → Type 0
IsKeptSafe fs v cur [] = Unit {0}
IsKeptSafe fs v cur (s ∷ ss) = IsMet v (safety (strategy_of fs s.act) (current_of cur s.act) s.act)
    × (IsMet v (condition (strategy_of fs s.act) (current_of cur s.act) s.act) → IsKeptSafe fs v (advanced fs cur s.act) ss)

abbrev pub values_in : Valuation → List Field → List Tree → State
values_in v [] ts = []
values_in v (f ∷ fs) [] = []
values_in v (f ∷ fs) (t ∷ ts) = value_in v (sort_of f.strategy) t ∷ values_in v fs ts

abbrev pub IsInit : OperationTree → Type 0
IsInit o = o.mode ≡ mode.Init

-- From the state s, the transition or property o with these arguments leads to the state t.
pub record Steps (m : MachineTree) (s : State) (o : OperationTree) (args : List ℤ) (t : State) : Type 0 where
  pub names : Valuation
  pub declared : Contains m.ops o
  pub no_init : IsInit o → ⊥
  pub before : IsAt s names
  pub given : AreGiven o.params args names
  pub met : AreMet m.fields names (first_values m.fields o.mode) o.steps
  pub leaves : t ≡ values_in names m.fields (last_values m.fields (first_values m.fields o.mode) o.steps)

-- The init o with these arguments gives the state t.
pub record Starts (m : MachineTree) (o : OperationTree) (args : List ℤ) (t : State) : Type 0 where
  pub names : Valuation
  pub declared : Contains m.ops o
  pub is_init : IsInit o
  pub given : AreGiven o.params args names
  pub met : AreMet m.fields names (first_values m.fields o.mode) o.steps
  pub leaves : t ≡ values_in names m.fields (last_values m.fields (first_values m.fields o.mode) o.steps)

-- a start, or what follows a reached state by a step
pub data IsReached (m : MachineTree) : State → Type 0 where
  starts : {t : State} (o : OperationTree) (args : List ℤ) → Starts m o args t → IsReached m t
  steps : {s t : State} (o : OperationTree) (args : List ℤ) → IsReached m s → Steps m s o args t → IsReached m t

-- Every invariant is true at s, for all numbers as its parameters.
abbrev pub MeetsInvariants : MachineTree → State → Type 0
MeetsInvariants m s = AllByRecursion (λ (i : InvariantTree). (v : Valuation) → IsAt s v → Holds v i.form) m.invariants

-- Whatever transition or property is taken at s, its safety conditions hold.
abbrev pub IsSafe : MachineTree → State → Type 0
IsSafe m s = (o : OperationTree) → Contains m.ops o → (IsInit o → ⊥) → (args : List ℤ) (v : Valuation) → IsAt s v → AreGiven o.params args v
    → IsKeptSafe m.fields v (first_values m.fields o.mode) o.steps

-- Whatever init is taken, its safety conditions hold.
abbrev pub StartsSafe : MachineTree → Type 0
StartsSafe m = (o : OperationTree) → Contains m.ops o → IsInit o → (args : List ℤ) (v : Valuation) → AreGiven o.params args v
    → IsKeptSafe m.fields v (first_values m.fields o.mode) o.steps

-- Every reached state meets every invariant, and no safety condition or assert ever fails.
pub record HoldsAlways (m : MachineTree) : Type 0 where
  pub starts_safe : StartsSafe m
  pub meets : (s : State) → IsReached m s → MeetsInvariants m s
  pub safe : (s : State) → IsReached m s → IsSafe m s
