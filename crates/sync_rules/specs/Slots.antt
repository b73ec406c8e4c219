-- What an operation takes of whoever takes the step, and what it gives: its slots, in order.
--
-- First the variables that it uses, in the order of declaration: a variable has one token, which serves all
-- statements. Then each other statement on tokens or stored objects, as they stand.
use Rattle.std.specs.Prelude.{ℕ, List, [], ◌∷◌, ◌++◌, length, filter_map, slice_get, Bool, true, false, ◌&&◌, ◌||◌, nat_eq, if◌then◌else◌, Option, Some, None}
use Rattle.std.specs.List.{range_with_len}
use Rattle.sync_base.specs.Outcome.{first}
use Rattle.sync_terms.specs.Trees.{Tree}
use Rattle.sync_machine.specs.declared.fields.Field.{Field}
use Rattle.sync_base.specs.declared.strategies.Strategy.{Strategy}
use Rattle.sync_base.specs.declared.strategies.Strategy.TheVariants.{Variable, Constant, NotTokenized, Option as OptionField, Map, Set, Multiset, Count, PersistentOption, PersistentMap, PersistentSet, PersistentCount, StorageMap}
use Rattle.sync_machine.specs.Machines.{PatternTree, Bind, Term, PlaceTree, ActTree, StepTree, OperationTree, MachineTree}
use Rattle.sync_machine.specs.Machines as acts
use Rattle.sync_machine.specs.States.{strategy_at}
use Rattle.sync_rules.specs.Obligations.{names, form_names}
use Rattle.sync_rules.specs.Locality.{is_variable}
use Rattle.sync_rules.specs.declared.slots.Role.{Role}
use Rattle.sync_rules.specs.declared.slots.Role.TheVariants.{Change, Taken, Read, Given, In, Out, Seen}

-- what happens to a token or an object of a field, with the key and the value that its statement writes
pub record SlotTree : Type 0 where
  pub role : Role
  pub field : ℕ
  pub key : Option Tree
  pub value : Option PatternTree
  pub line : ℕ

abbrev pub place_slot : Role → ℕ → PlaceTree → ℕ → SlotTree
place_slot role f p line = record { role = role; field = f; key = p.key; value = p.value; line = line }

abbrev pub value_slot : Role → ℕ → Tree → ℕ → SlotTree
value_slot role f t line = record { role = role; field = f; key = None; value = Some (Term t); line = line }

abbrev pub read_slot : ℕ → ℕ → SlotTree
read_slot f line = record { role = Read; field = f; key = None; value = None; line = line }

-- something where the test is true, else nothing
abbrev pub only_if : {A : Type 0} → Bool → A → Option A
only_if true x = Some x
only_if false x = None

-- ---- variables

abbrev pub key_names : ℕ → Option Tree → Bool
key_names x None = false
key_names x (Some t) = names x t

abbrev pub pattern_names : ℕ → Option PatternTree → Bool
pattern_names x None = false
pattern_names x (Some (Bind y)) = false
pattern_names x (Some (Term t)) = names x t

abbrev pub place_names : ℕ → PlaceTree → Bool
place_names x p = key_names x p.key || pattern_names x p.value

-- A statement needs a variable's value of whoever takes the step: a require, a place or the update of a variable
-- names it, or a `have` of it stands there. First values of an init, asserts and updates of other fields do not.
unfoldable pub needs : List Field → ℕ → ActTree → Bool
needs fs x (acts.Require form) = form_names x form
needs fs x (acts.Update f t) = is_variable (strategy_at fs f) && names x t
needs fs x (acts.HaveVariable f) = nat_eq x f
needs fs x (acts.Add f p) = place_names x p
needs fs x (acts.Remove f p) = place_names x p
needs fs x (acts.Have f p) = place_names x p
needs fs x (acts.Deposit f p) = place_names x p
needs fs x (acts.Withdraw f p) = place_names x p
needs fs x (acts.Guard f p) = place_names x p
needs fs x (acts.Init f t) = false
needs fs x (acts.Assert form) = false

-- the first value that a statement gives a field
unfoldable pub started_at : ℕ → ActTree → Option Tree
started_at x (acts.Init f t) = only_if (nat_eq x f) t
started_at x (acts.Require form) = None
started_at x (acts.Assert form) = None
started_at x (acts.Update f t) = None
started_at x (acts.HaveVariable f) = None
started_at x (acts.Add f p) = None
started_at x (acts.Remove f p) = None
started_at x (acts.Have f p) = None
started_at x (acts.Deposit f p) = None
started_at x (acts.Withdraw f p) = None
started_at x (acts.Guard f p) = None

-- the new value that a statement gives a field
unfoldable pub updated_to : ℕ → ActTree → Option Tree
updated_to x (acts.Update f t) = only_if (nat_eq x f) t
updated_to x (acts.Init f t) = None
updated_to x (acts.Require form) = None
updated_to x (acts.Assert form) = None
updated_to x (acts.HaveVariable f) = None
updated_to x (acts.Add f p) = None
updated_to x (acts.Remove f p) = None
updated_to x (acts.Have f p) = None
updated_to x (acts.Deposit f p) = None
updated_to x (acts.Withdraw f p) = None
updated_to x (acts.Guard f p) = None

abbrev pub valued : Role → ℕ → ℕ → Option Tree → Option SlotTree
valued role x line (Some t) = Some (value_slot role x t line)
valued role x line None = None

-- what a statement makes of a variable's token
abbrev pub given_by : ℕ → StepTree → Option SlotTree
given_by x s = valued Given x s.line (started_at x s.act)

abbrev pub changed_by : ℕ → StepTree → Option SlotTree
changed_by x s = valued Change x s.line (updated_to x s.act)

abbrev pub read_by : List Field → ℕ → StepTree → Option SlotTree
read_by fs x s = only_if (needs fs x s.act) (read_slot x s.line)

-- what the first of the elements gives that gives something
abbrev pub earliest : {A B : Type 0} → (A → Option B) → List A → Option B
earliest g [] = None
earliest g (x ∷ xs) = first (g x) (earliest g xs)

-- A variable's token is given by its first value, which inits alone have; else it changes where it is updated, which
-- is once at most; else it is read where a statement needs it.
abbrev pub variable_slot : List Field → List StepTree → ℕ → Option SlotTree
variable_slot fs ss x = first (earliest (given_by x) ss) (first (earliest (changed_by x) ss) (earliest (read_by fs x) ss))

-- the slot of a field in the list of the variables' slots; fields that are no variables have none there
abbrev pub field_slot : List Field → List StepTree → ℕ → Option SlotTree
field_slot fs ss x = if is_variable (strategy_at fs x) then variable_slot fs ss x else None

-- ---- other fields

-- the tokens of these are amounts, and an init's first value gives one
abbrev pub has_amounts : Strategy → Bool
has_amounts Count = true
has_amounts PersistentCount = true
has_amounts Variable = false
has_amounts Constant = false
has_amounts NotTokenized = false
has_amounts OptionField = false
has_amounts Map = false
has_amounts Set = false
has_amounts Multiset = false
has_amounts PersistentOption = false
has_amounts PersistentMap = false
has_amounts PersistentSet = false
has_amounts StorageMap = false

-- the slot of a statement at a line; a removal's token is gone afterwards, one that is read stays
unfoldable pub act_slot : List Field → ActTree → ℕ → Option SlotTree
act_slot fs (acts.Init f t) line = only_if (has_amounts (strategy_at fs f)) (value_slot Given f t line)
act_slot fs (acts.Add f p) line = Some (place_slot Given f p line)
act_slot fs (acts.Remove f p) line = Some (place_slot Taken f p line)
act_slot fs (acts.Have f p) line = Some (place_slot Read f p line)
act_slot fs (acts.Deposit f p) line = Some (place_slot In f p line)
act_slot fs (acts.Withdraw f p) line = Some (place_slot Out f p line)
act_slot fs (acts.Guard f p) line = Some (place_slot Seen f p line)
act_slot fs (acts.Require form) line = None
act_slot fs (acts.Assert form) line = None
act_slot fs (acts.Update f t) line = None
act_slot fs (acts.HaveVariable f) line = None

abbrev pub statement_slot : List Field → StepTree → Option SlotTree
statement_slot fs s = act_slot fs s.act s.line

-- ---- operations

-- the slots of an operation, in order
abbrev pub slots_of : List Field → OperationTree → List SlotTree
slots_of fs o = filter_map (field_slot fs o.steps) (range_with_len 0 (length fs)) ++ filter_map (statement_slot fs) o.steps

abbrev pub slots_if : List Field → Option OperationTree → List SlotTree
slots_if fs (Some o) = slots_of fs o
slots_if fs None = []

-- the slots of a machine's operation with this number, none where there is no such operation
abbrev pub signature_of : MachineTree → ℕ → List SlotTree
signature_of m op = slots_if m.fields (slice_get m.ops op)
