-- Operations whose exchange does not look at the whole state.
use Rattle.std.specs.Prelude.{ℕ, Bool, true, false, ◌||◌, nat_lt, is_some, List, not, length}
use Rattle.std.specs.List.{list_all}
use Rattle.sync_machine.specs.declared.fields.Field.{Field}
use Rattle.sync_base.specs.declared.strategies.Strategy.{Strategy}
use Rattle.sync_base.specs.declared.strategies.Strategy.TheVariants.{Variable, Constant, NotTokenized, Option as OptionField, Map, Set, Multiset, Count, PersistentOption, PersistentMap, PersistentSet, PersistentCount, StorageMap}
use Rattle.sync_machine.specs.Machines.{ActTree, StepTree, OperationTree}
use Rattle.sync_machine.specs.Machines as acts
use Rattle.sync_machine.specs.States.{strategy_at}
use Rattle.sync_rules.specs.Locality.{names_only, is_variable}
use Rattle.sync_rules.specs.Slots.{field_slot}

-- the values of these are kept beside the tokens
abbrev pub is_kept : Strategy → Bool
is_kept Constant = true
is_kept NotTokenized = true
is_kept PersistentOption = true
is_kept PersistentMap = true
is_kept PersistentSet = true
is_kept PersistentCount = true
is_kept StorageMap = true
is_kept Variable = false
is_kept OptionField = false
is_kept Map = false
is_kept Set = false
is_kept Multiset = false
is_kept Count = false

-- A parameter or bound name, a field that is kept, or a variable that has a slot among these statements.
abbrev pub is_at_hand : List Field → List StepTree → ℕ → Bool
is_at_hand fs ss x = not (nat_lt x (length fs)) || is_kept (strategy_at fs x) || is_some (field_slot fs ss x)

-- the update of a field without tokens names what is at hand alone
abbrev pub reads_at_hand : List Field → List StepTree → StepTree → Bool
reads_at_hand fs ss s = act s.act where
  act : ActTree → Bool
  act (acts.Update f t) = is_variable (strategy_at fs f) || names_only (is_at_hand fs ss) t
  act other = true

abbrev pub is_plain : List Field → OperationTree → Bool
is_plain fs o = list_all (reads_at_hand fs o.steps) o.steps
