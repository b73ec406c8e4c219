-- Which statements each sharding strategy has.
use Rattle.std.specs.Prelude.{◌≡◌, Bool, true, false, Option, Some, None, List}
use Rattle.std.specs.List.{AllByRecursion}
use Rattle.sync_machine.specs.declared.fields.Field.{Field}
use Rattle.sync_base.specs.declared.strategies.Strategy.{Strategy}
use Rattle.sync_base.specs.declared.strategies.Strategy.TheVariants.{Variable, Constant, NotTokenized, Option as OptionField, Map, Set, Multiset, Count, PersistentOption, PersistentMap, PersistentSet, PersistentCount, StorageMap}
use Rattle.sync_machine.specs.Machines.{ActTree, StepTree}
use Rattle.sync_machine.specs.Machines as acts
use Rattle.sync_machine.specs.States.{strategy_of}
use Rattle.sync_rules.specs.declared.kinds.OpKind.{OpKind}
use Rattle.sync_rules.specs.declared.kinds.OpKind.TheVariants as kinds

-- tokens that come and go
abbrev pub comes_and_goes : OpKind → Bool
comes_and_goes kinds.Init = true
comes_and_goes kinds.Add = true
comes_and_goes kinds.Remove = true
comes_and_goes kinds.Have = true
comes_and_goes kinds.Update = false
comes_and_goes kinds.HaveVariable = false
comes_and_goes kinds.Deposit = false
comes_and_goes kinds.Withdraw = false
comes_and_goes kinds.Guard = false

-- tokens that are never taken back
abbrev pub only_grows : OpKind → Bool
only_grows kinds.Init = true
only_grows kinds.Add = true
only_grows kinds.Have = true
only_grows kinds.Remove = false
only_grows kinds.Update = false
only_grows kinds.HaveVariable = false
only_grows kinds.Deposit = false
only_grows kinds.Withdraw = false
only_grows kinds.Guard = false

abbrev pub variable_has : OpKind → Bool
variable_has kinds.Init = true
variable_has kinds.Update = true
variable_has kinds.HaveVariable = true
variable_has kinds.Add = false
variable_has kinds.Remove = false
variable_has kinds.Have = false
variable_has kinds.Deposit = false
variable_has kinds.Withdraw = false
variable_has kinds.Guard = false

abbrev pub constant_has : OpKind → Bool
constant_has kinds.Init = true
constant_has kinds.Update = false
constant_has kinds.HaveVariable = false
constant_has kinds.Add = false
constant_has kinds.Remove = false
constant_has kinds.Have = false
constant_has kinds.Deposit = false
constant_has kinds.Withdraw = false
constant_has kinds.Guard = false

abbrev pub not_tokenized_has : OpKind → Bool
not_tokenized_has kinds.Init = true
not_tokenized_has kinds.Update = true
not_tokenized_has kinds.HaveVariable = false
not_tokenized_has kinds.Add = false
not_tokenized_has kinds.Remove = false
not_tokenized_has kinds.Have = false
not_tokenized_has kinds.Deposit = false
not_tokenized_has kinds.Withdraw = false
not_tokenized_has kinds.Guard = false

abbrev pub storage_has : OpKind → Bool
storage_has kinds.Init = true
storage_has kinds.Deposit = true
storage_has kinds.Withdraw = true
storage_has kinds.Guard = true
storage_has kinds.Update = false
storage_has kinds.HaveVariable = false
storage_has kinds.Add = false
storage_has kinds.Remove = false
storage_has kinds.Have = false

-- the statements of a strategy
abbrev pub has_statement : Strategy → OpKind → Bool
has_statement Variable kind = variable_has kind
has_statement Constant kind = constant_has kind
has_statement NotTokenized kind = not_tokenized_has kind
has_statement OptionField kind = comes_and_goes kind
has_statement Map kind = comes_and_goes kind
has_statement Set kind = comes_and_goes kind
has_statement Multiset kind = comes_and_goes kind
has_statement Count kind = comes_and_goes kind
has_statement PersistentOption kind = only_grows kind
has_statement PersistentMap kind = only_grows kind
has_statement PersistentSet kind = only_grows kind
has_statement PersistentCount kind = only_grows kind
has_statement StorageMap kind = storage_has kind

-- the kind of a statement, if it operates on a field
unfoldable pub kind_of : ActTree → Option OpKind
kind_of (acts.Init f t) = Some kinds.Init
kind_of (acts.Update f t) = Some kinds.Update
kind_of (acts.HaveVariable f) = Some kinds.HaveVariable
kind_of (acts.Add f p) = Some kinds.Add
kind_of (acts.Remove f p) = Some kinds.Remove
kind_of (acts.Have f p) = Some kinds.Have
kind_of (acts.Deposit f p) = Some kinds.Deposit
kind_of (acts.Withdraw f p) = Some kinds.Withdraw
kind_of (acts.Guard f p) = Some kinds.Guard
kind_of (acts.Require form) = None
kind_of (acts.Assert form) = None

abbrev pub HasKind : Strategy → Option OpKind → Type 0
HasKind s None = Unit {0}
HasKind s (Some kind) = has_statement s kind ≡ true

-- every statement is one that the strategy of its field has
abbrev pub AreAllowed : List Field → List StepTree → Type 0
AreAllowed fs ss = AllByRecursion (λ (s : StepTree). HasKind (strategy_of fs s.act) (kind_of s.act)) ss
