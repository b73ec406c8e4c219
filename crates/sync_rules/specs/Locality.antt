-- Which terms may name what.
use Rattle.std.specs.Prelude.{ℕ, Bool, true, false, ◌&&◌, Option, Some, None, List, slice_get, is_none, if◌then◌else◌}
use Rattle.sync_terms.specs.Trees.{Tree, Lit, Name, Add, Sub, Scale, Get, Has, Size, Sum, Nil, Put, Del, Bump, Formula, Le, Lt, Eq, Not, And, Or, Imp}
use Rattle.sync_machine.specs.declared.fields.Field.{Field}
use Rattle.sync_base.specs.declared.strategies.Strategy.{Strategy}
use Rattle.sync_base.specs.declared.strategies.Strategy.TheVariants.{Variable, Constant, NotTokenized, Option as OptionField, Map, Set, Multiset, Count, PersistentOption, PersistentMap, PersistentSet, PersistentCount, StorageMap}
use Rattle.sync_base.specs.declared.strategies.OpMode.{OpMode}
use Rattle.sync_base.specs.declared.strategies.OpMode.TheVariants as mode
use Rattle.sync_machine.specs.Machines.{PatternTree, Bind, Term, PlaceTree, ActTree}
use Rattle.sync_machine.specs.Machines as acts
use Rattle.sync_machine.specs.States.{strategy_at}

-- every symbol of a term passes
unfoldable pub names_only : (ℕ → Bool) → Tree → Bool
names_only p (Lit n) = true
names_only p (Name x) = p x
names_only p (Add a b) = names_only p a && names_only p b
names_only p (Sub a b) = names_only p a && names_only p b
names_only p (Scale n a) = names_only p a
names_only p (Get m k) = names_only p m && names_only p k
names_only p (Has m k) = names_only p m && names_only p k
names_only p (Size m) = names_only p m
names_only p (Sum m) = names_only p m
names_only p Nil = true
names_only p (Put m k v) = names_only p m && names_only p k && names_only p v
names_only p (Del m k) = names_only p m && names_only p k
names_only p (Bump m k n) = names_only p m && names_only p k && names_only p n

-- every symbol of a formula passes
unfoldable pub form_names_only : (ℕ → Bool) → Formula → Bool
form_names_only p (Le a b) = names_only p a && names_only p b
form_names_only p (Lt a b) = names_only p a && names_only p b
form_names_only p (Eq a b) = names_only p a && names_only p b
form_names_only p (Not f) = form_names_only p f
form_names_only p (And f g) = form_names_only p f && form_names_only p g
form_names_only p (Or f g) = form_names_only p f && form_names_only p g
form_names_only p (Imp f g) = form_names_only p f && form_names_only p g

abbrev pub is_variable : Strategy → Bool
is_variable Variable = true
is_variable Constant = false
is_variable NotTokenized = false
is_variable OptionField = false
is_variable Map = false
is_variable Set = false
is_variable Multiset = false
is_variable Count = false
is_variable PersistentOption = false
is_variable PersistentMap = false
is_variable PersistentSet = false
is_variable PersistentCount = false
is_variable StorageMap = false

-- whoever takes a step knows the value: constants, and variables, whose tokens are at hand
abbrev pub is_known : Strategy → Bool
is_known Variable = true
is_known Constant = true
is_known NotTokenized = false
is_known OptionField = false
is_known Map = false
is_known Set = false
is_known Multiset = false
is_known Count = false
is_known PersistentOption = false
is_known PersistentMap = false
is_known PersistentSet = false
is_known PersistentCount = false
is_known StorageMap = false

-- no field, but a parameter or bound name; or a field that is known
abbrev pub is_known_field : Option Field → Bool
is_known_field None = true
is_known_field (Some f) = is_known f.strategy

-- What a local term may name: of an init parameters alone, since it has no state before; of another operation
-- parameters, bound names, constants and variables.
abbrev pub is_local : List Field → OpMode → ℕ → Bool
is_local fs mode.Init x = is_none (slice_get fs x)
is_local fs mode.Transition x = is_known_field (slice_get fs x)
is_local fs mode.Property x = is_known_field (slice_get fs x)

abbrev pub key_names_only : (ℕ → Bool) → Option Tree → Bool
key_names_only p None = true
key_names_only p (Some t) = names_only p t

abbrev pub pattern_names_only : (ℕ → Bool) → Option PatternTree → Bool
pattern_names_only p None = true
pattern_names_only p (Some (Bind x)) = true
pattern_names_only p (Some (Term t)) = names_only p t

abbrev pub place_names_only : (ℕ → Bool) → PlaceTree → Bool
place_names_only p place = key_names_only p place.key && pattern_names_only p place.value

-- the first values that an init gives are local; what another operation does there is for other rules
abbrev pub starts_local : List Field → OpMode → Tree → Bool
starts_local fs mode.Init t = names_only (is_local fs mode.Init) t
starts_local fs mode.Transition t = true
starts_local fs mode.Property t = true

-- the terms of a statement that have to be local are: formulas of requires, keys and values of places, updates of
-- variables, and the first values of an init
unfoldable pub has_local_terms : List Field → OpMode → ActTree → Bool
has_local_terms fs m (acts.Init f t) = starts_local fs m t
has_local_terms fs m (acts.Require form) = form_names_only (is_local fs m) form
has_local_terms fs m (acts.Assert form) = true
has_local_terms fs m (acts.Update f t) = if is_variable (strategy_at fs f) then names_only (is_local fs m) t else true
has_local_terms fs m (acts.HaveVariable f) = true
has_local_terms fs m (acts.Add f p) = place_names_only (is_local fs m) p
has_local_terms fs m (acts.Remove f p) = place_names_only (is_local fs m) p
has_local_terms fs m (acts.Have f p) = place_names_only (is_local fs m) p
has_local_terms fs m (acts.Deposit f p) = place_names_only (is_local fs m) p
has_local_terms fs m (acts.Withdraw f p) = place_names_only (is_local fs m) p
has_local_terms fs m (acts.Guard f p) = place_names_only (is_local fs m) p
