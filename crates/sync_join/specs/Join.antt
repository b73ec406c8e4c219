-- The state of which a bag of tokens and what is kept beside them are the shards: one line for each strategy.
--
-- Permissions are of no field, so they are passed over.
use Rattle.std.specs.Prelude.{ℕ, ℤ, pos, ◌+ℤ◌, List, [], ◌∷◌, length, map, slice_index_or, Bool, true, false, not, ◌&&◌, nat_eq, int_le, is_some, if◌then◌else◌, Option, Some, None, option_map}
use Rattle.std.specs.List.{filter, list_any, list_all, range_with_len}
use Rattle.std.specs.Ordering.{int_eq}
use Rattle.std.specs.FinMap as finmap
use Rattle.sync_terms.specs.Maps as maps
use Rattle.sync_machine.specs.declared.fields.Field.{Field}
use Rattle.sync_base.specs.declared.strategies.Strategy.{Strategy}
use Rattle.sync_base.specs.declared.strategies.Strategy.TheVariants.{Variable, Constant, NotTokenized, Option as OptionField, Map, Set, Multiset, Count, PersistentOption, PersistentMap, PersistentSet, PersistentCount, StorageMap}
use Rattle.sync_machine.specs.States.{Value, Number, Mapped, State, strategy_at}
use Rattle.sync_join.specs.declared.tokens.Token.{Token}
use Rattle.sync_join.specs.Shards.{Kept}

-- the tokens of a field, in the bag's order
abbrev pub tokens_of : ℕ → List Token → List Token
tokens_of f ts = filter (λ (t : Token). nat_eq t.field f) ts

-- ---- variables: the value of the one token

abbrev pub only_value : List Token → Option ℤ
only_value [] = None
only_value (t ∷ []) = Some t.value
only_value (t ∷ u ∷ ts) = None

-- ---- options, maps, sets and storage: the tokens as a map, where no two have one key

abbrev pub has_key : ℤ → List Token → Bool
has_key k ts = list_any (λ (t : Token). int_eq k t.key) ts

abbrev pub are_apart : List Token → Bool
are_apart [] = true
are_apart (t ∷ ts) = not (has_key t.key ts) && are_apart ts

abbrev pub map_of : List Token → maps.Map
map_of [] = maps.nil
map_of (t ∷ ts) = maps.put (map_of ts) t.key t.value

abbrev pub as_map : List Token → Option maps.Map
as_map ts = if are_apart ts then Some (map_of ts) else None

-- ---- multisets: each element with the number of its tokens

abbrev pub counts_of : List Token → maps.Map
counts_of [] = maps.nil
counts_of (t ∷ ts) = maps.bump (counts_of ts) t.key (pos 1)

-- ---- counts: the amounts together

abbrev pub sum_of : List Token → ℤ
sum_of [] = pos 0
sum_of (t ∷ ts) = t.value +ℤ sum_of ts

-- ---- persistent fields: the record, where it bears out every token

abbrev pub entries_of : Value → maps.Map
entries_of (Mapped m) = m
entries_of (Number n) = maps.nil

abbrev pub number_of : Value → ℤ
number_of (Number n) = n
number_of (Mapped m) = pos 0

abbrev pub is_value : Option ℤ → ℤ → Bool
is_value (Some n) v = int_eq n v
is_value None v = false

-- the record has the token's key with the token's value
abbrev pub is_entry : Value → Token → Bool
is_entry recorded t = is_value (finmap.get (entries_of recorded) t.key) t.value

-- the record has the token's key
abbrev pub is_element : Value → Token → Bool
is_element recorded t = is_some (finmap.get (entries_of recorded) t.key)

-- the token's amount is not above the record
abbrev pub is_reached : Value → Token → Bool
is_reached recorded t = int_le t.value (number_of recorded)

-- ---- a field, by its strategy, from its tokens, its record and its stored permissions

abbrev pub borne_out : Bool → Value → Option Value
borne_out true recorded = Some recorded
borne_out false recorded = None

abbrev pub joined : Strategy → List Token → Value → List Token → Option Value
joined Variable ts recorded stored = option_map Number (only_value ts)
joined OptionField ts recorded stored = option_map Mapped (as_map ts)
joined Map ts recorded stored = option_map Mapped (as_map ts)
joined Set ts recorded stored = option_map Mapped (as_map ts)
joined Multiset ts recorded stored = Some (Mapped (counts_of ts))
joined Count ts recorded stored = Some (Number (sum_of ts))
joined PersistentOption ts recorded stored = borne_out (list_all (is_entry recorded) ts) recorded
joined PersistentMap ts recorded stored = borne_out (list_all (is_entry recorded) ts) recorded
joined PersistentSet ts recorded stored = borne_out (list_all (is_element recorded) ts) recorded
joined PersistentCount ts recorded stored = borne_out (list_all (is_reached recorded) ts) recorded
joined Constant ts recorded stored = Some recorded
joined NotTokenized ts recorded stored = Some recorded
joined StorageMap ts recorded stored = option_map Mapped (as_map stored)

-- ---- the state

-- a record that is not there counts as 0
abbrev pub record_at : Kept → ℕ → Value
record_at kept f = slice_index_or kept.records f (Number (pos 0))

abbrev pub value_at : List Field → List Token → Kept → ℕ → Option Value
value_at fs bag kept f = joined (strategy_at fs f) (tokens_of f bag) (record_at kept f) (tokens_of f kept.stored)

-- a value of each, where each is there
abbrev pub all_of : {A : Type 0} → List (Option A) → Option (List A)
all_of [] = Some []
all_of (None ∷ xs) = None
all_of (Some x ∷ xs) = option_map (λ ys. x ∷ ys) (all_of xs)

-- the joined state: every field's value, none where one has none
abbrev pub join_of : List Field → List Token → Kept → Option State
join_of fs bag kept = all_of (map (value_at fs bag kept) (range_with_len 0 (length fs)))
