-- An operation of a machine done locally: on the tokens that one holder has, and on what is kept beside all tokens.
--
-- The slots of the variables come first, in the order of declaration; then the statements as they are written. All
-- terms read the state before. The first failure counts; where there is none, tokens and records change as the
-- statements say. Nobody looks at whether an added place is free: that is the machine's proof.
--
-- `fits` says which numbers are within the bound. With no bound the exchange never ends by `Width`.
use Rattle.std.specs.Prelude.{ℕ, suc, ℤ, pos, List, [], ◌∷◌, ◌++◌, length, map, Bool, true, false, not, ◌&&◌, nat_eq, nat_lt, if◌then◌else◌, Option, Some, None, Result, Ok, Err, slice_index_or, slice_set, filter_map}
use Rattle.std.specs.List.{filter, range_with_len}
use Rattle.std.specs.Ordering.{int_eq}
use Rattle.sync_base.specs.Outcome.{◌>>=◌}
use Rattle.sync_terms.specs.Trees.{Tree}
use Rattle.sync_terms.specs.Maps as maps
use Rattle.sync_terms.specs.Values.{Valuation, num, truth, with_value}
use Rattle.sync_machine.specs.declared.fields.Field.{Field}
use Rattle.sync_base.specs.declared.strategies.Strategy.{Strategy}
use Rattle.sync_base.specs.declared.strategies.Strategy.TheVariants.{Variable, Constant, NotTokenized, Count, PersistentOption, PersistentMap, PersistentSet, PersistentCount, StorageMap}
use Rattle.sync_machine.specs.Machines.{PatternTree, Bind, Term, PlaceTree, ActTree, StepTree, OperationTree, MachineTree}
use Rattle.sync_machine.specs.Machines as acts
use Rattle.sync_machine.specs.Statements.{key_of, value_of, binds}
use Rattle.sync_machine.specs.States.{Value, Number, Mapped, State, Sort, Numbers, Maps, sort_of, value_in, strategy_at}
use Rattle.sync_join.specs.declared.tokens.Token.{Token}
use Rattle.sync_join.specs.Shards.{Kept, perm}
use Rattle.sync_join.specs.Join.{tokens_of, map_of, entries_of, number_of, record_at}
use Rattle.sync_rules.specs.declared.slots.Role.{Role}
use Rattle.sync_rules.specs.declared.slots.Role.TheVariants.{Given}
use Rattle.sync_rules.specs.Slots.{SlotTree, field_slot}
use Rattle.sync_exchange_values.specs.Fitting.{number_fits, map_fits, form_fits}
use Rattle.sync_exchange.specs.declared.hands.Held.{Held}
use Rattle.sync_exchange.specs.declared.hands.XStop.{XStop}
use Rattle.sync_exchange.specs.declared.hands.XStop.TheVariants.{Missing, Differs, RequireFalse, StoreEmpty, Width}

-- ---- tokens by their names

unfoldable pub held_as : ℕ → List Held → Option Token
held_as name [] = None
held_as name (h ∷ hs) = if nat_eq name h.name then Some h.token else held_as name hs

-- all but the token of this name
abbrev pub without : ℕ → List Held → List Held
without name hs = filter (λ (h : Held). not (nat_eq name h.name)) hs

-- the token of this name with another value
abbrev pub revalued : ℕ → ℤ → List Held → List Held
revalued name n hs = map (λ (h : Held). if nat_eq name h.name then record h { token = record h.token { value = n } } else h) hs

abbrev pub tokens_in : List Held → List Token
tokens_in hs = map (λ (h : Held). h.token) hs

-- ---- stored objects by their keys

-- of this field, with this key
abbrev pub is_at_place : ℕ → ℤ → Token → Bool
is_at_place f k t = nat_eq f t.field && int_eq k t.key

unfoldable pub stored_at : ℕ → ℤ → List Token → Option ℤ
stored_at f k [] = None
stored_at f k (t ∷ ts) = if is_at_place f k t then Some t.value else stored_at f k ts

abbrev pub withdrawn : ℕ → ℤ → List Token → List Token
withdrawn f k ts = filter (λ (t : Token). not (is_at_place f k t)) ts

-- ---- what symbols stand for before the first statement

-- A field as the exchange sees it: what is kept, from what is kept; all else from the whole state.
abbrev pub seen : Strategy → Kept → State → ℕ → Value
seen StorageMap kept whole f = Mapped (map_of (tokens_of f kept.stored))
seen Constant kept whole f = record_at kept f
seen NotTokenized kept whole f = record_at kept f
seen PersistentOption kept whole f = record_at kept f
seen PersistentMap kept whole f = record_at kept f
seen PersistentSet kept whole f = record_at kept f
seen PersistentCount kept whole f = record_at kept f
seen s kept whole f = slice_index_or whole f (Number (pos 0))

unfoldable pub argument : List ℕ → List ℤ → ℕ → ℤ
argument (p ∷ ps) (n ∷ ns) x = if nat_eq x p then n else argument ps ns x
argument [] ns x = pos 0
argument (p ∷ ps) [] x = pos 0

abbrev pub number_at : List Field → OperationTree → List ℤ → Kept → State → ℕ → ℤ
number_at fs o args kept whole x =
    if nat_lt x (length fs) then number_of (seen (strategy_at fs x) kept whole x) else argument o.params args x

abbrev pub mapping_at : List Field → Kept → State → ℕ → maps.Map
mapping_at fs kept whole x = entries_of (seen (strategy_at fs x) kept whole x)

abbrev pub names_before : List Field → OperationTree → List ℤ → Kept → State → Valuation
names_before fs o args kept whole = record { number = number_at fs o args kept whole; mapping = mapping_at fs kept whole }

-- ---- an exchange on its way

pub record Exchanging : Type 0 where
  -- what symbols stand for: the fields as they were, the arguments, the names bound so far
  pub names : Valuation
  -- the number of the next slot, and the names for it and those behind it
  pub slot : ℕ
  pub tokens : List ℕ
  pub given : List ℕ
  -- the variables with the names of their tokens
  pub variables : List (ℕ × ℕ)
  -- the hand without what was taken, the new tokens, and what is kept
  pub hand : List Held
  pub entered : List Held
  pub kept : Kept
  -- the values bound so far
  pub bound : List ℤ

abbrev pub Answer : Type 0
Answer = Result Exchanging XStop

abbrev pub next_name : List ℕ → ℕ
next_name [] = 0
next_name (x ∷ xs) = x

abbrev pub later_names : List ℕ → List ℕ
later_names [] = []
later_names (x ∷ xs) = xs

-- the exchange stops where a test fails
abbrev pub unless : XStop → Bool → Answer → Answer
unless stop true answer = answer
unless stop false answer = Err stop

-- the token that the next slot names
abbrev pub named : Exchanging → Result Token XStop
named x = found (held_as (next_name x.tokens) x.hand) where
  found : Option Token → Result Token XStop
  found (Some t) = Ok t
  found None = Err (Missing x.slot)

-- the next slot has used a token's name, and left the token where it is
abbrev pub after_reading : Exchanging → Exchanging
after_reading x = record x { slot = suc x.slot; tokens = later_names x.tokens }

-- and has taken the token out of the hand
abbrev pub after_taking : Exchanging → Exchanging
after_taking x = record x { slot = suc x.slot; tokens = later_names x.tokens; hand = without (next_name x.tokens) x.hand }

-- the next slot looks at a stored object
abbrev pub after_seeing : Exchanging → Exchanging
after_seeing x = record x { slot = suc x.slot }

-- the next slot gives a token under its new name
abbrev pub after_giving : Token → Exchanging → Exchanging
after_giving t x = record x { slot = suc x.slot; given = later_names x.given; entered = x.entered ++ record { name = next_name x.given; token = t } ∷ [] }

-- a field's symbol stands for the number of its token, which has this name
abbrev pub knowing : ℕ → ℕ → ℤ → Exchanging → Exchanging
knowing f name n x = record x { names = with_value f n (entries_of (Number n)) x.names; variables = (f, name) ∷ x.variables }

-- a new name is bound, where a place binds one
abbrev pub binding : Option ℕ → ℤ → Exchanging → Exchanging
binding None n x = x
binding (Some y) n x = record x { names = with_value y n maps.nil x.names; bound = x.bound ++ n ∷ [] }

-- a field has another record; something is stored or no longer stored
abbrev pub recording : ℕ → Value → Exchanging → Exchanging
recording f v x = record x { kept = record x.kept { records = slice_set x.kept.records f v } }

abbrev pub storing : List Token → Exchanging → Exchanging
storing ts x = record x { kept = record x.kept { stored = ts } }

-- the name of a variable's token
unfoldable pub token_name : ℕ → List (ℕ × ℕ) → Option ℕ
token_name f [] = None
token_name f ((g, name) ∷ vs) = if nat_eq f g then Some name else token_name f vs

-- a variable's token has another value, be it held or new
abbrev pub revaluing : ℕ → ℤ → Exchanging → Exchanging
revaluing f n x = set (token_name f x.variables) where
  set : Option ℕ → Exchanging
  set None = x
  set (Some name) = record x { hand = revalued name n x.hand; entered = revalued name n x.entered }

-- ---- the slots of variables

-- a variable's token is used, or a new one is given, whose value its statement sets
abbrev pub use_variable : ℕ → Role → Exchanging → Answer
use_variable f role x =
    if gives role then Ok (knowing f (next_name x.given) (pos 0) (after_giving (record { field = f; key = pos 0; value = pos 0 }) x)) else (named x >>= used) where
      gives : Role → Bool
      gives Given = true
      gives role = false

      used : Token → Answer
      used t = unless (Differs x.slot) (is_at_place f (pos 0) t) (Ok (knowing f (next_name x.tokens) t.value (after_reading x)))

abbrev pub use_variables : List SlotTree → Exchanging → Answer
use_variables [] x = Ok x
use_variables (s ∷ ss) x = use_variable s.field s.role x >>= use_variables ss

-- ---- statements on places

-- the key of a place, the value that is asked for there, and whether they are within the bound
abbrev pub key_at : PlaceTree → Exchanging → ℤ
key_at p x = num x.names (key_of p)

abbrev pub amount_at : PlaceTree → Exchanging → ℤ
amount_at p x = num x.names (value_of p)

abbrev pub place_fits : (ℤ → Bool) → PlaceTree → Exchanging → Bool
place_fits fits p x = number_fits fits x.names (key_of p) && asked_fits (binds p) where
  asked_fits : Option ℕ → Bool
  asked_fits (Some y) = true
  asked_fits None = number_fits fits x.names (value_of p)

-- the value is the one that is asked for, where one is
abbrev pub is_asked : PlaceTree → ℤ → Exchanging → Bool
is_asked p n x = is (binds p) where
  is : Option ℕ → Bool
  is (Some y) = true
  is None = int_eq (amount_at p x) n

-- the token that the slot names, of this field, with the place's key and value
abbrev pub asked_token : (ℤ → Bool) → ℕ → PlaceTree → Exchanging → (Token → Exchanging) → Answer
asked_token fits f p x next = named x >>= (λ (t : Token). unless Width (place_fits fits p x)
    (unless (Differs x.slot) (is_at_place f (key_at p x) t && is_asked p t.value x) (Ok (next t))))

-- the object that is stored at the place
abbrev pub asked_object : (ℤ → Bool) → ℕ → PlaceTree → Exchanging → (ℤ → Exchanging) → Answer
asked_object fits f p x next = unless Width (place_fits fits p x) (found (stored_at f (key_at p x) x.kept.stored)) where
  found : Option ℤ → Answer
  found None = Err (StoreEmpty x.slot)
  found (Some n) = unless (Differs x.slot) (is_asked p n x) (Ok (next n))

-- what is recorded of a persistent field behind an addition
abbrev pub raised : Strategy → Value → ℤ → ℤ → Value
raised PersistentOption recorded k n = Mapped (maps.put (entries_of recorded) k n)
raised PersistentMap recorded k n = Mapped (maps.put (entries_of recorded) k n)
raised PersistentSet recorded k n = Mapped (maps.put (entries_of recorded) k (pos 1))
raised PersistentCount recorded k n = Number n
raised s recorded k n = recorded

-- the record of a field behind an addition of this key and value
abbrev pub raising : List Field → ℕ → ℤ → ℤ → Exchanging → Exchanging
raising fs f k n x = recording f (raised (strategy_at fs f) (record_at x.kept f) k n) x

-- the first value of a field: of a variable its new token's, of a count the amount of a new token
abbrev pub started : Strategy → ℕ → Value → Exchanging → Exchanging
started Variable f v x = revaluing f (number_of v) x
started Count f v x = after_giving (record { field = f; key = pos 0; value = number_of v }) x
started PersistentCount f v x = recording f v (after_giving (record { field = f; key = pos 0; value = number_of v }) x)
started Constant f v x = recording f v x
started NotTokenized f v x = recording f v x
started PersistentOption f v x = recording f v x
started PersistentMap f v x = recording f v x
started PersistentSet f v x = recording f v x
started s f v x = x

-- a new value of a variable or of a field without tokens
abbrev pub updated : Strategy → ℕ → Value → Exchanging → Exchanging
updated Variable f v x = revaluing f (number_of v) x
updated NotTokenized f v x = recording f v x
updated s f v x = x

abbrev pub term_fits : (ℤ → Bool) → Sort → Tree → Exchanging → Bool
term_fits fits Numbers t x = number_fits fits x.names t
term_fits fits Maps t x = map_fits fits x.names t

abbrev pub new_value : List Field → ℕ → Tree → Exchanging → Value
new_value fs f t x = value_in x.names (sort_of (strategy_at fs f)) t

abbrev pub value_fits : (ℤ → Bool) → List Field → ℕ → Tree → Exchanging → Bool
value_fits fits fs f t x = term_fits fits (sort_of (strategy_at fs f)) t x

-- the permission of a cell, and a stored one
abbrev pub permission : ℤ → ℤ → Token
permission k n = record { field = perm; key = k; value = n }

abbrev pub token_of : ℕ → ℤ → ℤ → Token
token_of f k n = record { field = f; key = k; value = n }

-- ---- a statement

unfoldable pub does : (ℤ → Bool) → List Field → StepTree → Exchanging → Answer
does fits fs s x = act s.act where
  act : ActTree → Answer
  act (acts.Require form) = unless Width (form_fits fits x.names form) (unless (RequireFalse s.line) (truth x.names form) (Ok x))
  act (acts.Assert form) = Ok x
  act (acts.HaveVariable f) = Ok x
  act (acts.Init f t) = unless Width (value_fits fits fs f t x) (Ok (started (strategy_at fs f) f (new_value fs f t x) x))
  act (acts.Update f t) = unless Width (value_fits fits fs f t x) (Ok (updated (strategy_at fs f) f (new_value fs f t x) x))
  act (acts.Remove f p) = asked_token fits f p x (λ (t : Token). binding (binds p) t.value (after_taking x))
  act (acts.Have f p) = asked_token fits f p x (λ (t : Token). binding (binds p) t.value (after_reading x))
  act (acts.Add f p) = unless Width (place_fits fits p x)
      (Ok (raising fs f (key_at p x) (amount_at p x) (after_giving (token_of f (key_at p x) (amount_at p x)) x)))
  act (acts.Deposit f p) = asked_token fits perm p x
      (λ (t : Token). storing (x.kept.stored ++ token_of f (key_at p x) (amount_at p x) ∷ []) (after_taking x))
  act (acts.Withdraw f p) = asked_object fits f p x
      (λ (n : ℤ). binding (binds p) n (storing (withdrawn f (key_at p x) x.kept.stored) (after_giving (permission (key_at p x) n) x)))
  act (acts.Guard f p) = asked_object fits f p x (λ (n : ℤ). binding (binds p) n (after_seeing x))

abbrev pub does_all : (ℤ → Bool) → List Field → List StepTree → Exchanging → Answer
does_all fits fs [] x = Ok x
does_all fits fs (s ∷ ss) x = does fits fs s x >>= does_all fits fs ss

-- ---- the whole

-- what an exchange leaves: the hand, what is kept, and the values of the bound names in the order in which they are written
pub record Exchanged : Type 0 where
  pub hand : List Held
  pub kept : Kept
  pub bound : List ℤ

abbrev pub outcome : Answer → Result Exchanged XStop
outcome (Ok x) = Ok (record { hand = x.hand ++ x.entered; kept = x.kept; bound = x.bound })
outcome (Err stop) = Err stop

-- before the first slot
abbrev pub beginning : List Field → OperationTree → List ℤ → List ℕ → List ℕ → State → List Held → Kept → Exchanging
beginning fs o args tokens given whole hand kept = record {
  names = names_before fs o args kept whole;
  slot = 0;
  tokens = tokens;
  given = given;
  variables = [];
  hand = hand;
  entered = [];
  kept = kept;
  bound = [];
}

-- the slots of the variables that an operation uses
abbrev pub variable_slots : List Field → OperationTree → List SlotTree
variable_slots fs o = filter_map (field_slot fs o.steps) (range_with_len 0 (length fs))

-- The operation o with these arguments, on the tokens and new names that are named slot by slot. The whole state is
-- read by updates of fields without tokens alone.
abbrev pub exchange_in : (ℤ → Bool) → List Field → OperationTree → List ℤ → List ℕ → List ℕ → State → List Held → Kept
    → Result Exchanged XStop
exchange_in fits fs o args tokens given whole hand kept =
    outcome (use_variables (variable_slots fs o) (beginning fs o args tokens given whole hand kept) >>= does_all fits fs o.steps)

-- the exchange of numbers without bound
abbrev pub exchange_of : List Field → OperationTree → List ℤ → List ℕ → List ℕ → State → List Held → Kept → Result Exchanged XStop
exchange_of = exchange_in (λ n. true)
