-- What the names of a text stand for at a place.
use Rattle.std.specs.Prelude.{ℕ, ◌-◌, ◌^◌, ◌==◌, min, bit_or, Bool, true, false, slice_get, slice_set, length, nat_eq, nat_lt, ◌||◌, Option, Some, None, Result, Ok, Err, if◌then◌else◌}
use Rattle.std.specs.Int.{bit_at}
use Rattle.sync_base.specs.declared.stops.Refusal.{Refusal}
use Rattle.sync_base.specs.declared.stops.Rule.{Rule}
use Rattle.sync_base.specs.declared.stops.Rule.TheVariants.{N1, N2}
use Rattle.sync_base.specs.Limits.{longest_text}
use Rattle.sync_terms.specs.Symbols.{name_symbol, dollar_symbol, held_symbol}
use Rattle.sync_parse_exprs.specs.declared.expressions.Special.{Special}
use Rattle.sync_parse_exprs.specs.declared.expressions.Special.TheVariants as special
use Rattle.sync_parse_exprs.specs.declared.raw_names.RawName.{RawName}
use Rattle.sync_read_names.specs.declared.scopes.Sort.{Sort}
use Rattle.sync_read_names.specs.declared.scopes.Sort.TheVariants.{Number}
use Rattle.sync_read_names.specs.declared.scopes.Meaning.{Meaning}
use Rattle.sync_read_names.specs.declared.scopes.Meaning.TheVariants.{Nothing, Field}
use Rattle.sync_read_names.specs.declared.scopes.Owners.{Owners}
use Rattle.sync_read_names.specs.declared.scopes.Owner.{Owner}
use Rattle.sync_read_names.specs.declared.scopes.Owner.TheVariants as owner
use Rattle.sync_read_names.specs.declared.scopes.Sight.{Sight}
use Rattle.sync_read_names.specs.declared.scopes.Scope.{Scope}

-- a broken rule at a line
abbrev pub refuse : {A : Type 0} → Rule → ℕ → Result A Refusal
refuse rule line = Err (record { line = line; rule = rule })

-- ---- symbols

-- the number of a name; a text has fewer names than bytes
abbrev pub number_in : ℕ → ℕ
number_in name = min name (longest_text - 1)

-- the symbol of a name as a parameter or bound name, and that of `$` before it
abbrev pub symbol_of : ℕ → ℕ
symbol_of name = name_symbol (number_in name)

abbrev pub param_symbol_of : ℕ → ℕ
param_symbol_of name = dollar_symbol (symbol_of name)

-- the symbol of `held` of a name
abbrev pub held_symbol_of : ℕ → ℕ
held_symbol_of name = held_symbol (symbol_of name)

abbrev pub special_number : Special → ℕ
special_number special.Value = 32
special_number special.Index = 33
special_number special.Old = 34
special_number special.New = 35
special_number special.Wrap = 36

-- ---- what is known at a place besides names

-- in a machine: all fields, and none of the words of programs
abbrev pub machine_sight : Sight
machine_sight = record { fields = None; held = false; clause = false; atomic = false; wrap = false }

abbrev pub knows_special : Sight → Special → Bool
knows_special g special.Value = g.clause
knows_special g special.Index = g.clause
knows_special g special.Old = g.atomic
knows_special g special.New = g.atomic
knows_special g special.Wrap = g.wrap

-- the symbol of a word where it is known
abbrev pub special_symbol : Sight → Special → Option ℕ
special_symbol g w = if knows_special g w then Some (special_number w) else None

-- ---- what a name was declared as

abbrev pub or_nothing : Option Meaning → Meaning
or_nothing (Some m) = m
or_nothing None = Nothing

abbrev pub meaning_of : Scope → ℕ → Meaning
meaning_of s name = or_nothing (slice_get s.meanings name)

abbrev pub if_new : Meaning → RawName → Scope → Result Scope Refusal
if_new Nothing named s = Ok s
if_new _ named s = refuse N2 named.line

-- a field, operation or invariant of a new name; a name that the text does not have is unknown
abbrev pub declare : Scope → RawName → Meaning → Result Scope Refusal
declare s named m =
    if nat_lt named.name (length s.meanings)
    then if_new (meaning_of s named.name) named (record s { meanings = slice_set s.meanings named.name m })
    else refuse N1 named.line

-- ---- whose parameter or bound name it is

-- one of 64 flags is up
abbrev pub flag : ℕ → ℕ → Bool
flag flags number = if nat_lt number 64 then bit_at flags number == 1 else false

-- the same flags with one of them up
abbrev pub with_flag : ℕ → ℕ → ℕ
with_flag flags number = if nat_lt number 64 then bit_or flags (2 ^ number) else flags

abbrev pub is_word : Option ℕ → ℕ → Bool
is_word None word = false
is_word (Some x) word = nat_eq x word

-- the final block knows besides its own names those of the keeps that threads end with
abbrev pub has_owner : Owners → Owner → Bool
has_owner o owner.Nobody = false
has_owner o (owner.Operation number) = flag o.operations number
has_owner o (owner.Invariant number) = flag o.invariants number
has_owner o (owner.Word name) = is_word o.word name
has_owner o (owner.Thread number) = nat_eq o.local number || nat_eq o.proof number
has_owner o (owner.Last number) = nat_eq o.local number || (nat_eq o.proof number || o.ends)

abbrev pub with_owner : Owners → Owner → Owners
with_owner o owner.Nobody = o
with_owner o (owner.Operation number) = record o { operations = with_flag o.operations number }
with_owner o (owner.Invariant number) = record o { invariants = with_flag o.invariants number }
with_owner o (owner.Word name) = record o { word = Some name }
with_owner o (owner.Thread number) = record o { proof = number }
with_owner o (owner.Last number) = record o { proof = number }

-- a local of a thread or of the final block
abbrev pub has_local : Owners → Owner → Bool
has_local o owner.Nobody = false
has_local o (owner.Operation number) = false
has_local o (owner.Invariant number) = false
has_local o (owner.Word name) = false
has_local o (owner.Thread number) = nat_eq o.local number
has_local o (owner.Last number) = nat_eq o.local number

abbrev pub or_unowned : Option Owners → Owner → Bool
or_unowned (Some o) x = has_owner o x
or_unowned None x = false

-- somebody has this name as a parameter or bound name
abbrev pub is_owned : Scope → Owner → ℕ → Bool
is_owned s x name = or_unowned (slice_get s.owners name) x

abbrev pub is_local : Scope → ℕ → Bool
is_local s name = is_owned s s.owner name

abbrev pub is_field : Meaning → Bool
is_field (Field number sort) = true
is_field _ = false

-- a parameter or bound name here, or a field
abbrev pub is_taken : Scope → ℕ → Bool
is_taken s name = is_field (meaning_of s name) || is_local s name

abbrev pub own_more : Option Owners → Scope → RawName → Result Scope Refusal
own_more None s named = refuse N1 named.line
own_more (Some o) s named =
    if is_taken s named.name then refuse N2 named.line else Ok (record s { owners = slice_set s.owners named.name (with_owner o s.owner) })

-- one more parameter or bound name of the owner
abbrev pub own : Scope → RawName → Result Scope Refusal
own s named = own_more (slice_get s.owners named.name) s named

-- ---- names in terms

abbrev pub field_sort : Meaning → Option Sort
field_sort (Field number sort) = Some sort
field_sort _ = None

-- all fields are known, or those of a flag each
abbrev pub if_known : Option ℕ → ℕ → Meaning → Meaning
if_known None number m = m
if_known (Some flags) number m = if flag flags number then m else Nothing

abbrev pub seen : Sight → Meaning → Meaning
seen g (Field number sort) = if_known g.fields number (Field number sort)
seen g m = m

-- what a name was declared as, where it is no field that is not known here
abbrev pub seen_as : Scope → ℕ → Meaning
seen_as s name = seen s.sight (meaning_of s name)

-- the sort of a name in a term, which is a parameter, a bound name, a name of a program, or a field; an unknown name has none
abbrev pub name_sort : Scope → ℕ → Option Sort
name_sort s name = if is_local s name then Some Number else field_sort (seen_as s name)

abbrev pub field_symbol : Meaning → ℕ → Result ℕ Refusal
field_symbol (Field number sort) line = Ok number
field_symbol _ line = refuse N1 line

-- the symbol of a name in a term
abbrev pub known_symbol : Scope → RawName → Result ℕ Refusal
known_symbol s named = if is_local s named.name then Ok (symbol_of named.name) else field_symbol (seen_as s named.name) named.line

-- `$` is known behind a claim that has parameters
abbrev pub knows_params : Owner → Bool
knows_params owner.Nobody = false
knows_params (owner.Operation number) = true
knows_params (owner.Invariant number) = true
knows_params (owner.Word name) = true
knows_params (owner.Thread number) = true
knows_params (owner.Last number) = true

-- the symbol of `$` before a name, which is a parameter of the claim's invariant; the line is that of `$`
abbrev pub param_symbol : Scope → ℕ → RawName → Result ℕ Refusal
param_symbol s line named =
    if knows_params s.claim then (if is_owned s s.claim named.name then Ok (param_symbol_of named.name) else refuse N1 named.line) else refuse N1 line

-- ---- locals and words that `low` and `high` speak of

abbrev pub local_of : Option Owners → Owner → Bool
local_of (Some o) x = has_local o x
local_of None x = false

-- a local of the thread here
abbrev pub is_assigned : Scope → ℕ → Bool
is_assigned s name = local_of (slice_get s.owners name) s.owner

-- the symbol of a local
abbrev pub local_symbol : Scope → RawName → Result ℕ Refusal
local_symbol s named = if is_assigned s named.name then Ok (symbol_of named.name) else refuse N1 named.line

abbrev pub symbol_or : Option ℕ → ℕ → Result ℕ Refusal
symbol_or (Some x) line = Ok x
symbol_or None line = refuse N1 line

-- the symbol of a word of programs
abbrev pub word_symbol : Scope → Special → ℕ → Result ℕ Refusal
word_symbol s w line = symbol_or (special_symbol s.sight w) line
