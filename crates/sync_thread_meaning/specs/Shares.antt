-- Where the tokens of a program are: in the hands of threads, in words, kept beside them, or dropped for good.
use Rattle.std.specs.Prelude.{ℕ, ℤ, pos, ◌+◌, ◌-◌, Bool, true, false, not, ◌&&◌, if◌then◌else◌, nat_eq, nat_lt, List}
use Rattle.std.specs.Prelude.{[], ◌∷◌, ◌++◌, length, map, flat_map, slice_set, slice_index_or, is_some, is_none}
use Rattle.std.specs.Prelude.{unwrap_or, Option, Some, None, Result, Ok, Err}
use Rattle.std.specs.List.{list_all, range_with_len}
use Rattle.std.specs.Ordering.{int_eq}
use Rattle.sync_base.specs.Outcome.{◌>>=◌}
use Rattle.sync_terms.specs.Trees.{Tree, Formula}
use Rattle.sync_terms.specs.Maps as maps
use Rattle.sync_thread.specs.Symbols.{first_name_symbol, value_symbol, is_held_symbol, name_of_symbol}
use Rattle.sync_terms.specs.Values.{Valuation, num, truth}
use Rattle.sync_machine.specs.Naming.{is_in}
use Rattle.sync_machine.specs.declared.fields.Field.{Field}
use Rattle.sync_join.specs.declared.tokens.Token.{Token}
use Rattle.sync_exchange.specs.declared.hands.Held.{Held}
use Rattle.sync_join.specs.Shards.{Kept}
use Rattle.sync_join.specs.Join.{record_at, number_of}
use Rattle.sync_rules.specs.Locality.{names_only, form_names_only}
use Rattle.sync_exchange_values.specs.Fitting.{number_fits}
use Rattle.sync_exchange.specs.Exchange.{held_as}
use Rattle.sync_exchange.specs.Splitting.{dropped}
use Rattle.sync_exchange.specs.Moves.{bag_of}
use Rattle.sync_thread.specs.Control.{Halt, Broken, Wide}
use Rattle.sync_thread.specs.Programs.{ShapeTree, WordTree, DeclTree, Word, Cell, KeepLineTree, KeepFactTree}
use Rattle.sync_thread_meaning.specs.MachineWithProgram.{field_of}
use Rattle.sync_thread.specs.Code.{Memory, locals_of}

-- a token or none for each clause of a word, and the values of its names
pub record Owned : Type 0 where
  pub tokens : List (Option Token)
  pub values : List ℤ

-- Beside the memory: what is kept beside all tokens; the hand, the proof values and the newest `wrap` of each thread
-- and then of the final block; what each word owns; and the tokens that were dropped.
pub record Shares : Type 0 where
  pub kept : Kept
  pub hands : List (List Held)
  pub proofs : List (ℕ → Option ℤ)
  pub wraps : List ℤ
  pub owned : List Owned
  pub dust : List Token

abbrev pub hand_of : Shares → ℕ → List Held
hand_of g t = slice_index_or g.hands t []

abbrev pub proofs_of : Shares → ℕ → ℕ → Option ℤ
proofs_of g t = slice_index_or g.proofs t (λ x. None)

abbrev pub wrap_of : Shares → ℕ → ℤ
wrap_of g t = slice_index_or g.wraps t (pos 0)

abbrev pub with_hand : ℕ → List Held → Shares → Shares
with_hand t h g = record g { hands = slice_set g.hands t h }

-- tokens come to a hand, behind those that it has
abbrev pub handed_to : ℕ → List Held → Shares → Shares
handed_to t taken g = with_hand t (hand_of g t ++ taken) g

abbrev pub with_proofs : ℕ → (ℕ → Option ℤ) → Shares → Shares
with_proofs t f g = record g { proofs = slice_set g.proofs t f }

abbrev pub with_wrap : ℕ → ℤ → Shares → Shares
with_wrap t n g = record g { wraps = slice_set g.wraps t n }

-- ---- the bag

abbrev pub token_list : Option Token → List Token
token_list (Some t) = t ∷ []
token_list None = []

abbrev pub owned_tokens : Owned → List Token
owned_tokens o = flat_map token_list o.tokens

-- the tokens that no hand has
abbrev pub beside : Shares → List Token
beside g = flat_map owned_tokens g.owned ++ g.dust

-- all tokens
abbrev pub all_shards : Shares → List Token
all_shards g = bag_of g.hands (beside g)

-- ---- what goes on, and what does not

-- something is allowed only where a test holds
abbrev pub only_if : {A : Type 0} → Bool → Result A Halt → Result A Halt
only_if true x = x
only_if false x = Err Broken

-- a number has to be within the bound
abbrev pub bounded : {A : Type 0} → Bool → Result A Halt → Result A Halt
bounded true x = x
bounded false x = Err Wide

-- every number is within the bound
abbrev pub no_bound : ℤ → Bool
no_bound n = true

-- what is wanted is there
abbrev pub found : {A : Type 0} → Option A → Result A Halt
found (Some x) = Ok x
found None = Err Broken

-- ---- what names stand for in a program

-- the value before an operation on a word, and the one after it
pub record Around : Type 0 where
  pub old : ℤ
  pub new : ℤ

abbrev pub nowhere_near : Around
nowhere_near = record { old = pos 0; new = pos 0 }

-- a name as a proof name, or else as a local; the rules on names see to it that none is both
abbrev pub named_value : (ℕ → Option ℤ) → (ℕ → ℕ) → ℕ → ℤ
named_value proofs locals n = unwrap_or (proofs n) (pos (locals n))

abbrev pub amount_of : Option Token → ℤ
amount_of (Some t) = t.value
amount_of None = pos 0

-- What a symbol of a program stands for: a field's its record; `value`, `index`, `old`, `new` and `wrap`, in this
-- order, what is said here; and of a name the name's value, or the value of the token that is held under it.
abbrev pub symbol_value : List Field → Kept → List ℤ → (ℕ → ℤ) → List Held → ℕ → ℤ
symbol_value fs kept words named hand x = if nat_lt x (length fs) then number_of (record_at kept x)
    else if nat_lt x first_name_symbol then slice_index_or words (x - value_symbol) (pos 0)
    else if is_held_symbol x then amount_of (held_as (name_of_symbol x) hand)
    else named (name_of_symbol x)

-- Every `held` of a term names a token that is held.
abbrev pub is_seen : List Held → ℕ → Bool
is_seen hand x =
    if nat_lt x first_name_symbol then true
    else if is_held_symbol x then is_some (held_as (name_of_symbol x) hand)
    else true

-- what terms stand for at a place of a thread, and the tokens that they may name
pub record Sight : Type 0 where
  pub valuation : Valuation
  pub hand : List Held

abbrev pub sight_of : List Field → Memory → Shares → ℕ → Around → Sight
sight_of fs m g t a = record {
  valuation = record {
    number =
        symbol_value fs g.kept (pos 0 ∷ pos 0 ∷ a.old ∷ a.new ∷ wrap_of g t ∷ [])
        (named_value (proofs_of g t) (locals_of m t)) (hand_of g t);
    mapping = λ x. maps.nil;
  };
  hand = hand_of g t;
}

-- the value of a term that looks at nothing that is not there, all of its parts within the bound
abbrev pub term_value : (ℤ → Bool) → Sight → Tree → Result ℤ Halt
term_value fits v t =
    only_if (names_only (is_seen v.hand) t) (bounded (number_fits fits v.valuation t) (Ok (num v.valuation t)))

abbrev pub term_values : (ℤ → Bool) → Sight → List Tree → Result (List ℤ) Halt
term_values fits v [] = Ok []
term_values fits v (t ∷ ts) = term_value fits v t >>= (λ n. term_values fits v ts >>= (λ ns. Ok (n ∷ ns)))

-- a formula is true, and a term is this number
abbrev pub is_true : Sight → Formula → Bool
is_true v f = form_names_only (is_seen v.hand) f && truth v.valuation f

abbrev pub has_value : Sight → Option Tree → ℤ → Bool
has_value v None n = true
has_value v (Some t) n = names_only (is_seen v.hand) t && int_eq (num v.valuation t) n

-- ---- tokens of a form

-- the token is of the field, with the key and the value that the form says
abbrev pub is_of_form : Sight → ShapeTree → Token → Bool
is_of_form v s t = nat_eq (field_of s.field) t.field && has_value v s.key t.key && has_value v s.value t.value

-- ---- names of tokens

abbrev pub differ : List ℕ → Bool
differ [] = true
differ (n ∷ ns) = not (is_in n ns) && differ ns

-- new names differ, and none of them is held
abbrev pub are_new : List ℕ → List Held → Bool
are_new ns hand = differ ns && list_all (λ n. is_none (held_as n hand)) ns

-- ---- words

-- a word of an array, by its number among all words
pub record WordAt : Type 0 where
  pub word : WordTree
  pub index : ℕ

abbrev pub array_words : List DeclTree → List WordAt
array_words [] = []
array_words (Word w ∷ ds) = map (λ i. record { word = w; index = i }) (range_with_len 0 w.len) ++ array_words ds
array_words (Cell c ∷ ds) = array_words ds

abbrev pub given_to : List ℕ → List ℤ → ℕ → Option ℤ
given_to (x ∷ xs) (n ∷ ns) y = if nat_eq y x then Some n else given_to xs ns y
given_to [] ns y = None
given_to (x ∷ xs) [] y = None

-- what terms stand for in a word's clauses and its fact, at a value of the word and values of its names
abbrev pub word_sight : List Field → Kept → WordAt → ℤ → List ℤ → Sight
word_sight fs kept p value ns = record {
  valuation = record {
    number = symbol_value fs kept (value ∷ pos p.index ∷ []) (λ n. unwrap_or (given_to p.word.names ns n) (pos 0)) [];
    mapping = λ x. maps.nil;
  };
  hand = [];
}

-- Whether a guard is true. A guard that looks at a token that is not held is neither true nor false.
abbrev pub guard_truth : Sight → Option Formula → Option Bool
guard_truth v None = Some true
guard_truth v (Some f) = if form_names_only (is_seen v.hand) f then Some (truth v.valuation f) else None

abbrev pub fact_is_true : Sight → Option Formula → Bool
fact_is_true v None = true
fact_is_true v (Some f) = is_true v f

-- ---- keeps

-- what a keep's lines take out of a hand, and what they leave there
pub record Parted : Type 0 where
  pub kept : List Held
  pub left : List Held

abbrev pub keep_lines : Sight → List KeepLineTree → List Held → Result Parted Halt
keep_lines v [] hand = Ok (record { kept = []; left = hand })
keep_lines v (l ∷ ls) hand =
    found (held_as l.name hand)
    >>= (λ (t : Token). only_if (is_of_form v l.shape t) (keep_lines v ls (dropped l.name hand)
    >>= (λ (p : Parted). Ok (record { kept = record { name = l.name; token = t } ∷ p.kept; left = p.left }))))

abbrev pub keep_facts_hold : Sight → List KeepFactTree → Bool
keep_facts_hold v fs = list_all (λ (f : KeepFactTree). is_true v f.form) fs

-- values that are given, before those of another naming
abbrev pub overlaid : (ℕ → Option ℤ) → (ℕ → Option ℤ) → ℕ → Option ℤ
overlaid f g n = over (f n) where
  over : Option ℤ → Option ℤ
  over (Some x) = Some x
  over None = g n
