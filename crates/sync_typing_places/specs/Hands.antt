-- What a hand is to what the rules know at a place: what symbols stand for, and the tokens at hand.
use Rattle.std.specs.Prelude.{◌≡◌, ℕ, ◌-◌, ◌<◌, ◌≤◌, Bool, ◌||◌, nat_eq, nat_lt, List, ◌∷◌, length, take, slice_get, Option, Some, None, option_map, if◌then◌else◌}
use Rattle.sync_terms.specs.declared.nodes.TermId.{TermId}
use Rattle.sync_terms.specs.Stored.{Stored, tree, IsTerm}
use Rattle.sync_terms.specs.Trees.{Tree}
use Rattle.sync_thread.specs.Arrays.{name_limit}
use Rattle.sync_thread_machine.specs.ProgramSymbols.{first_fresh, held_of}
use Rattle.sync_typing.specs.Environments.{TokenTree, token_named}
use Rattle.sync_typing_ledgers.specs.declared.ledgers.Found.{Found}
use Rattle.sync_typing_ledgers.specs.declared.ledgers.Place.{Place}
use Rattle.sync_typing_ledgers.specs.Entries.{Kept, found_at, newest, oldest}
use Rattle.sync_typing_reading.specs.declared.sayings.Saying.{Saying}
use Rattle.sync_typing_reading.specs.declared.sayings.Saying.TheVariants as says
use Rattle.sync_typing_reading.specs.Sayings.{entry_value, said_in, tree_in, AreSaidOf}
use Rattle.sync_typing_places.specs.declared.hands.Token.{Token}
use Rattle.sync_typing_places.specs.declared.hands.Hand.{Hand}
use Rattle.sync_typing_places.specs.declared.marks.Mark.{Mark}

abbrev pub token_tree : Stored → Token → TokenTree
token_tree s t = record { field = t.field; key = tree s t.key; value = tree s t.value }

-- the token of a place, from 1; below the floor none is at hand
abbrev pub placed : List Token → Option Found → Option Token
placed ts None = None
placed ts (Some f) = if nat_eq f.value 0 || f.is_below then None else slice_get ts (f.value - 1)

abbrev pub token_at : Hand → ℕ → Option Token
token_at h n = placed h.tokens.items (option_map (found_at h.places.floor) (newest n h.places.entries))

abbrev pub token_in : Stored → Hand → ℕ → Option TokenTree
token_in s h n = option_map (token_tree s) (token_at h n)

abbrev pub value_of : TokenTree → Tree
value_of t = t.value

-- The hand is what these functions say: what symbols stand for by names, and the tokens at hand.
pub record Holds (s : Stored) (h : Hand) (terms : ℕ → Option Tree) (hand : ℕ → Option TokenTree) : Type 0 where
  pub names : (x : ℕ) → token_named x ≡ None → tree_in s h.names x ≡ terms x
  pub held : (x n : ℕ) → token_named x ≡ Some n → tree_in s h.names x ≡ option_map value_of (hand n)
  pub no_token : (x n : ℕ) → token_named x ≡ Some n → terms x ≡ None
  pub few : (x : ℕ) → first_fresh ≤ x → terms x ≡ None
  pub at_hand : (n : ℕ) → token_in s h n ≡ hand n

-- The parts of a hand fit together: no floor is above what there is, and each place is that of a token.
pub record IsWhole (h : Hand) : Type 0 where
  pub names : h.names.floor ≤ length h.names.entries
  pub places : h.places.floor ≤ length h.places.entries
  pub placed : (n : ℕ) (p : Place) → newest n h.places.entries ≡ Some p → p.value ≤ length h.tokens.items

-- its terms are those of a store
pub record IsHandOf (s : Stored) (h : Hand) : Type 0 where
  pub said : AreSaidOf s h.names
  pub tokens : (n : ℕ) (t : Token) → token_at h n ≡ Some t → IsTerm s t.key × IsTerm s t.value

-- the newer hand has more to say at most: its oldest parts are the older hand's
pub record Begins (old new : Hand) : Type 0 where
  pub names : oldest (length old.names.entries) new.names.entries ≡ old.names.entries
  pub places : oldest (length old.places.entries) new.places.entries ≡ old.places.entries
  pub tokens : take (length old.tokens.items) new.tokens.items ≡ old.tokens.items

-- how far a hand is
pub record IsMarkOf (h : Hand) (m : Mark) : Type 0 where
  pub names : m.names ≡ length h.names.entries
  pub names_floor : m.names_floor ≡ h.names.floor
  pub places : m.places ≡ length h.places.entries
  pub places_floor : m.places_floor ≡ h.places.floor
  pub tokens : m.tokens ≡ length h.tokens.items

pub record IsSame (old new : Hand) : Type 0 where
  pub names : new.names ≡ old.names
  pub places : new.places ≡ old.places
  pub tokens : new.tokens.items ≡ old.tokens.items

abbrev pub IsTokenOf : Stored → Token → Type 0
IsTokenOf s t = IsTerm s t.key × IsTerm s t.value

-- a symbol of a name, or one of a field or a word of the language
pub record MayName (x : ℕ) : Type 0 where
  pub few : x < first_fresh
  pub no_token : token_named x ≡ None

abbrev pub with_name : ℕ → Tree → (ℕ → Option Tree) → ℕ → Option Tree
with_name x t terms y = if nat_eq y x then Some t else terms y

abbrev pub with_token : ℕ → Option TokenTree → (ℕ → Option TokenTree) → ℕ → Option TokenTree
with_token n t hand m = if nat_eq m n then t else hand m

-- a ledger that says something more
abbrev pub with_said : Kept → ℕ → Option TermId → Kept
with_said k x t = record k { entries = record { key = x; value = entry_value t } ∷ k.entries }

-- `held` of a token; a permission of the start has no such symbol
abbrev pub held_said : ℕ → Option TermId → Kept → Kept
held_said n t k = if nat_lt n name_limit then with_said k (held_of n) t else k

-- whether something is said
abbrev pub is_said : Saying → Bool
is_said says.Nothing = Bool.false
is_said says.Itself = Bool.true
is_said (says.Term t) = Bool.true

-- at hand by a ledger: a symbol below 64, or one that stands for something
abbrev pub is_at_hand_in : Kept → ℕ → Bool
is_at_hand_in k x = nat_lt x 64 || is_said (said_in k x)
