-- Tokens that are split, merged and copied: what becomes of the hand, and that the whole stays as it is.
use Rattle.std.specs.Prelude.{◌≡◌, ◌≢◌, ℕ, ℤ, pos, ◌+ℤ◌, ◌-ℤ◌, ◌≤ℤ◌, List, [], ◌∷◌, ◌++◌, Bool, true, false, nat_eq, if◌then◌else◌, Some}
use Rattle.sync_machine.specs.declared.fields.Field.{Field}
use Rattle.sync_base.specs.declared.strategies.Strategy.{Strategy}
use Rattle.sync_base.specs.declared.strategies.Strategy.TheVariants.{Variable, Constant, NotTokenized, Option as OptionField, Map, Set, Multiset, Count, PersistentOption, PersistentMap, PersistentSet, PersistentCount, StorageMap}
use Rattle.sync_machine.specs.States.{strategy_at}
use Rattle.sync_join.specs.declared.tokens.Token.{Token}
use Rattle.sync_join.specs.Shards.{Kept, AreSoundShards}
use Rattle.sync_join.specs.Join.{join_of}
use Rattle.sync_machine.specs.declared.machine.Machine.{Machine}
use Rattle.sync_exchange.specs.declared.hands.Hand.{Hand}
use Rattle.sync_exchange.specs.declared.hands.Held.{Held}
use Rattle.sync_exchange.specs.Exchange.{held_as, tokens_in}

-- another token in the place of the one of this name
abbrev pub replaced : ℕ → Held → List Held → List Held
replaced name new [] = []
replaced name new (h ∷ hs) = if nat_eq name h.name then new ∷ hs else h ∷ replaced name new hs

-- all but the one of this name
abbrev pub dropped : ℕ → List Held → List Held
dropped name [] = []
dropped name (h ∷ hs) = if nat_eq name h.name then hs else h ∷ dropped name hs

-- a token with another name and another value
abbrev pub held : ℕ → Token → ℤ → Held
held name t n = record { name = name; token = record { field = t.field; key = t.key; value = n } }

-- A token of a count is split: the amount takes its place, and the rest comes last.
abbrev pub split_of : ℕ → Token → ℤ → ℕ → ℕ → List Held → List Held
split_of name t amount first second hs = replaced name (held first t amount) hs ++ held second t (t.value -ℤ amount) ∷ []

-- Two tokens of a count become one with their sum, in the place of the first of them.
abbrev pub merged_of : ℕ → Token → ℕ → Token → ℕ → List Held → List Held
merged_of a t b u into hs = replaced a (held into t (t.value +ℤ u.value)) (dropped b hs)

-- An equal token comes last.
abbrev pub copied_of : Token → ℕ → List Held → List Held
copied_of t new hs = hs ++ held new t t.value ∷ []

-- what holds of the token of a name, if there is one, and of those of two names
abbrev pub OfHeld : List Held → ℕ → (Token → Type 0) → Type 0
OfHeld hs name P = (t : Token) → held_as name hs ≡ Some t → P t

abbrev pub OfBoth : List Held → ℕ → ℕ → (Token → Token → Type 0) → Type 0
OfBoth hs a b P = (t u : Token) → held_as a hs ≡ Some t → held_as b hs ≡ Some u → P t u

-- there is a token of this name
abbrev pub IsHeld : List Held → ℕ → Type 0
IsHeld hs name = (t : Token) × (held_as name hs ≡ Some t)

-- ---- the whole stays as it is

-- Whatever the others hold and whatever is kept: sound shards stay sound, and make the same state.
abbrev pub KeepsShards : List Field → List Held → List Held → Type 0
KeepsShards fs old new = (others : List Token) (kept : Kept) → AreSoundShards fs (tokens_in old ++ others) kept
    → AreSoundShards fs (tokens_in new ++ others) kept × (join_of fs (tokens_in new ++ others) kept ≡ join_of fs (tokens_in old ++ others) kept)

-- the whole of one hand and of another
abbrev pub KeepsHand : Machine → Hand → Hand → Type 0
KeepsHand m old new = KeepsShards m.fields old.held new.held

abbrev pub is_persistent : Strategy → Bool
is_persistent PersistentOption = true
is_persistent PersistentMap = true
is_persistent PersistentSet = true
is_persistent PersistentCount = true
is_persistent Variable = false
is_persistent Constant = false
is_persistent NotTokenized = false
is_persistent OptionField = false
is_persistent Map = false
is_persistent Set = false
is_persistent Multiset = false
is_persistent Count = false
is_persistent StorageMap = false

abbrev pub SplitKeeps : Type 0
SplitKeeps = (fs : List Field) (hs : List Held) (name : ℕ) (t : Token) → held_as name hs ≡ Some t → strategy_at fs t.field ≡ Count
    → (amount : ℤ) → pos 0 ≤ℤ amount → amount ≤ℤ t.value → (first second : ℕ) → KeepsShards fs hs (split_of name t amount first second hs)

abbrev pub MergeKeeps : Type 0
MergeKeeps = (fs : List Field) (hs : List Held) (a b : ℕ) (t u : Token) → a ≢ b → held_as a hs ≡ Some t → held_as b hs ≡ Some u
    → u.field ≡ t.field → strategy_at fs t.field ≡ Count → (into : ℕ) → KeepsShards fs hs (merged_of a t b u into hs)

abbrev pub CopyKeeps : Type 0
CopyKeeps = (fs : List Field) (hs : List Held) (name : ℕ) (t : Token) → held_as name hs ≡ Some t → is_persistent (strategy_at fs t.field) ≡ true
    → (new : ℕ) → KeepsShards fs hs (copied_of t new hs)
