-- The shards of a state: a bag of tokens, and what is kept beside them.
use Rattle.std.specs.Prelude.{◌≡◌, ℕ, suc, pos, ◌<◌, ◌≤ℤ◌, List, [], ◌∷◌, length, Bool, true, false, ◌&&◌, nat_eq, if◌then◌else◌, ◌⊎◌}
use Rattle.std.specs.List.{AllByRecursion}
use Rattle.std.specs.Ordering.{int_eq}
use Rattle.sync_machine.specs.declared.fields.Field.{Field}
use Rattle.sync_base.specs.declared.strategies.Strategy.{Strategy}
use Rattle.sync_base.specs.declared.strategies.Strategy.TheVariants.{Variable, Constant, NotTokenized, Option as OptionField, Map, Set, Multiset, Count, PersistentOption, PersistentMap, PersistentSet, PersistentCount, StorageMap}
use Rattle.sync_machine.specs.States.{Value, Number, Mapped, Sort, Numbers, Maps, sort_of, strategy_at}
use Rattle.sync_join.specs.declared.tokens.Token.{Token}

-- the field of a permission
abbrev pub perm : ℕ
perm = 4294967295

-- What is kept beside the tokens: a record for each field, and the stored permissions. A stored permission has its
-- storage field as field, the cell's number as key and the cell's content as value.
pub record Kept : Type 0 where
  pub records : List Value
  pub stored : List Token

-- the same token, and how often a token stands in a list
abbrev pub is_same_token : Token → Token → Bool
is_same_token t u = nat_eq t.field u.field && (int_eq t.key u.key && int_eq t.value u.value)

abbrev pub often : Token → List Token → ℕ
often t [] = 0
often t (u ∷ us) = if is_same_token t u then suc (often t us) else often t us

-- the strategies whose fields have tokens; the values of the others are kept
abbrev pub has_tokens : Strategy → Bool
has_tokens Variable = true
has_tokens OptionField = true
has_tokens Map = true
has_tokens Set = true
has_tokens Multiset = true
has_tokens Count = true
has_tokens PersistentOption = true
has_tokens PersistentMap = true
has_tokens PersistentSet = true
has_tokens PersistentCount = true
has_tokens Constant = false
has_tokens NotTokenized = false
has_tokens StorageMap = false

-- the strategies whose tokens have keys
abbrev pub has_keys : Strategy → Bool
has_keys Map = true
has_keys Set = true
has_keys Multiset = true
has_keys PersistentMap = true
has_keys PersistentSet = true
has_keys StorageMap = true
has_keys Variable = false
has_keys Constant = false
has_keys NotTokenized = false
has_keys OptionField = false
has_keys Count = false
has_keys PersistentOption = false
has_keys PersistentCount = false

-- the strategies whose tokens are elements, which are their keys alone
abbrev pub has_elements : Strategy → Bool
has_elements Set = true
has_elements Multiset = true
has_elements PersistentSet = true
has_elements Variable = false
has_elements Constant = false
has_elements NotTokenized = false
has_elements OptionField = false
has_elements Map = false
has_elements Count = false
has_elements PersistentOption = false
has_elements PersistentMap = false
has_elements PersistentCount = false
has_elements StorageMap = false

-- A token of a field of this strategy: the strategy has tokens; the key is 0 where it has no keys; the value of an
-- element is 1.
pub record IsTokenOf (s : Strategy) (t : Token) : Type 0 where
  pub tokens : has_tokens s ≡ true
  pub keys : has_keys s ≡ false → t.key ≡ pos 0
  pub elements : has_elements s ≡ true → t.value ≡ pos 1

-- a permission, or a token of a declared field
abbrev pub IsToken : List Field → Token → Type 0
IsToken fs t = (t.field ≡ perm) ⊎ ((t.field < length fs) × IsTokenOf (strategy_at fs t.field) t)

-- a value of a sort
abbrev pub IsOf : Sort → Value → Type 0
IsOf Numbers (Number n) = Unit {0}
IsOf Maps (Mapped m) = Unit {0}
IsOf Numbers (Mapped m) = ⊥
IsOf Maps (Number n) = ⊥

-- a record for each field, of its sort
abbrev pub AreRecords : List Field → List Value → Type 0
AreRecords [] [] = Unit {0}
AreRecords (f ∷ fs) (v ∷ vs) = IsOf (sort_of f.strategy) v × AreRecords fs vs
AreRecords [] (v ∷ vs) = ⊥
AreRecords (f ∷ fs) [] = ⊥

-- The tokens are of fields that have tokens, or permissions; each record has its field's sort; what is stored is
-- stored in storage fields (a field that is not there is none).
pub record IsShaped (fs : List Field) (bag : List Token) (kept : Kept) : Type 0 where
  pub tokens : AllByRecursion (IsToken fs) bag
  pub records : AreRecords fs kept.records
  pub stored : AllByRecursion (λ (t : Token). strategy_at fs t.field ≡ StorageMap) kept.stored

-- besides, no amount of a count is negative
pub record AreSoundShards (fs : List Field) (bag : List Token) (kept : Kept) : Type 0 where
  pub shaped : IsShaped fs bag kept
  pub natural : AllByRecursion (λ (t : Token). strategy_at fs t.field ≡ Count → pos 0 ≤ℤ t.value) bag
