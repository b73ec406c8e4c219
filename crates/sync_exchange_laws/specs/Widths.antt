-- Width of shards: sums on the way, and the joined amounts.
use Rattle.std.specs.Prelude.{◌≡◌, ◌↔◌, ◌⊎◌, ℕ, ◌<◌, ◌^◌, true, List, ◌++◌, length, Some, FitsSigned}
use Rattle.std.specs.Int.{w128}
use Rattle.std.specs.List.{AllByRecursion}
use Rattle.sync_entries.specs.Narrow.{is_narrow}
use Rattle.sync_machine.specs.declared.fields.Field.{Field}
use Rattle.sync_base.specs.declared.strategies.Strategy.TheVariants.{Count, Multiset}
use Rattle.sync_machine.specs.States.{Value, Number, Mapped, State, strategy_at}
use Rattle.sync_exchange_values.specs.Fitting.{values_fit}
use Rattle.sync_join.specs.declared.tokens.Token.{Token}
use Rattle.sync_join.specs.Shards.{Kept, AreSoundShards}
use Rattle.sync_join.specs.Join.{tokens_of, sum_of, value_at, join_of}
use Rattle.sync_join.specs.Widths.{AreNarrow}

-- Of sound shards every partial sum stays within signed 128 bits exactly where the joined amount of every count does.
abbrev pub WidthsAgree : Type 0
WidthsAgree = (fs : List Field) (bag : List Token) (kept : Kept) → AreSoundShards fs bag kept
    → AreNarrow fs bag ↔ ((f : ℕ) → strategy_at fs f ≡ Count → FitsSigned w128 (sum_of (tokens_of f bag)))

-- a number, or each value of a map, is within signed 128 bits
abbrev pub IsWithin : Value → Type 0
IsWithin (Number n) = is_narrow n ≡ true
IsWithin (Mapped m) = values_fit is_narrow m ≡ true

-- So is what each front of the bag makes of a field: the sums on the way.
abbrev pub ArePartsWithin : List Field → List Token → Kept → ℕ → Type 0
ArePartsWithin fs bag kept f =
    (front back : List Token) → front ++ back ≡ bag → (w : Value) → value_at fs front kept f ≡ Some w → IsWithin w

-- Of a count and of a multiset, whose tokens add up: a sum on the way is outside exactly where the joined field is.
abbrev pub PartsAgree : Type 0
PartsAgree = (fs : List Field) (bag : List Token) (kept : Kept) → AreSoundShards fs bag kept
    → (f : ℕ) → (strategy_at fs f ≡ Count) ⊎ (strategy_at fs f ≡ Multiset)
    → (w : Value) → value_at fs bag kept f ≡ Some w → ArePartsWithin fs bag kept f ↔ IsWithin w

-- Each number of a token, of a record and of a stored object is within signed 128 bits, and so is the tokens' number.
pub record AreWithin (bag : List Token) (kept : Kept) : Type 0 where
  pub tokens : AllByRecursion (λ (t : Token). FitsSigned w128 t.value) bag
  pub records : AllByRecursion IsWithin kept.records
  pub stored : AllByRecursion (λ (t : Token). FitsSigned w128 t.value) kept.stored
  pub few : length bag < 2 ^ 127

-- Then each joined field is within signed 128 bits exactly where each partial sum of a count is.
abbrev pub StatesFit : Type 0
StatesFit = (fs : List Field) (bag : List Token) (kept : Kept) → AreSoundShards fs bag kept → AreWithin bag kept
    → (s : State) → join_of fs bag kept ≡ Some s → AllByRecursion IsWithin s ↔ AreNarrow fs bag
