-- How strategies are written.
use Rattle.std.specs.Prelude.{ℕ, List, [], ◌∷◌, Option, codes}
use Rattle.std.specs.List.{find}
use Rattle.std.specs.Str.{bytes_eq}
use Rattle.sync_base.specs.declared.strategies.Strategy.{Strategy}
use Rattle.sync_base.specs.declared.strategies.Strategy.TheVariants as strategy

unfoldable pub spelling_of : Strategy → List ℕ
spelling_of strategy.Variable = codes "variable"
spelling_of strategy.Constant = codes "constant"
spelling_of strategy.NotTokenized = codes "not_tokenized"
spelling_of strategy.Option = codes "option"
spelling_of strategy.Map = codes "map"
spelling_of strategy.Set = codes "set"
spelling_of strategy.Multiset = codes "multiset"
spelling_of strategy.Count = codes "count"
spelling_of strategy.PersistentOption = codes "persistent_option"
spelling_of strategy.PersistentMap = codes "persistent_map"
spelling_of strategy.PersistentSet = codes "persistent_set"
spelling_of strategy.PersistentCount = codes "persistent_count"
spelling_of strategy.StorageMap = codes "storage_map"

abbrev pub strategies : List Strategy
strategies = strategy.Variable ∷ strategy.Constant ∷ strategy.NotTokenized ∷ strategy.Option ∷ strategy.Map ∷ strategy.Set ∷ strategy.Multiset ∷ strategy.Count ∷ strategy.PersistentOption ∷ strategy.PersistentMap ∷ strategy.PersistentSet ∷ strategy.PersistentCount ∷ strategy.StorageMap ∷ []

-- the strategy that is written so
unfoldable pub strategy_of : List ℕ → Option Strategy
strategy_of bytes = find (λ s. bytes_eq (spelling_of s) bytes) strategies
