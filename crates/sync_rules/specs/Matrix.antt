-- The places of a table with a row for each kind of statement and a column for each strategy.
use Rattle.std.specs.Prelude.{◌≡◌, ℕ, List, [], slice_index, slice_index_or, if◌then◌else◌}
use Rattle.sync_base.specs.declared.strategies.Strategy.{Strategy}
use Rattle.sync_base.specs.declared.strategies.Strategy.TheVariants.{Variable, Constant, NotTokenized, Option as OptionField, Map, Set, Multiset, Count, PersistentOption, PersistentMap, PersistentSet, PersistentCount, StorageMap}
use Rattle.sync_rules.specs.declared.kinds.OpKind.{OpKind}
use Rattle.sync_rules.specs.declared.kinds.OpKind.TheVariants as kinds
use Rattle.sync_rules.specs.Strategies.{has_statement}

abbrev pub row_of : OpKind → ℕ
row_of kinds.Init = 0
row_of kinds.Update = 1
row_of kinds.HaveVariable = 2
row_of kinds.Add = 3
row_of kinds.Remove = 4
row_of kinds.Have = 5
row_of kinds.Deposit = 6
row_of kinds.Withdraw = 7
row_of kinds.Guard = 8

abbrev pub column_of : Strategy → ℕ
column_of Variable = 0
column_of Constant = 1
column_of NotTokenized = 2
column_of OptionField = 3
column_of Map = 4
column_of Set = 5
column_of Multiset = 6
column_of Count = 7
column_of PersistentOption = 8
column_of PersistentMap = 9
column_of PersistentSet = 10
column_of PersistentCount = 11
column_of StorageMap = 12

-- Each of the 9 times 13 entries of these rows: 1 where the strategy has the statement, else 0.
abbrev pub IsMatrix : List (List ℕ) → Type 0
IsMatrix rows = (o : OpKind) (s : Strategy)
    → slice_index (slice_index_or rows (row_of o) []) (column_of s) ≡ (if has_statement s o then 1 else 0)
