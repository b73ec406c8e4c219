-- How names are spelled.
use Rattle.std.specs.Prelude.{ℕ, List, [], slice_get}
use Rattle.std.specs.Option.{option_map_or}
use Rattle.sync_base.specs.declared.names.Name.{Name}
use Rattle.sync_base.specs.declared.names.NameList.{NameList}

-- how the name with this number is spelled; a number that no name has is spelled by no byte
abbrev pub spelling : NameList → ℕ → List ℕ
spelling names number = option_map_or (λ (n : Name). n.bytes) (slice_get names.list number) []
