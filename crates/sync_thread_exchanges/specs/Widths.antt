-- A state that fits to threads is one within the bound to the laws of width.
use Rattle.std.specs.Prelude.{◌≡◌, ◌↔◌, true, List, Some}
use Rattle.std.specs.List.{AllByRecursion}
use Rattle.sync_entries.specs.Narrow.{is_narrow}
use Rattle.sync_machine.specs.declared.fields.Field.{Field}
use Rattle.sync_machine.specs.States.{State}
use Rattle.sync_join.specs.declared.tokens.Token.{Token}
use Rattle.sync_join.specs.Shards.{Kept, AreSoundShards}
use Rattle.sync_join.specs.Join.{join_of}
use Rattle.sync_join.specs.Widths.{AreNarrow}
use Rattle.sync_exchange_laws.specs.Widths.{IsWithin, AreWithin}
use Rattle.sync_thread_meaning.specs.Exchanges.{state_fits}

-- It fits exactly where each of its numbers is within signed 128 bits.
abbrev pub FitsAgree : Type 0
FitsAgree = (s : State) → (state_fits is_narrow s ≡ true) ↔ AllByRecursion IsWithin s

-- So the joined state fits exactly where each partial sum of a count does, where tokens, records and stored objects are
-- within the bound.
abbrev pub JoinedStatesFit : Type 0
JoinedStatesFit = (fs : List Field) (bag : List Token) (kept : Kept) → AreSoundShards fs bag kept → AreWithin bag kept
    → (s : State) → join_of fs bag kept ≡ Some s → (state_fits is_narrow s ≡ true) ↔ AreNarrow fs bag
