-- What clauses say of a seat and a table.
use Rattle.std.specs.Prelude.{◌≡◌}
use Rattle.sync_words.specs.declared.rule.View.{View}
use Rattle.sync_words.specs.declared.seat.Seat.{Seat}
use Rattle.sync_words.specs.declared.words.Words.{Words}

-- what the seat knows
abbrev pub view : Seat → View
view seat = seat.token.me.0

-- the seat is one of the table's
abbrev pub Belongs : Words → Seat → Type 0
Belongs words seat =
    (seat.token.table_id ≡ words.table.shared.table_id) × ((view seat).words ≡ words.table.shared.key.words.items)
    × ((view seat).threads ≡ words.table.shared.key.threads)
