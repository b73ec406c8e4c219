-- Entries under keys, the newest first. A key stands for its newest entry.
use Rattle.std.specs.Prelude.{ℕ, ◌-◌, nat_eq, nat_lt, List, [], ◌∷◌, length, drop, Option, Some, None, if◌then◌else◌}
use Rattle.sync_typing_ledgers.specs.declared.ledgers.Place.{Place}
use Rattle.sync_typing_ledgers.specs.declared.ledgers.Found.{Found}

pub record Entry : Type 0 where
  pub key : ℕ
  pub value : ℕ

-- entries, of which the oldest, so many, are below the floor
pub record Kept : Type 0 where
  pub entries : List Entry
  pub floor : ℕ

-- the newest entry of a key, and the number of entries before it
abbrev pub newest : ℕ → List Entry → Option Place
newest k [] = None
newest k (e ∷ es) = if nat_eq e.key k then Some (record { at = length es; value = e.value }) else newest k es

abbrev pub found_at : ℕ → Place → Found
found_at floor p = record { value = p.value; is_below = nat_lt p.at floor }

-- the oldest entries, so many
abbrev pub oldest : ℕ → List Entry → List Entry
oldest n es = drop (length es - n) es
