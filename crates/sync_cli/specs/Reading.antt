-- How reading goes on and why it stops.
use Rattle.std.specs.Prelude.{◌≡◌, ℕ, ◌++◌, List, length, Option, Result, Ok, Err}
use Rattle.sync_base.specs.Outside.{Rose, GivesFront, EndsAt}
use Rattle.sync_cli.specs.declared.reading.ReadStop.{ReadStop}
use Rattle.sync_cli.specs.declared.reading.ReadStop.TheVariants.{Fault, Memory}

-- the count of faults rose where the reading stopped for a fault, and stands elsewhere
abbrev pub IsSoundUnlessFault : {A : Type 0} → Result A ReadStop → ℕ → ℕ → Type 0
IsSoundUnlessFault (Ok x) old new = new ≡ old
IsSoundUnlessFault (Err Memory) old new = new ≡ old
IsSoundUnlessFault (Err Fault) old new = Rose old new

-- so many bytes came from the source and stand behind the text
abbrev pub GivesPiece : Option (List ℕ) → Option (List ℕ) → List ℕ → List ℕ → ℕ → Type 0
GivesPiece left left' text text' count =
    (piece : List ℕ) × (length piece ≡ count) × (text' ≡ text ++ piece) × GivesFront left left' piece × EndsAt left count
