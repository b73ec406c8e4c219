-- What a call takes from a source and gives to a sink.
use Rattle.std.specs.Prelude.{◌≡◌, ℕ, ◌+◌, ◌<◌, ◌≤◌, ◌⊎◌, List, [], length, take, Option, Some, None}
use Rattle.sync_base.specs.Outside.{gained}
use Rattle.sync_base.specs.Limits.{longest_text}

-- the text is what the source told, where it told that
abbrev pub IsTold : Option (List ℕ) → List ℕ → Type 0
IsTold None text = Unit {0}
IsTold (Some bytes) text = text ≡ bytes

-- Where the source tells its bytes, none is left, or more were taken than a text may have. A source that tells goes on to tell.
abbrev pub IsReadOut : Option (List ℕ) → Option (List ℕ) → Type 0
IsReadOut None left = Unit {0}
IsReadOut (Some told) None = ⊥
IsReadOut (Some told) (Some left) = (left ≡ []) ⊎ (longest_text + length left < length told)

-- a sink got a part of the text, and not all of it
abbrev pub GainsPart : Option (List ℕ) → Option (List ℕ) → List ℕ → Type 0
GainsPart old new text = (count : ℕ) × (count < length text) × (new ≡ gained old (take count text))

-- nothing is left of what is told
abbrev pub IsAtEnd : Option (List ℕ) → Type 0
IsAtEnd None = Unit {0}
IsAtEnd (Some left) = left ≡ []

-- at most so many bytes were taken of those that a source tells. A source that tells goes on to tell
abbrev pub TakesAtMost : ℕ → Option (List ℕ) → Option (List ℕ) → Type 0
TakesAtMost most None left = Unit {0}
TakesAtMost most (Some told) None = ⊥
TakesAtMost most (Some told) (Some left) = length told ≤ most + length left

-- no more was taken than one byte beyond what a text may have
abbrev pub TakesInBounds : Option (List ℕ) → Option (List ℕ) → Type 0
TakesInBounds told left = TakesAtMost (longest_text + 1) told left

-- The texts were not gained whole: `out` got a part of its own and `err` nothing, or `out` got all of its own and
-- `err` a part of its own.
abbrev pub IsCutShort : Option (List ℕ) → Option (List ℕ) → List ℕ → Option (List ℕ) → Option (List ℕ) → List ℕ → Type 0
IsCutShort out out' out_text err err' err_text =
    (GainsPart out out' out_text × (err' ≡ err)) ⊎ ((out' ≡ gained out out_text) × GainsPart err err' err_text)
