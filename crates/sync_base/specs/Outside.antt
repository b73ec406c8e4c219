-- What reads, writes and their counts of faults do.
use Rattle.std.specs.Prelude.{◌≡◌, ℕ, ◌-◌, ◌^◌, ◌≤◌, ◌↔◌, List, [], ◌++◌, Option, Some, None}

-- a count of faults rose, or it stands at the last value of its type
abbrev pub Rose : ℕ → ℕ → Type 0
Rose old new = (old ≤ new) × (old ≡ new → new ≡ 2 ^ 64 - 1)

-- the bytes that were left are these and what is left now; where nothing was told nothing is
abbrev pub GivesFront : Option (List ℕ) → Option (List ℕ) → List ℕ → Type 0
GivesFront None left given = left ≡ None
GivesFront (Some all) left given = (rest : List ℕ) × (all ≡ given ++ rest) × (left ≡ Some rest)

-- no byte was given exactly where none was left
abbrev pub EndsAt : Option (List ℕ) → ℕ → Type 0
EndsAt None count = Unit {0}
EndsAt (Some all) count = (count ≡ 0) ↔ (all ≡ [])

-- both are told, or neither is
abbrev pub TellsAlike : Option (List ℕ) → Option (List ℕ) → Type 0
TellsAlike None new = new ≡ None
TellsAlike (Some old) new = (bytes : List ℕ) × (new ≡ Some bytes)

-- what was told before, with these bytes behind it
abbrev pub gained : Option (List ℕ) → List ℕ → Option (List ℕ)
gained None bytes = None
gained (Some old) bytes = Some (old ++ bytes)
