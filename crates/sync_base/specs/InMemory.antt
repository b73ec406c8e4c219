-- Sources and sinks in memory, that fail at chosen calls.
use Rattle.std.specs.Prelude.{ℕ, ◌+◌, ◌-◌, ◌^◌, ◌==◌, if◌then◌else◌, List, ◌++◌, drop, Contains}

-- a count of 64 bits after one more; it stays at its last value
abbrev pub risen : ℕ → ℕ
risen n = if n == 2 ^ 64 - 1 then n else n + 1

-- after so many calls, the next one is to fail
abbrev pub FailsNext : List ℕ → ℕ → Type 0
FailsNext failing calls = Contains failing (risen calls)

-- a source: the bytes to come, the numbers of the calls that fail, and the counts of calls and faults
pub record Input : Type 0 where
  pub left : List ℕ
  pub failing : List ℕ
  pub calls : ℕ
  pub faults : ℕ

-- after a call that gave so many bytes
abbrev pub input_after : Input → ℕ → Input
input_after s count = record s { left = drop count s.left; calls = risen s.calls }

-- after a call that failed
abbrev pub input_faulted : Input → Input
input_faulted s = record s { calls = risen s.calls; faults = risen s.faults }

-- a sink: the bytes it got, how many it has room for, the numbers of the calls that fail, and the counts
pub record Output : Type 0 where
  pub got : List ℕ
  pub room : ℕ
  pub failing : List ℕ
  pub calls : ℕ
  pub faults : ℕ

-- after a call that took these bytes
abbrev pub output_after : Output → List ℕ → Output
output_after s bytes = record s { got = s.got ++ bytes; calls = risen s.calls }

-- after a call that failed
abbrev pub output_faulted : Output → Output
output_faulted s = record s { calls = risen s.calls; faults = risen s.faults }
