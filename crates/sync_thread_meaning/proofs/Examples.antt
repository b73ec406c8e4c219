-- What examples of programs look at: what a schedule leaves, of the program and of its code.
use Rattle.std.specs.Prelude.{ℕ, ℤ, Bool, true, false, List, map, Option, Some, None, Result, Ok, Err}
use Rattle.sync_machine.specs.States.{State}
use Rattle.sync_join.specs.Join.{join_of, number_of}
use Rattle.sync_entries.specs.Narrow.{is_narrow}
use Rattle.sync_thread.specs.declared.operands.Line.{Line}
use Rattle.sync_thread.specs.Control.{Language, Halt, Broken, Wide, Paused, Running, is_waiting}
use Rattle.sync_thread.specs.Code.{Memory, CodeTree, code_language, erased_after}
use Rattle.sync_thread_meaning.specs.MachineWithProgram.{MachineWithProgram, fields_of}
use Rattle.sync_thread_meaning.specs.Moments.{Configuration, after, after_in, bag_in}

abbrev pub lines_in : Memory → List (ℕ × ℕ)
lines_in m = map (λ (l : Line). (l.label, l.value)) m.lines

abbrev pub waiting : {g : Language} → List (Option (Paused g)) → List Bool
waiting ps = map (λ (p : Option (Paused _)). is_waiting (Some p)) ps

abbrev pub seen_in : Result (Running code_language) Halt → Option (List ℕ × List ℕ × List (ℕ × ℕ) × List Bool)
seen_in (Ok c) = Some (c.state.words, c.state.cells, lines_in c.state, waiting c.places)
seen_in (Err h) = None

abbrev pub seen_erased : CodeTree → List ℕ → Option (List ℕ × List ℕ × List (ℕ × ℕ) × List Bool)
seen_erased x sigma = seen_in (erased_after x sigma)

abbrev pub joined_in : Configuration → Option State → Option (List ℕ × List ℕ × List (ℕ × ℕ) × List Bool × List ℤ)
joined_in c (Some s) = Some (
  c.state.memory.words,
  c.state.memory.cells,
  lines_in c.state.memory,
  waiting c.places,
  map number_of s,
)
joined_in c None = None

abbrev pub seen_whole : MachineWithProgram → Result Configuration Halt
    → Option (List ℕ × List ℕ × List (ℕ × ℕ) × List Bool × List ℤ)
seen_whole x (Ok c) = joined_in c (join_of (fields_of x) (bag_in c) c.state.shares.kept)
seen_whole x (Err h) = None

abbrev pub seen : MachineWithProgram → List ℕ → Option (List ℕ × List ℕ × List (ℕ × ℕ) × List Bool × List ℤ)
seen x sigma = seen_whole x (after x sigma)

abbrev pub is_wide : Result Configuration Halt → Bool
is_wide (Ok c) = false
is_wide (Err Wide) = true
is_wide (Err Broken) = false

abbrev pub is_broken : Result Configuration Halt → Bool
is_broken (Ok c) = false
is_broken (Err Wide) = false
is_broken (Err Broken) = true

abbrev pub is_wide_at : MachineWithProgram → List ℕ → Bool
is_wide_at x sigma = is_wide (after_in is_narrow x sigma)

abbrev pub is_broken_at : MachineWithProgram → List ℕ → Bool
is_broken_at x sigma = is_broken (after x sigma)
