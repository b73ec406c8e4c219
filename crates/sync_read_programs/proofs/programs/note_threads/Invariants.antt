use Rattle.std.proofs.Common.{◌≡◌, drop}
use Rattle.sync_read_programs.specs.Programs.{threads_noted}
use Rattle.sync_read_programs.proofs.programs.note_threads.Given as goal

abbrev pub invariant-loop-number : goal.invariant-loop-number
invariant-loop-number l = threads_noted l.number l.scope (drop l.number l.raw) ≡ threads_noted 0 l.initial.scope l.raw
