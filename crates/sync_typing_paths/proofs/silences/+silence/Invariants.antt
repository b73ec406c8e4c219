use Rattle.sync_typing_paths.specs.Statements.{silent_of}
use Rattle.sync_typing_paths.proofs.Walks.{HasFound}
use Rattle.sync_typing_paths.proofs.silences.+silence.Given as goal

abbrev pub invariant-silent_jumps-loop-stmt : goal.invariant-silent_jumps-loop-stmt
invariant-silent_jumps-loop-stmt l = HasFound (silent_of l.found) l.stmt-index l.stmt-items
