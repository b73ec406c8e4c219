use Rattle.std.proofs.Common.{◌≡◌, drop}
use Rattle.sync_read_programs.specs.Programs.{known_again}
use Rattle.sync_read_programs.proofs.programs.know_again.Given as goal

abbrev pub invariant-loop-named : goal.invariant-loop-named
invariant-loop-named l = known_again l.scope (drop l.named-index l.raw) ≡ known_again l.initial.scope l.raw
