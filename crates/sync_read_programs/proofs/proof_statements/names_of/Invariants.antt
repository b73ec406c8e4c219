use Rattle.std.proofs.Common.{◌≡◌, ◌++◌, drop, map}
use Rattle.sync_read_programs.specs.Operands.{token_name}
use Rattle.sync_read_programs.proofs.proof_statements.names_of.Given as goal

abbrev pub invariant-loop-named : goal.invariant-loop-named
invariant-loop-named l = (l.held ++ map token_name (drop l.named-index l.raw)) ≡ map token_name l.raw
