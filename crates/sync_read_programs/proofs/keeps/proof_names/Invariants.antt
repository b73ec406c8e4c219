use Rattle.std.proofs.Common.{◌≡◌, drop, []}
use Rattle.sync_read_programs.specs.Keeps.{proof_names_from}
use Rattle.sync_read_programs.proofs.keeps.proof_names.Given as goal

abbrev pub invariant-loop-named : goal.invariant-loop-named
invariant-loop-named l = proof_names_from l.ends l.held l.scope (drop l.named-index l.raw) ≡ proof_names_from l.ends [] l.initial.scope l.raw
