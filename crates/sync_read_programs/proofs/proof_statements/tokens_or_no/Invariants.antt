use Rattle.std.proofs.Common.{◌≡◌, drop, []}
use Rattle.sync_read_programs.specs.ProofStatements.{tokens_or_no_from}
use Rattle.sync_read_programs.proofs.proof_statements.tokens_or_no.Given as goal

abbrev pub invariant-loop-x : goal.invariant-loop-x
invariant-loop-x l = tokens_or_no_from l.held l.scope (drop l.x-index l.raw) ≡ tokens_or_no_from [] l.scope l.raw
