use Rattle.std.proofs.Common.{◌≡◌, drop, [], map}
use Rattle.sync_terms.specs.Stored.{Stored, Extends}
use Rattle.sync_thread.specs.Views.{proof_step_tree}
use Rattle.sync_read_programs.specs.ProofStatements.{proof_steps_from}
use Rattle.sync_read_programs.proofs.proof_statements.proof_steps.Given as goal

abbrev pub invariant-loop-x : goal.invariant-loop-x
invariant-loop-x l =
    ((t : Stored) → Extends l.terms t → proof_steps_from l.counts (map (proof_step_tree t) l.held) l.scope (drop l.x-index l.raw) ≡ proof_steps_from l.counts [] l.initial.scope l.raw)
    × Extends l.initial.terms l.terms
