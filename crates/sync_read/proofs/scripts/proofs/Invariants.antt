use Rattle.std.proofs.Common.{◌≡◌, drop, [], map}
use Rattle.sync_terms.specs.Stored.{Stored, Extends}
use Rattle.sync_terms.specs.Proofs.{proof_in as stored_proof}
use Rattle.sync_read.specs.Scripts.{proofs_from}
use Rattle.sync_read.proofs.scripts.proofs.Given as goal

abbrev pub invariant-loop-p : goal.invariant-loop-p
invariant-loop-p l =
    ((t : Stored) → Extends l.terms t → proofs_from (map (stored_proof t) l.held) l.scope (drop l.p-index l.raw) ≡ proofs_from [] l.initial.scope l.raw)
    × Extends l.initial.terms l.terms
