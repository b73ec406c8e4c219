use Rattle.std.proofs.Common.{ap}
use Rattle.std.proofs.lemmas.Result.{err_from_is_err_and}
use Rattle.sync_terms.specs.Plans.{plan_of}
use Rattle.sync_read_names.specs.declared.scopes.Owner.{Owner}
use Rattle.sync_read_names.specs.declared.scopes.Owner.TheVariants.{Operation}
use Rattle.sync_read_names.specs.declared.scopes.Scope.{Scope}
use Rattle.sync_read.proofs.Whole.{gives_stop, proof_made, proof_stops}
use Rattle.sync_read.proofs.scripts.proof.Goals as goal

abbrev at_claim : Scope → Owner → Owner → Scope
at_claim s o claim = record { meanings = s.meanings; owners = s.owners; owner = o; claim = claim; sight = s.sight }

pub returns-in_err-block-clause-exact : goal.returns-in_err-block-clause-exact
returns-in_err-block-clause-exact c t more =
    let s = c.args.scope.now in
    let p = err_from_is_err_and c.from_residual-in_err-block.result c.from_residual-in_err-block.ensures.1 in
    gives_stop _ c.from_residual-in_err-block.result c.in_err-block.field-0.0 _ (cc)
    (proof_stops c.in_err-block.field-0.0 c.args.before s (at_claim s (Operation c.in_ok-op.op) c.claim_owner-scope.result) c.args.raw.now c.in_ok-op.op c.in_ok-few_before.field-0 c.in_ok-claim.claim
    c.in_ok-op.ensures c.in_ok-claim.ensures c.in_ok-few_before.ensures (ap (at_claim s (Operation c.in_ok-op.op)) c.claim_owner-scope.ensures) (c.in_err-block.ensures.exact t more))

pub returns-clause-exact : goal.returns-clause-exact
returns-clause-exact c t more =
    let s = c.args.scope.now in
    proof_made c.args.before s (at_claim s (Operation c.in_ok-op.op) c.claim_owner-scope.result) c.args.raw.now c.in_ok-op.op c.in_ok-few_before.field-0 c.in_ok-claim.claim (plan_of t c.in_ok-block.block)
    c.in_ok-op.ensures c.in_ok-claim.ensures c.in_ok-few_before.ensures (ap (at_claim s (Operation c.in_ok-op.op)) c.claim_owner-scope.ensures) (c.in_ok-block.ensures.exact t more)
