use Rattle.std.proofs.Common.{◌≡◌, Result, Ok, Err, ap, ◌∙◌}
use Rattle.sync_base.specs.declared.stops.Stop.{Stop}
use Rattle.sync_base.specs.declared.stops.Stop.TheVariants.{Refused, Memory}
use Rattle.sync_base.specs.Outcome.{◌>>=◌, Gives}
use Rattle.sync_terms.specs.Stored.{Stored}
use Rattle.sync_parse_programs.specs.declared.proof_statements.RawMove.{RawMove}
use Rattle.sync_parse_programs.specs.declared.proof_statements.RawPlainProof.{RawPlainProof}
use Rattle.sync_parse_programs.specs.declared.proof_statements.RawPlainProof.TheVariants as plain
use Rattle.sync_thread.specs.declared.program.ProofKind.{ProofKind}
use Rattle.sync_thread.specs.Views.{proof_tree}
use Rattle.sync_read_programs.specs.declared.scopes.ProgramScope.{ProgramScope}
use Rattle.sync_read_programs.specs.ProofStatements.{move_in, plain_in}
use Rattle.sync_read_programs.proofs.proof_statements.plain.Goals as goal

moved : (t : Stored) (s : ProgramScope) (m : RawMove) (x : RawPlainProof) (r : Result ProofKind Stop) → x ≡ plain.Move m → Gives (proof_tree t) r (move_in s m) → Gives (λ y. (proof_tree t y, s)) r (plain_in s x)
unfolding plain_in
moved t s m x (Ok y) is h = ap (plain_in s) is ∙ ap (λ y. y >>= (λ p. Ok (p, s))) h
moved t s m x (Err Memory) is h = tt
moved t s m x (Err (Refused q)) is h = ap (plain_in s) is ∙ ap (λ y. y >>= (λ p. Ok (p, s))) h

pub returns-in-Move-clause-exact : goal.returns-in-Move-clause-exact
returns-in-Move-clause-exact c t more = moved t c.args.scope.now c.in-Move.x c.args.raw.now c.move_kind.result c.in-Move.is (c.move_kind.ensures t)
