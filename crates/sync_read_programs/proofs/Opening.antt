-- The first step of each list of a program.
use Rattle.std.proofs.Common.{◌≡◌, Bool, List, [], ◌∷◌, ◌++◌, refl}
use Rattle.sync_base.specs.Outcome.{◌>>=◌}
use Rattle.sync_parse.specs.declared.scripts.RawScript.{RawScript}
use Rattle.sync_parse_programs.specs.declared.proof_statements.RawKeepLine.{RawKeepLine}
use Rattle.sync_parse_programs.specs.declared.proof_statements.RawKeepFact.{RawKeepFact}
use Rattle.sync_parse_programs.specs.declared.proof_statements.RawClause.{RawClause}
use Rattle.sync_parse_programs.specs.declared.proof_statements.RawProofStatement.{RawProofStatement}
use Rattle.sync_parse_programs.specs.declared.proof_statements.RawStartStatement.{RawStartStatement}
use Rattle.sync_read_programs.specs.declared.scopes.WordCounts.{WordCounts}
use Rattle.sync_read_programs.specs.ProofStatements.{proof_step, proof_steps_from, start_step, start_steps_from}
use Rattle.sync_thread.specs.Programs.{ProofStepTree, ScriptTree, KeepLineTree, KeepFactTree, ClauseTree}
use Rattle.sync_read_names.specs.declared.scopes.Scope.{Scope}
use Rattle.sync_read_programs.specs.declared.scopes.ProgramScope.{ProgramScope}
use Rattle.sync_read_programs.specs.Operands.{one_script, scripts_from}
use Rattle.sync_read_programs.specs.Keeps.{keep_line, keep_lines_from, keep_fact, keep_facts_from, clause_in, clauses_from}

pub scripts_open : (held : List ScriptTree) (s : ProgramScope) (o : RawScript) (rest : List RawScript) → scripts_from held s (o ∷ rest) ≡ (one_script s o >>= (λ y. scripts_from (held ++ y.0 ∷ []) y.1 rest))
unfolding scripts_from
scripts_open held s o rest = refl

pub keep_lines_open : (ends : Bool) (held : List KeepLineTree) (s : ProgramScope) (o : RawKeepLine) (rest : List RawKeepLine) → keep_lines_from ends held s (o ∷ rest) ≡ (keep_line ends s o >>= (λ y. keep_lines_from ends (held ++ y.0 ∷ []) y.1 rest))
unfolding keep_lines_from
keep_lines_open ends held s o rest = refl

pub keep_facts_open : (s : Scope) (held : List KeepFactTree) (o : RawKeepFact) (rest : List RawKeepFact) → keep_facts_from held s (o ∷ rest) ≡ (keep_fact s o >>= (λ y. keep_facts_from (held ++ y ∷ []) s rest))
unfolding keep_facts_from
keep_facts_open s held o rest = refl

pub clauses_open : (s : ProgramScope) (held : List ClauseTree) (o : RawClause) (rest : List RawClause) → clauses_from held s (o ∷ rest) ≡ (clause_in s o >>= (λ y. clauses_from (held ++ y ∷ []) s rest))
unfolding clauses_from
clauses_open s held o rest = refl

pub proof_steps_open : (w : WordCounts) (held : List ProofStepTree) (s : ProgramScope) (o : RawProofStatement) (rest : List RawProofStatement) → proof_steps_from w held s (o ∷ rest) ≡ (proof_step w s o >>= (λ y. proof_steps_from w (held ++ y.0 ∷ []) y.1 rest))
unfolding proof_steps_from
proof_steps_open w held s o rest = refl

pub start_steps_open : (held : List ProofStepTree) (s : ProgramScope) (o : RawStartStatement) (rest : List RawStartStatement) → start_steps_from held s (o ∷ rest) ≡ (start_step s o >>= (λ y. start_steps_from (held ++ y.0 ∷ []) y.1 rest))
unfolding start_steps_from
start_steps_open held s o rest = refl
