-- What reading a program says of what it spells.
use Rattle.std.proofs.Common.{ℕ, suc, true, [], ◌∷◌, Ok, Err, refl, arith}
use Rattle.sync_parse_exprs.specs.declared.faults.Fault.TheVariants as fault
use Rattle.sync_parse_exprs.specs.Terminals.{Read}
use Rattle.sync_parse_forms.proofs.Bundle.{IsForm}
use Rattle.sync_parse_forms.proofs.Completes.{Met}
use Rattle.sync_parse_forms.specs.Deciding.{first, solid}
use Rattle.sync_parse_programs.specs.Programs.{program, read}
use Rattle.sync_parse_programs.specs.Begun.{begun, begins_statement}
use Rattle.sync_parse_programs.proofs.Decided.{program_decided}
use Rattle.sync_parse_texts.specs.Laws.{ReadIsSpelled, GivesOrDeep, SpelledIsRead, OneProgram}
use Rattle.sync_parse_texts.proofs.Statements.{formed, known}

program_known : (n : ℕ) → IsForm true n (solid program) (first begun.first begins_statement program (0 ∷ [])) (0 ∷ []) (formed program) (formed program)
program_known n = known program (0 ∷ []) program_decided

pub read_is_spelled : ReadIsSpelled
read_is_spelled left ts rest x e = ((program_known 0).sound tt left ts).holds x rest e

met : {A : Type 0} (r : Read A) (x : A) → Met r (x, []) → GivesOrDeep r x
met (Ok v) x h = h.is
met (Err (fault.Deep line)) x h = tt
met (Err (fault.Version line)) x h = h.is
met (Err fault.Ended) x h = h.is
met (Err (fault.Wanted line)) x h = h.is
met (Err (fault.Unbuilt line)) x h = h.is

pub spelled_is_read : SpelledIsRead
spelled_is_read left ts x d = met (read program left ts) x (((program_known (suc left)).complete left (omega arith) ts).at x [] d refl)

pub one_program : OneProgram
one_program ts one other d e = ((program_known 0).clear.at ts ts [] [] one other d e refl refl refl).1
