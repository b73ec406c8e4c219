-- What is known of statements, and so of every production of programs.
use Rattle.std.proofs.Common.{◌≡◌, ℕ, suc, Bool, true, false, List, subst}
use Rattle.sync_parse_forms.specs.Deciding.{decided, first, solid}
use Rattle.sync_parse_forms.proofs.Forms.{Form, form}
use Rattle.sync_parse_forms.proofs.Bundle.{IsForm}
use Rattle.sync_parse_forms.proofs.Nesting.{Nests, nested_form}
use Rattle.sync_parse_forms.proofs.Coded.{coded}
use Rattle.sync_parse_programs.specs.declared.statements.RawStatement.{RawStatement}
use Rattle.sync_parse_programs.specs.Known.{Production}
use Rattle.sync_parse_programs.specs.Statements.{statement}
use Rattle.sync_parse_programs.specs.Programs.{statement_at, read}
use Rattle.sync_parse_programs.specs.Begun.{begun, begins_statement, behind_statement}
use Rattle.sync_parse_programs.proofs.Decided.{statement_decided, statement_first, statement_solid}
use Rattle.sync_parse_texts.specs.SpelledPrograms.{AStatement, Spells}
use Rattle.sync_parse_texts.proofs.Leaves.{known_form, known_law}

step : (s : Bool) (n : ℕ) (g h : Form RawStatement) → IsForm s n true begins_statement behind_statement g h → IsForm s (suc n) true begins_statement behind_statement (form known_form g statement) (form known_form h statement)
step s n g h known =
    subst (λ b. IsForm s (suc n) b begins_statement behind_statement (form known_form g statement) (form known_form h statement)) statement_solid
    (subst (λ p. IsForm s (suc n) (solid statement) p behind_statement (form known_form g statement) (form known_form h statement)) statement_first
    (coded known_form begun known_law begins_statement behind_statement g h known false statement behind_statement statement_decided))

statements_nest : Nests begins_statement behind_statement known_form statement
statements_nest = record { step = step }

abbrev statements : Form RawStatement
statements = record { spelled = AStatement; read = statement_at }

statements_known : {s : Bool} {n : ℕ} → IsForm s n true begins_statement behind_statement statements statements
unfolding AStatement statement_at
statements_known = nested_form statements_nest

-- how a production is read, with what it spells
abbrev pub formed : {A : Type 0} → Production A → Form A
formed c = record { spelled = Spells c; read = read c }

-- all that is known of a production, where one of q follows
pub known : {A : Type 0} {s : Bool} {n : ℕ} (c : Production A) (q : List ℕ) → decided begun begins_statement behind_statement true c q ≡ true → IsForm s n (solid c) (first begun.first begins_statement c q) q (formed c) (formed c)
known c q h = coded known_form begun known_law begins_statement behind_statement statements statements statements_known true c q h
