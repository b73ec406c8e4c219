-- Productions of threads and programs, and how each production of programs is read.
use Rattle.std.specs.Prelude.{List, [], ◌∷◌, Option, refl}
use Rattle.sync_lex.specs.declared.signs.Sign.TheVariants as sign
use Rattle.sync_parse_exprs.specs.Terminals.{first_line}
use Rattle.sync_parse_forms.specs.Codes.{Test, at_sign, at_signs, to_brace, a_name, row, node}
use Rattle.sync_parse_forms.specs.Readings.{Levelled, reading, reading_nested}
use Rattle.sync_parse_programs.specs.Known.{Production, known_read, ◌∘◌, ◌▸◌, optional, braces}
use Rattle.sync_parse_programs.specs.ProofStatements.{keep, do_form, declaration, start_statement}
use Rattle.sync_parse_programs.specs.Statements.{list, statement}
use Rattle.sync_parse_programs.specs.declared.statements.RawStatement.{RawStatement}
use Rattle.sync_parse_programs.specs.declared.statements.RawList.{RawList}
use Rattle.sync_parse_programs.specs.declared.statements.RawStart.{RawStart}
use Rattle.sync_parse_programs.specs.declared.statements.RawThread.{RawThread}
use Rattle.sync_parse_programs.specs.declared.statements.RawProgram.{RawProgram}
use Rattle.sync_parse_programs.specs.declared.proof_statements.RawStartStatement.{RawStartStatement}

-- "{" {pstmt | "seal" .. | "give" ..} "}"
unfoldable pub start_block : Production (List RawStartStatement)
start_block = braces (row to_brace start_statement)

-- start = "start" doform "{" {pstmt | "seal" .. | "give" ..} "}"
unfoldable pub start : Production RawStart
start = node (λ ws x. record { form = x.0; statements = x.1; line = first_line ws }) (λ t. (t.form, t.statements)) (λ ws x. refl)
    (sign.Start ▸ do_form ∘ start_block)

-- thread = "thread" NAME keep "ends" keep "{" {stmt} "}"
unfoldable pub thread : Production RawThread
thread = node (λ ws x. record { name = x.0; takes = x.1.0; ends = x.1.1.0; body = x.1.1.1; line = first_line ws }) (λ t. (t.name, (t.takes, (t.ends, t.body)))) (λ ws x. refl)
    (sign.Thread ▸ a_name ∘ keep ∘ sign.Ends ▸ keep ∘ list)

-- final = "final" "{" {stmt} "}"
unfoldable pub final_block : Production RawList
final_block = sign.Final ▸ list

-- [final]
unfoldable pub ended : Production (Option RawList)
ended = optional sign.Final final_block

-- what begins a word or a cell
abbrev pub at_declaration : Test
at_declaration = at_signs (sign.Word ∷ sign.Cell ∷ [])

-- program = "program" "{" {word | cell} start {thread} [final] "}"
unfoldable pub program : Production RawProgram
program = node (λ ws x. record { declarations = x.0; start = x.1.0; threads = x.1.1.0; last = x.1.1.1; line = first_line ws })
    (λ t. (t.declarations, (t.start, (t.threads, t.last)))) (λ ws x. refl)
    (sign.Program ▸ braces (row at_declaration declaration ∘ start ∘ row (at_sign sign.Thread) thread ∘ ended))

-- ---- reading

-- how a statement is read, with statements in its braces to any depth
unfoldable pub statement_at : Levelled RawStatement
statement_at = reading_nested known_read statement

-- how a production is read, at a level
abbrev pub read : {A : Type 0} → Production A → Levelled A
read c = reading known_read statement_at c
