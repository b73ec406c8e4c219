-- The canonical lexemes of programs: expressions and scripts as they are shown in machines, all else by the productions.
use Rattle.std.specs.Prelude.{List, map, ◌++◌}
use Rattle.sync_lex.specs.declared.signs.Sign.TheVariants as sign
use Rattle.sync_parse_forms.specs.Lexemes as lexeme
use Rattle.sync_parse_forms.specs.Lexemes.{Lexeme}
use Rattle.sync_parse_forms.specs.Shows.{show, show_nested}
use Rattle.sync_parse_programs.specs.declared.statements.RawStatement.{RawStatement}
use Rattle.sync_parse_programs.specs.Known.{Known, an_expr, a_script, Production}
use Rattle.sync_parse_programs.specs.Statements.{statement}
use Rattle.sync_print.specs.Exprs.{plain}
use Rattle.sync_print.specs.Scripts.{plain_block}
use Rattle.sync_print.specs.Lexemes as machine
use Rattle.sync_print.specs.Lexemes.{one}
use Rattle.sync_print.specs.ShowExprs.{show_expr}
use Rattle.sync_print.specs.ShowScripts.{show_block}
use Rattle.sync_print_programs.specs.Sizes.{statement_size}

-- a lexeme of a machine among those of a program
abbrev pub as_shown : machine.Lexeme → Lexeme
as_shown (machine.a_sign s) = lexeme.a_sign s
as_shown (machine.a_number n) = lexeme.a_number n
as_shown (machine.a_name x) = lexeme.a_name x
as_shown (machine.a_strategy s) = lexeme.a_strategy s

abbrev pub known_shown : (X : Type 0) → Known X → X → List Lexeme
known_shown X an_expr e = map as_shown (show_expr (plain e))
known_shown X a_script s = map as_shown (one sign.By ++ show_block (plain_block s.block))

-- a statement, with all statements in its braces
unfoldable pub shown_statement : RawStatement → List Lexeme
shown_statement = show_nested known_shown statement_size statement

-- what a production spells, in its canonical form
abbrev pub show_of : {A : Type 0} → Production A → A → List Lexeme
show_of c x = show known_shown shown_statement c x
