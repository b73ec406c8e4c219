-- What the productions of programs spell.
use Rattle.sync_parse_forms.specs.Relations as forms
use Rattle.sync_parse_forms.specs.Spellings.{spelling, spelling_nested}
use Rattle.sync_parse_grammar.specs.Expressions.{AnExpr}
use Rattle.sync_parse_grammar.specs.Scripts.{Script}
use Rattle.sync_parse_programs.specs.declared.statements.RawStatement.{RawStatement}
use Rattle.sync_parse_programs.specs.Known.{Known, an_expr, a_script, Production}
use Rattle.sync_parse_programs.specs.Statements.{statement}

abbrev pub known_spelled : (X : Type 0) → Known X → forms.Spelled X
known_spelled X an_expr = AnExpr
known_spelled X a_script = Script

-- a statement, with statements in its braces to any depth
unfoldable pub AStatement : forms.Spelled RawStatement
AStatement = spelling_nested known_spelled statement

-- what a production spells
abbrev pub Spells : {A : Type 0} → Production A → forms.Spelled A
Spells c = spelling known_spelled AStatement c
