-- Terminals that say what is shown of a program spell a program that says the same.
use Rattle.std.proofs.Common.{ℕ, zero, suc, List, [], ◌∷◌, ◌++◌, map, subst}
use Rattle.sync_lex.specs.declared.signs.Sign.TheVariants as sign
use Rattle.sync_lex.specs.declared.terminals.Terminal.{Terminal}
use Rattle.sync_parse.specs.declared.scripts.RawScript.{RawScript}
use Rattle.sync_parse_forms.specs.Lexemes as lexeme
use Rattle.sync_parse_forms.specs.Lexemes.{Lexeme, Says, no_more, one_more}
use Rattle.sync_parse_forms.specs.Spellings.{spelled_levels}
use Rattle.sync_parse_forms.specs.Shows.{FitsLevels, SameLevels}
use Rattle.sync_parse_forms.proofs.Respelled.{Respelled, LeafShown, shown}
use Rattle.sync_parse_grammar.specs.Scripts.{Script}
use Rattle.sync_parse_programs.specs.declared.statements.RawStatement.{RawStatement}
use Rattle.sync_parse_programs.specs.Known.{Known, an_expr, a_script, Production}
use Rattle.sync_parse_programs.specs.Statements.{statement}
use Rattle.sync_parse_texts.specs.SpelledPrograms.{known_spelled, AStatement, Spells}
use Rattle.sync_print.specs.Exprs.{plain}
use Rattle.sync_print.specs.Scripts.{plain_block}
use Rattle.sync_print.specs.Lexemes as machine
use Rattle.sync_print.specs.Lexemes.{one}
use Rattle.sync_print.specs.ShowScripts.{show_block}
use Rattle.sync_print_programs.specs.Shown.{as_shown, known_shown, shown_statement, show_of}
use Rattle.sync_print_programs.specs.Written.{as_printed}
use Rattle.sync_print_programs.proofs.Shrinks.{statement_shown}
use Rattle.sync_print_spelling.specs.Says as spoken
use Rattle.sync_print_spelling.proofs.Terminals as terminals
use Rattle.sync_print_spelling.proofs.Expressions.{exprs}
use Rattle.sync_print_spelling.proofs.Scripts.{blocks}
use Rattle.sync_print_texts.specs.Rereading.{known_same, SameStatement, SayAlike}
use Rattle.sync_print_texts.proofs.ProgramsTold.{known_fits, FitsStatement, FitsOf}

-- lexemes of a program among those of a machine, and the other way round
pub said_of_program : {ts rest : List Terminal} (xs : List Lexeme) → spoken.Says (map as_printed xs) ts rest → Says xs ts rest
said_of_program [] spoken.no_more = no_more
said_of_program (lexeme.a_sign s ∷ xs) (spoken.one_more is h) = one_more is (said_of_program xs h)
said_of_program (lexeme.a_number n ∷ xs) (spoken.one_more is h) = one_more is (said_of_program xs h)
said_of_program (lexeme.a_name x ∷ xs) (spoken.one_more is h) = one_more is (said_of_program xs h)
said_of_program (lexeme.a_strategy s ∷ xs) (spoken.one_more is h) = one_more is (said_of_program xs h)

said_of_machine : {ts rest : List Terminal} (xs : List machine.Lexeme) → Says (map as_shown xs) ts rest → spoken.Says xs ts rest
said_of_machine [] no_more = spoken.no_more
said_of_machine (machine.a_sign s ∷ xs) (one_more is h) = spoken.one_more is (said_of_machine xs h)
said_of_machine (machine.a_number n ∷ xs) (one_more is h) = spoken.one_more is (said_of_machine xs h)
said_of_machine (machine.a_name x ∷ xs) (one_more is h) = spoken.one_more is (said_of_machine xs h)
said_of_machine (machine.a_strategy s ∷ xs) (one_more is h) = spoken.one_more is (said_of_machine xs h)

script_said : (y : RawScript) → known_fits RawScript a_script y → (ts rest : List Terminal) → Says (known_shown RawScript a_script y) ts rest → Respelled Script (known_same RawScript a_script) y ts rest
unfolding Script
script_said y f ts rest h =
    let n = terminals.split (one sign.By) (show_block (plain_block y.block)) (said_of_machine (one sign.By ++ show_block (plain_block y.block)) h) in
    let s = terminals.the_sign n.1 in
    let b = blocks.holds (plain_block y.block) f n.0 rest n.2 in
    let tree : RawScript = record { block = b.raw; line = s.0 } in
    record { tree = tree; spelled = terminals.seq s.0 n.0 s.1 (terminals.seq b.raw rest b.spelled (terminals.yields tree)); same = b.is }

known_said : LeafShown Known known_spelled known_shown known_same known_fits
known_said X an_expr y f ts rest h = let e = exprs.holds (plain y) f ts rest (said_of_machine _ h) in record { tree = e.raw; spelled = e.spelled; same = e.is }
known_said X a_script y f ts rest h = script_said y f ts rest h

statement_said : (n : ℕ) (y : RawStatement) → FitsLevels known_fits statement n y → (ts rest : List Terminal) → Says (shown_statement y) ts rest
    → Respelled (spelled_levels known_spelled statement n) (SameLevels known_same statement n) y ts rest
unfolding spelled_levels FitsLevels SameLevels statement
statement_said zero y f ts rest h = absurd f
statement_said (suc n) y f ts rest h =
    shown known_spelled known_shown known_same known_fits known_said (spelled_levels known_spelled statement n) shown_statement (SameLevels known_same statement n) (FitsLevels known_fits statement n) (statement_said n) statement y f ts rest
    (subst (λ xs. Says xs ts rest) (statement_shown y) h)

statements_said : (y : RawStatement) → FitsStatement y → (ts rest : List Terminal) → Says (shown_statement y) ts rest → Respelled AStatement SameStatement y ts rest
unfolding AStatement
statements_said y f ts rest h = let x = statement_said f.0 y f.1 ts rest h in record { tree = x.tree; spelled = (f.0, x.spelled); same = (f.0, x.same) }

pub programs_said : {A : Type 0} (c : Production A) (y : A) → FitsOf c y → (ts rest : List Terminal) → Says (show_of c y) ts rest → Respelled (Spells c) (SayAlike c) y ts rest
programs_said c y f ts rest h = shown known_spelled known_shown known_same known_fits known_said AStatement shown_statement SameStatement FitsStatement statements_said c y f ts rest h
