-- What a program reads is within the limits, and its terminals name what is shown of it.
use Rattle.std.proofs.Common.{ℕ, zero, suc, List, ◌++◌, map, sym, subst}
use Rattle.sync_base.specs.declared.names.NameList.{NameList}
use Rattle.sync_lex.specs.declared.signs.Sign.TheVariants as sign
use Rattle.sync_lex.specs.declared.terminals.Terminal.{Terminal}
use Rattle.sync_parse.specs.declared.scripts.RawScript.{RawScript}
use Rattle.sync_parse_forms.specs.Spellings.{spelled_levels}
use Rattle.sync_parse_forms.specs.Shows.{Fits, FitsLevels}
use Rattle.sync_parse_grammar.specs.Scripts.{Script}
use Rattle.sync_parse_programs.specs.declared.statements.RawStatement.{RawStatement}
use Rattle.sync_parse_programs.specs.Known.{Known, an_expr, a_script, Production}
use Rattle.sync_parse_programs.specs.Statements.{statement}
use Rattle.sync_parse_texts.specs.SpelledPrograms.{known_spelled, AStatement, Spells}
use Rattle.sync_print.specs.Exprs.{plain}
use Rattle.sync_print.specs.Scripts.{plain_block}
use Rattle.sync_print.specs.Lexemes as machine
use Rattle.sync_print.specs.Lexemes.{one}
use Rattle.sync_print.specs.ShowExprs.{show_expr}
use Rattle.sync_print.specs.ShowScripts.{show_block}
use Rattle.sync_print_programs.specs.Shown.{as_shown, known_shown, shown_statement, show_of}
use Rattle.sync_print_programs.specs.Written.{as_printed}
use Rattle.sync_print_programs.proofs.Steps.{all_as_was}
use Rattle.sync_print_programs.proofs.Shrinks.{statement_shown}
use Rattle.sync_print_spelling.specs.Limits.{ExprFits, BlockFits}
use Rattle.sync_print_spelling.proofs.Told as told
use Rattle.sync_print_spelling.proofs.Told.{Tells}
use Rattle.sync_print_spelling.proofs.ExpressionsTold.{exprs_told}
use Rattle.sync_print_spelling.proofs.ScriptsTold.{blocks_told}
use Rattle.sync_print_texts.proofs.Told.{Reads, LeafTold, told_of}

-- an expression or a script is within the limits
abbrev pub known_fits : (X : Type 0) → Known X → X → Type 0
known_fits X an_expr e = ExprFits (plain e)
known_fits X a_script s = BlockFits (plain_block s.block)

-- a statement is within the limits, with all that stands in its braces
abbrev pub FitsStatement : RawStatement → Type 0
FitsStatement x = (depth : ℕ) × FitsLevels known_fits statement depth x

-- what a production spells is within the limits
abbrev pub FitsOf : {A : Type 0} → Production A → A → Type 0
FitsOf c x = Fits known_fits FitsStatement c x

-- lexemes of a machine, among those of a program
as_of_machine : {names : NameList} {ts rest : List Terminal} (xs : List machine.Lexeme) → Tells names xs ts rest → Tells names (map as_printed (map as_shown xs)) ts rest
as_of_machine {names = names} {ts = ts} {rest = rest} xs t = subst (λ ys. Tells names ys ts rest) (sym (all_as_was xs)) t

script_told : (names : NameList) (ts rest : List Terminal) (x : RawScript) → Script ts rest x → Reads names (BlockFits (plain_block x.block)) (known_shown RawScript a_script x) ts rest
unfolding Script
script_told names ts rest x d =
    let b = d.next in
    let r = blocks_told {names = names} in
    let s = r.at d.middle b.middle b.value b.one in
    let xs = one sign.By ++ show_block (plain_block b.value) in
    let here : Reads names (BlockFits (plain_block b.value)) (map as_shown xs) ts rest =
    record { fits = λ t. s.fits; tells = as_of_machine xs (told.behind (told.both (told.sign_told sign.By d.one) s.tells) (told.none_read b.next)) } in
    subst (λ (y : RawScript). Reads names (BlockFits (plain_block y.block)) (known_shown RawScript a_script y) ts rest) (sym b.next.is) here

known_told : (names : NameList) → LeafTold names Known known_spelled known_shown known_fits
known_told names X an_expr ts rest x d =
    let r = exprs_told {names = names} in
    let e = r.at ts rest x d in
    record { fits = λ t. e.fits; tells = as_of_machine (show_expr (plain x)) e.tells }
known_told names X a_script ts rest x d = script_told names ts rest x d

statement_told : (names : NameList) (n : ℕ) (ts rest : List Terminal) (x : RawStatement) → spelled_levels known_spelled statement n ts rest x → Reads names (FitsLevels known_fits statement n x) (shown_statement x) ts rest
unfolding spelled_levels FitsLevels statement
statement_told names zero ts rest x d = absurd d
statement_told names (suc n) ts rest x d =
    subst (λ xs. Reads names (FitsLevels known_fits statement (suc n) x) xs ts rest) (sym (statement_shown x))
    (told_of names known_spelled known_shown known_fits (known_told names) (spelled_levels known_spelled statement n) shown_statement (FitsLevels known_fits statement n) (statement_told names n) statement ts rest x d)

statements_told : (names : NameList) (ts rest : List Terminal) (x : RawStatement) → AStatement ts rest x → Reads names (FitsStatement x) (shown_statement x) ts rest
unfolding AStatement
statements_told names ts rest x d = let r = statement_told names d.0 ts rest x d.1 in record { fits = λ t. (d.0, r.fits t); tells = r.tells }

pub programs_told : {A : Type 0} (names : NameList) (c : Production A) (ts rest : List Terminal) (x : A) → Spells c ts rest x → Reads names (FitsOf c x) (show_of c x) ts rest
programs_told names c ts rest x d = told_of names known_spelled known_shown known_fits (known_told names) AStatement shown_statement FitsStatement (statements_told names) c ts rest x d
