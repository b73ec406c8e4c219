-- The bytes of the canonical lexemes of programs; and the bytes that a production writes, computed from it as what it shows is.
use Rattle.std.specs.Prelude.{ℕ, List, [], ◌∷◌, ◌++◌, map}
use Rattle.std.proofs.Common.{inl, inr}
use Rattle.sync_base.specs.declared.names.NameList.{NameList}
use Rattle.sync_lex.specs.declared.signs.Sign.TheVariants as sign
use Rattle.sync_parse_forms.specs.Codes.{Code, leaf, a_sign, a_name, a_number, inner, nothing, after, before, both, either, row, listed, bracketed, enclosed, node}
use Rattle.sync_parse_forms.specs.Lexemes as lexeme
use Rattle.sync_parse_forms.specs.Lexemes.{Lexeme}
use Rattle.sync_parse_programs.specs.declared.statements.RawStatement.{RawStatement}
use Rattle.sync_parse_programs.specs.Known.{Known, Production}
use Rattle.sync_print.specs.Lexemes as machine
use Rattle.sync_print.specs.Lexemes.{printed, written}
use Rattle.sync_print_programs.specs.Shown.{known_shown, shown_statement}

-- a lexeme of a program among those of a machine
abbrev pub as_printed : Lexeme → machine.Lexeme
as_printed (lexeme.a_sign s) = machine.a_sign s
as_printed (lexeme.a_number n) = machine.a_number n
as_printed (lexeme.a_name x) = machine.a_name x
as_printed (lexeme.a_strategy s) = machine.a_strategy s

-- the bytes of these lexemes
unfoldable pub bytes_of : NameList → List Lexeme → List ℕ
bytes_of names xs = printed names (map as_printed xs)

-- ---- what a production writes

-- the bytes of one lexeme
unfoldable pub lexeme_written : NameList → Lexeme → List ℕ
lexeme_written names x = written names (as_printed x)

abbrev pub all_written : {A : Type 0} → (A → List ℕ) → List A → List ℕ
all_written f [] = []
all_written f (x ∷ xs) = f x ++ all_written f xs

-- items, each behind a comma
abbrev pub commas_written : {A : Type 0} → NameList → (A → List ℕ) → List A → List ℕ
commas_written names f [] = []
commas_written names f (x ∷ xs) = lexeme_written names (lexeme.a_sign sign.Comma) ++ (f x ++ commas_written names f xs)

-- items with commas between
abbrev pub list_written : {A : Type 0} → NameList → (A → List ℕ) → List A → List ℕ
list_written names f [] = []
list_written names f (x ∷ xs) = f x ++ commas_written names f xs

-- the bytes, where it is known what is written of the leaves and of what stands in its own brackets
abbrev pub write : {K : Type 0 → Type 1} {R A : Type 0} → NameList → ((X : Type 0) → K X → X → List ℕ) → (R → List ℕ) → Code K R A → A → List ℕ
write n k r (leaf {A = X} c) x = k X c x
write n k r (a_sign s) x = lexeme_written n (lexeme.a_sign s)
write n k r a_name x = lexeme_written n (lexeme.a_name x.name)
write n k r a_number x = lexeme_written n (lexeme.a_number x)
write n k r inner x = r x
write n k r nothing x = []
write n k r (after s c) x = lexeme_written n (lexeme.a_sign s) ++ write n k r c x
write n k r (before c s) x = write n k r c x ++ lexeme_written n (lexeme.a_sign s)
write n k r (both c d) x = write n k r c x.0 ++ write n k r d x.1
write n k r (either t c d) (inl x) = write n k r c x
write n k r (either t c d) (inr x) = write n k r d x
write n k r (row t c) xs = all_written (write n k r c) xs
write n k r (listed e c) xs = list_written n (write n k r c) xs
write n k r (bracketed o e c) x = lexeme_written n (lexeme.a_sign o) ++ (write n k r c x ++ lexeme_written n (lexeme.a_sign e))
write n k r (enclosed o e c) x = lexeme_written n (lexeme.a_sign o) ++ (write n k r c x.0 ++ lexeme_written n (lexeme.a_sign e))
write n k r (node make parts law c) x = write n k r c (parts x)

abbrev pub known_written : NameList → (X : Type 0) → Known X → X → List ℕ
known_written names X c x = bytes_of names (known_shown X c x)

-- a statement, with all statements in its braces
unfoldable pub written_statement : NameList → RawStatement → List ℕ
written_statement names x = bytes_of names (shown_statement x)

-- the canonical bytes of what a production spells
abbrev pub written_of : {A : Type 0} → NameList → Production A → A → List ℕ
written_of names c x = write names (known_written names) (written_statement names) c x
