-- The bytes that a production writes are those of what it shows.
use Rattle.std.proofs.Common.{◌≡◌, ℕ, List, [], ◌∷◌, ◌++◌, inl, inr, refl, sym, ap, ◌∙◌}
use Rattle.sync_base.specs.declared.names.NameList.{NameList}
use Rattle.sync_lex.specs.declared.signs.Sign.{Sign}
use Rattle.sync_lex.specs.declared.signs.Sign.TheVariants as sign
use Rattle.sync_parse_forms.specs.Codes.{Code}
use Rattle.sync_parse_forms.specs.Lexemes as lexeme
use Rattle.sync_parse_forms.specs.Lexemes.{Lexeme}
use Rattle.sync_parse_forms.specs.Shows.{show, all_shown, commas_shown, list_shown}
use Rattle.sync_parse_programs.specs.declared.statements.RawStatement.{RawStatement}
use Rattle.sync_parse_programs.specs.declared.statements.RawRightSide.TheViews.{out-RawStatement}
use Rattle.sync_parse_programs.specs.Known.{Production}
use Rattle.sync_parse_programs.specs.Statements.{statement_kind}
use Rattle.sync_print_programs.specs.Shown.{known_shown, shown_statement, show_of}
use Rattle.sync_print_programs.specs.Written.{bytes_of, lexeme_written, all_written, commas_written, list_written, write, written_statement, written_of}
use Rattle.sync_print_programs.proofs.Shrinks.{statement_shown}
use Rattle.sync_print_programs.proofs.Steps.{no_bytes, first_bytes, one_bytes, joined_bytes}

abbrev Written : {A : Type 0} → NameList → (A → List ℕ) → (A → List Lexeme) → Type 0
Written {A = A} names f g = (x : A) → f x ≡ bytes_of names (g x)

rows : {A : Type 0} (names : NameList) (f : A → List ℕ) (g : A → List Lexeme) → Written names f g → Written names (all_written f) (all_shown g)
rows names f g e [] = sym (no_bytes names)
rows names f g e (x ∷ xs) = (λ i. e x i ++ rows names f g e xs i) ∙ sym (joined_bytes names (g x) (all_shown g xs))

commas : {A : Type 0} (names : NameList) (f : A → List ℕ) (g : A → List Lexeme) → Written names f g → Written names (commas_written names f) (commas_shown g)
commas names f g e [] = sym (no_bytes names)
commas names f g e (x ∷ xs) =
    ap (λ z. lexeme_written names (lexeme.a_sign sign.Comma) ++ z) ((λ i. e x i ++ commas names f g e xs i) ∙ sym (joined_bytes names (g x) (commas_shown g xs)))
    ∙ sym (first_bytes names (lexeme.a_sign sign.Comma) (g x ++ commas_shown g xs))

lists : {A : Type 0} (names : NameList) (f : A → List ℕ) (g : A → List Lexeme) → Written names f g → Written names (list_written names f) (list_shown g)
lists names f g e [] = sym (no_bytes names)
lists names f g e (x ∷ xs) = (λ i. e x i ++ commas names f g e xs i) ∙ sym (joined_bytes names (g x) (commas_shown g xs))

behind_sign : (names : NameList) (s : Sign) (a : List ℕ) (xs : List Lexeme) → a ≡ bytes_of names xs → lexeme_written names (lexeme.a_sign s) ++ a ≡ bytes_of names (lexeme.a_sign s ∷ xs)
behind_sign names s a xs e = ap (λ z. lexeme_written names (lexeme.a_sign s) ++ z) e ∙ sym (first_bytes names (lexeme.a_sign s) xs)

before_sign : (names : NameList) (s : Sign) (a : List ℕ) (xs : List Lexeme) → a ≡ bytes_of names xs → a ++ lexeme_written names (lexeme.a_sign s) ≡ bytes_of names (xs ++ lexeme.a_sign s ∷ [])
before_sign names s a xs e =
    (ap (λ z. z ++ lexeme_written names (lexeme.a_sign s)) e ∙ ap (λ z. bytes_of names xs ++ z) (sym (one_bytes names (lexeme.a_sign s)))) ∙ sym (joined_bytes names xs (lexeme.a_sign s ∷ []))

-- of any production
writes : {K : Type 0 → Type 1} {R A : Type 0} (n : NameList) (k : (X : Type 0) → K X → X → List Lexeme) (r : R → List Lexeme) (c : Code K R A)
    → Written n (write n (λ X (d : K X) y. bytes_of n (k X d y)) (λ y. bytes_of n (r y)) c) (show k r c)
writes n k r (Code.leaf c) x = refl
writes n k r (Code.a_sign s) x = sym (one_bytes n (lexeme.a_sign s))
writes n k r Code.a_name x = sym (one_bytes n (lexeme.a_name x.name))
writes n k r Code.a_number x = sym (one_bytes n (lexeme.a_number x))
writes n k r Code.inner x = refl
writes n k r Code.nothing x = sym (no_bytes n)
writes n k r (Code.after s c) x = behind_sign n s _ (show k r c x) (writes n k r c x)
writes n k r (Code.before c s) x = before_sign n s _ (show k r c x) (writes n k r c x)
writes n k r (Code.both c d) x = (λ i. writes n k r c x.0 i ++ writes n k r d x.1 i) ∙ sym (joined_bytes n (show k r c x.0) (show k r d x.1))
writes n k r (Code.either t c d) (inl x) = writes n k r c x
writes n k r (Code.either t c d) (inr x) = writes n k r d x
writes n k r (Code.row t c) xs = rows n _ (show k r c) (writes n k r c) xs
writes n k r (Code.listed z c) xs = lists n _ (show k r c) (writes n k r c) xs
writes n k r (Code.bracketed o e c) x = behind_sign n o _ (show k r c x ++ lexeme.a_sign e ∷ []) (before_sign n e _ (show k r c x) (writes n k r c x))
writes n k r (Code.enclosed o e c) x = behind_sign n o _ (show k r c x.0 ++ lexeme.a_sign e ∷ []) (before_sign n e _ (show k r c x.0) (writes n k r c x.0))
writes n k r (Code.node make parts law c) x = writes n k r c (parts x)

pub written_shown : {A : Type 0} (names : NameList) (c : Production A) (x : A) → written_of names c x ≡ bytes_of names (show_of c x)
unfolding written_statement
written_shown names c x = writes names known_shown shown_statement c x

pub statement_written : (names : NameList) (x : RawStatement) → written_statement names x ≡ written_of names statement_kind (out-RawStatement x).what
unfolding written_statement
statement_written names x = ap (bytes_of names) (statement_shown x) ∙ sym (writes names known_shown shown_statement statement_kind (out-RawStatement x).what)
