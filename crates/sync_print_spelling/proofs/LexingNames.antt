-- A name with a space or a line feed behind it is one lexeme.
use Rattle.std.proofs.Common.{◌≡◌, ◌≤◌, ◌==◌, ℕ, true, false, List, ◌∷◌, length, arith}
use Rattle.std.specs.Prelude.{nat_lt}
use Rattle.std.specs.List.{list_all}
use Rattle.std.proofs.lemmas.Bool.Decides.{nat_tests}
use Rattle.sync_lex.specs.declared.lexemes.Kind.TheVariants as kind
use Rattle.sync_lex.specs.Bytes.{is_blank, begins_name, continues_name}
use Rattle.sync_print_spelling.proofs.Lexing.{Begins}
use Rattle.sync_print_spelling.proofs.LexingRuns.{name_begins, run_of}

no_feed : (c : ℕ) → begins_name c ≡ true → (c == 10) ≡ false
unfolding begins_name
no_feed c is = grind (arith, nat_tests)

no_blank : (c : ℕ) → begins_name c ≡ true → is_blank c ≡ false
unfolding begins_name is_blank
no_blank c is = grind (arith, nat_tests)

not_long : (n : ℕ) → n ≤ 64 → nat_lt 64 n ≡ false
not_long n is = grind (arith, nat_tests)

pub letters_begin : (b : ℕ) (bytes : List ℕ) (gap : ℕ) (rest : List ℕ) → begins_name b ≡ true → list_all continues_name (b ∷ bytes) ≡ true → length (b ∷ bytes) ≤ 64 → continues_name gap ≡ false
    → Begins kind.Name (b ∷ bytes) (gap ∷ rest)
letters_begin b bytes gap rest is all short ends =
    name_begins b bytes (gap ∷ rest) (no_feed b is) (no_blank b is) is (run_of continues_name (b ∷ bytes) gap rest all ends) (not_long (length (b ∷ bytes)) short)
