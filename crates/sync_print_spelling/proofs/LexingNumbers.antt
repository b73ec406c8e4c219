-- A number with a space or a line feed behind it is one lexeme.
use Rattle.std.proofs.Common.{◌≡◌, ◌<◌, ◌≤◌, ◌==◌, ℕ, Bool, true, false, List, [], ◌∷◌, ◌++◌, length, take, refl, sym, ap, subst, ◌∙◌, arith}
use Rattle.std.specs.Prelude.{nat_lt}
use Rattle.std.specs.Char.{is_ascii_digit}
use Rattle.std.specs.List.{take_while, list_all}
use Rattle.std.proofs.Math.Seq.{take-append_seam}
use Rattle.std.proofs.lemmas.Bool.Decides.{nat_tests}
use Rattle.std.proofs.lemmas.Str.Parse.{digit_from_value}
use Rattle.std.specs.Str.Parse.{AllDigits}
use Rattle.std.specs.Fmt.{decimal}
use Rattle.std.proofs.lemmas.Fmt.{decimal_is_IsNumeral_wide}
use Rattle.sync_lex.specs.declared.lexemes.Kind.TheVariants as kind
use Rattle.sync_lex.specs.Bytes.{is_blank, begins_name, number_value}
use Rattle.sync_base.specs.Limits.{largest}
use Rattle.sync_print_spelling.proofs.Lexing.{Begins}
use Rattle.sync_print_spelling.proofs.LexingRuns.{number_begins, run_of}

-- a decimal digit
abbrev pub IsDigit : ℕ → Type 0
IsDigit c = (48 ≤ c) × (c ≤ 57)

no_feed : (c : ℕ) → IsDigit c → (c == 10) ≡ false
no_feed c is = grind (arith, nat_tests)

no_blank : (c : ℕ) → IsDigit c → is_blank c ≡ false
unfolding is_blank
no_blank c is = grind (arith, nat_tests)

no_letter : (c : ℕ) → IsDigit c → begins_name c ≡ false
unfolding begins_name
no_letter c is = grind (arith, nat_tests)

a_digit : (c : ℕ) → IsDigit c → is_ascii_digit c ≡ true
a_digit c is = grind (arith, nat_tests)

not_above : (n : ℕ) → n ≤ largest → nat_lt largest n ≡ false
not_above n is = grind (arith, nat_tests)

run_is : (p : ℕ → Bool) (xs : List ℕ) (gap : ℕ) (rest : List ℕ) → list_all p xs ≡ true → p gap ≡ false → take_while p (xs ++ gap ∷ rest) ≡ xs
run_is p xs gap rest all ends = ap (λ k. take k (xs ++ gap ∷ rest)) (run_of p xs gap rest all ends) ∙ take-append_seam xs (gap ∷ rest)

pub digits_begin : (b : ℕ) (bytes : List ℕ) (gap : ℕ) (rest : List ℕ) → IsDigit b → list_all is_ascii_digit (b ∷ bytes) ≡ true → is_ascii_digit gap ≡ false → number_value (b ∷ bytes) ≤ largest
    → Begins kind.Number (b ∷ bytes) (gap ∷ rest)
digits_begin b bytes gap rest is all ends small =
    number_begins b bytes (gap ∷ rest) (no_feed b is) (no_blank b is) (no_letter b is) (a_digit b is) (run_is is_ascii_digit (b ∷ bytes) gap rest all ends)
    (not_above (number_value (b ∷ bytes)) small)

all_digits : (ds : List ℕ) → AllDigits 10 ds → list_all is_ascii_digit ds ≡ true
all_digits [] all = refl
all_digits (c ∷ cs) all = rw (a_digit c (digit_from_value c all.0)) (all_digits cs all.1)

numeral_begins : (ds : List ℕ) (gap : ℕ) (rest : List ℕ) → 0 < length ds → AllDigits 10 ds → is_ascii_digit gap ≡ false → number_value ds ≤ largest → Begins kind.Number ds (gap ∷ rest)
numeral_begins [] gap rest some all ends small = absurd (omega arith)
numeral_begins (c ∷ cs) gap rest some all ends small = digits_begin c cs gap rest (digit_from_value c all.0) (all_digits (c ∷ cs) all) ends small

-- a number that a text can hold
pub decimal_begins : (n gap : ℕ) (rest : List ℕ) → n ≤ largest → is_ascii_digit gap ≡ false → Begins kind.Number (decimal n) (gap ∷ rest)
decimal_begins n gap rest fits ends =
    let is = decimal_is_IsNumeral_wide n (omega arith) in
    numeral_begins (decimal n) gap rest is.0.0 is.0.1 ends (subst (λ m. m ≤ largest) (sym is.1) fits)
