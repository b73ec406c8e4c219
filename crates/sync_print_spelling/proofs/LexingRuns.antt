-- A spelling with a space or a line feed behind it is one lexeme: names and numbers.
use Rattle.std.proofs.Common.{◌≡◌, ◌+◌, ◌==◌, ℕ, suc, Bool, true, false, cond, ◌&&◌, List, [], ◌∷◌, ◌++◌, length, refl, ap, ◌∙◌, arith}
use Rattle.std.specs.Prelude.{nat_lt}
use Rattle.std.specs.Char.{is_ascii_digit}
use Rattle.std.specs.List.{prefix_len, take_while, list_all}
use Rattle.sync_lex.specs.declared.lexemes.Kind.TheVariants as kind
use Rattle.sync_lex.specs.Bytes.{is_blank, begins_name, continues_name, number_value}
use Rattle.sync_lex.specs.Pieces.{piece}
use Rattle.sync_base.specs.Limits.{largest}
use Rattle.sync_lex.specs.Lexemes.{lexemes_from}
use Rattle.sync_print_spelling.proofs.Lexing.{Begins}

pub name_begins : (b : ℕ) (bytes rest : List ℕ) → (b == 10) ≡ false → is_blank b ≡ false → begins_name b ≡ true → prefix_len continues_name (b ∷ (bytes ++ rest)) ≡ length (b ∷ bytes)
    → nat_lt 64 (length (b ∷ bytes)) ≡ false → Begins kind.Name (b ∷ bytes) rest
unfolding lexemes_from piece
name_begins b bytes rest feed blank begins len short at line = rw (blank, begins, len, short, feed) refl

pub number_begins : (b : ℕ) (bytes rest : List ℕ) → (b == 10) ≡ false → is_blank b ≡ false → begins_name b ≡ false → is_ascii_digit b ≡ true
    → take_while is_ascii_digit (b ∷ (bytes ++ rest)) ≡ b ∷ bytes → nat_lt largest (number_value (b ∷ bytes)) ≡ false → Begins kind.Number (b ∷ bytes) rest
unfolding lexemes_from piece
number_begins b bytes rest feed blank begins digit digits small at line = rw (digits, small, blank, begins, digit, feed) refl

-- what passes a test, up to the first that does not
run_case : (p : ℕ → Bool) (c d : Bool) (n k : ℕ) → (c && d) ≡ true → (d ≡ true → n ≡ k) → cond c (1 + n) 0 ≡ suc k
run_case p true d n k all same = ap (λ m. 1 + m) (same all) ∙ omega arith
run_case p false d n k all same = absurd cc

pub run_of : (p : ℕ → Bool) (xs : List ℕ) (gap : ℕ) (rest : List ℕ) → list_all p xs ≡ true → p gap ≡ false → prefix_len p (xs ++ gap ∷ rest) ≡ length xs
run_of p [] gap rest all ends = rw ends refl
run_of p (x ∷ xs) gap rest all ends = run_case p (p x) (list_all p xs) _ _ all (λ e. run_of p xs gap rest e ends)
