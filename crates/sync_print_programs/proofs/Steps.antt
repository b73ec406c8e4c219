-- The bytes of lexemes, and writing one item after the other.
use Rattle.std.proofs.Common.{◌≡◌, ◌≤◌, ◌<◌, ◌+◌, get_or, add-one, drop-cons, length, drop, map, ℕ, suc, List, [], ◌∷◌, ◌++◌, refl, sym, ap, ◌∙◌, append_assoc, append-nil}
use Rattle.std.proofs.Math.ListN.{drop_of_length-le}
use Rattle.sync_base.specs.declared.names.NameList.{NameList}
use Rattle.sync_lex.specs.declared.signs.Sign.{Sign}
use Rattle.sync_lex.specs.declared.signs.Sign.TheVariants as sign
use Rattle.sync_parse_forms.specs.Lexemes as lexeme
use Rattle.sync_parse_forms.specs.Lexemes.{Lexeme}
use Rattle.sync_print.specs.Lexemes as machine
use Rattle.sync_print.specs.Lexemes.{printed, written, one, one_name, one_number}
use Rattle.sync_print_programs.specs.Shown.{as_shown}
use Rattle.sync_print_programs.specs.Written.{as_printed, bytes_of, lexeme_written, all_written, commas_written}

-- ---- lexemes

pub no_bytes : (names : NameList) → bytes_of names [] ≡ []
unfolding bytes_of printed
no_bytes names = refl

pub first_bytes : (names : NameList) (x : Lexeme) (xs : List Lexeme) → bytes_of names (x ∷ xs) ≡ lexeme_written names x ++ bytes_of names xs
unfolding bytes_of printed lexeme_written
first_bytes names x xs = refl

pub one_bytes : (names : NameList) (x : Lexeme) → bytes_of names (x ∷ []) ≡ lexeme_written names x
one_bytes names x = first_bytes names x [] ∙ ap (λ z. lexeme_written names x ++ z) (no_bytes names) ∙ append-nil (lexeme_written names x)

pub joined_bytes : (names : NameList) (xs ys : List Lexeme) → bytes_of names (xs ++ ys) ≡ bytes_of names xs ++ bytes_of names ys
joined_bytes names [] ys = ap (λ z. z ++ bytes_of names ys) (sym (no_bytes names))
joined_bytes names (x ∷ xs) ys =
    first_bytes names x (xs ++ ys) ∙ ap (λ z. lexeme_written names x ++ z) (joined_bytes names xs ys)
    ∙ sym (append_assoc (lexeme_written names x) (bytes_of names xs) (bytes_of names ys)) ∙ ap (λ z. z ++ bytes_of names ys) (sym (first_bytes names x xs))

pub sign_written : (names : NameList) (s : Sign) → printed names (one s) ≡ lexeme_written names (lexeme.a_sign s)
unfolding printed lexeme_written one
sign_written names s = append-nil (written names (machine.a_sign s))

pub name_written : (names : NameList) (x : ℕ) → printed names (one_name x) ≡ lexeme_written names (lexeme.a_name x)
unfolding printed lexeme_written one_name
name_written names x = append-nil (written names (machine.a_name x))

pub number_written : (names : NameList) (n : ℕ) → printed names (one_number n) ≡ lexeme_written names (lexeme.a_number n)
unfolding printed lexeme_written one_number
number_written names n = append-nil (written names (machine.a_number n))

as_it_was : (x : machine.Lexeme) → as_printed (as_shown x) ≡ x
as_it_was (machine.a_sign s) = refl
as_it_was (machine.a_number n) = refl
as_it_was (machine.a_name x) = refl
as_it_was (machine.a_strategy s) = refl

pub all_as_was : (xs : List machine.Lexeme) → map as_printed (map as_shown xs) ≡ xs
all_as_was [] = refl
all_as_was (x ∷ xs) = λ i. as_it_was x i ∷ all_as_was xs i

-- lexemes of a machine are written alike in a program
pub machine_bytes : (names : NameList) (xs : List machine.Lexeme) → bytes_of names (map as_shown xs) ≡ printed names xs
unfolding bytes_of
machine_bytes names xs = ap (printed names) (all_as_was xs)

-- ---- one item after the other

-- one more of a list, as it stands behind some of it
next_item : {A : Type 0} (n : ℕ) (xs : List A) (x : A) → n < length xs → x ≡ get_or xs n x → drop n xs ≡ x ∷ drop (n + 1) xs
next_item n xs x within is = rw add-one (drop-cons xs n x within ∙ ap (λ z. z ∷ drop (suc n) xs) (sym is))

pub row_end : {A : Type 0} (a all : List ℕ) (f : A → List ℕ) (n : ℕ) (xs : List A) → length xs ≤ n → a ++ all_written f (drop n xs) ≡ all → a ≡ all
row_end a all f n xs past e = sym (append-nil a) ∙ ap (λ ys. a ++ all_written f ys) (sym (drop_of_length-le xs past)) ∙ e

pub row_more : {A : Type 0} (a a' all : List ℕ) (f : A → List ℕ) (n : ℕ) (xs : List A) (x : A)
    → n < length xs → x ≡ get_or xs n x → a' ≡ a ++ f x → a ++ all_written f (drop n xs) ≡ all → a' ++ all_written f (drop (n + 1) xs) ≡ all
row_more a a' all f n xs x within is e before =
    ap (λ z. z ++ all_written f (drop (n + 1) xs)) e ∙ append_assoc a (f x) (all_written f (drop (n + 1) xs))
    ∙ ap (λ ys. a ++ all_written f ys) (sym (next_item n xs x within is)) ∙ before

pub commas_end : {A : Type 0} (names : NameList) (a all : List ℕ) (f : A → List ℕ) (n : ℕ) (xs : List A) → length xs ≤ n → a ++ commas_written names f (drop n xs) ≡ all → a ≡ all
commas_end names a all f n xs past e = sym (append-nil a) ∙ ap (λ ys. a ++ commas_written names f ys) (sym (drop_of_length-le xs past)) ∙ e

pub commas_more : {A : Type 0} (names : NameList) (a b a' all : List ℕ) (f : A → List ℕ) (n : ℕ) (xs : List A) (x : A)
    → n < length xs → x ≡ get_or xs n x → b ≡ a ++ lexeme_written names (lexeme.a_sign sign.Comma) → a' ≡ b ++ f x
    → a ++ commas_written names f (drop n xs) ≡ all → a' ++ commas_written names f (drop (n + 1) xs) ≡ all
commas_more names a b a' all f n xs x within is comma e before =
    let rest = commas_written names f (drop (n + 1) xs) in
    let w = lexeme_written names (lexeme.a_sign sign.Comma) in
    ap (λ z. z ++ rest) e ∙ append_assoc b (f x) rest ∙ ap (λ z. z ++ (f x ++ rest)) comma ∙ append_assoc a w (f x ++ rest)
    ∙ ap (λ ys. a ++ commas_written names f ys) (sym (next_item n xs x within is)) ∙ before
