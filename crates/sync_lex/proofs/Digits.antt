-- Numbers of few digits: that they are within the limit, and that they are read within 64 bits.
use Rattle.std.proofs.Common.{◌≡◌, ℕ, zero, suc, ◌+◌, ◌-◌, ◌*◌, ◌^◌, ◌<◌, ◌≤◌, Bool, true, false, cond, List, [], ◌∷◌, length, take, drop, get_or, refl, sym, ap, ◌∙◌, arith, lit≤, lit<, add-one, drop-cons}
use Rattle.std.specs.Char.{is_ascii_digit, digit_value}
use Rattle.std.specs.List.{prefix_len, take_while}
use Rattle.std.specs.Str.Parse.{AllDigits}
use Rattle.std.proofs.lemmas.Int.Digits.{digits_value-lt}
use Rattle.std.proofs.lemmas.List.Folds.{length-prefix_len}
use Rattle.std.proofs.lemmas.Bool.{le-ltb}
use Rattle.std.proofs.Math.Nat.{pow-suc, pow-le-pow_right}
use Rattle.sync_base.specs.Limits.{largest}
use Rattle.sync_lex.specs.declared.lexemes.Kind.TheVariants.{Number}
use Rattle.sync_lex.specs.declared.pieces.Piece.TheVariants.{Match}
use Rattle.sync_lex.specs.Bytes.{number_value}
use Rattle.sync_lex.specs.Pieces.{number_piece}
use Rattle.sync_lex.specs.Terminals.{decimal_after}
use Rattle.sync_lex.proofs.Numbers.{digit_is, digit_bounds}

-- ---- within the limit

below_ten : (c : ℕ) → is_ascii_digit c ≡ true → digit_value c < 10
below_ten c e = let b = digit_bounds c e in let is = digit_is c b.0 b.1 in omega (arith, b.0, b.1, is)

digits_by : (c : ℕ) (bytes : List ℕ) (b : Bool) → is_ascii_digit c ≡ b → AllDigits 10 (take_while is_ascii_digit bytes) → AllDigits 10 (take (cond b (1 + prefix_len is_ascii_digit bytes) 0) (c ∷ bytes))
digits_by c bytes true e rest = rw (let p : 1 + prefix_len is_ascii_digit bytes ≡ suc (prefix_len is_ascii_digit bytes) = omega arith in p) (below_ten c e, rest)
digits_by c bytes false e rest = tt

all_digits : (bytes : List ℕ) → AllDigits 10 (take_while is_ascii_digit bytes)
all_digits [] = tt
all_digits (c ∷ bytes) = digits_by c bytes (is_ascii_digit c) refl (all_digits bytes)

pub is_short : (bytes : List ℕ) (len : ℕ) → len ≡ prefix_len is_ascii_digit bytes → len < 39 → Match Number len ≡ number_piece (take_while is_ascii_digit bytes)
is_short bytes len is lt =
    let digits = take_while is_ascii_digit bytes in
    let long : length digits ≡ len = length-prefix_len is_ascii_digit bytes ∙ sym is in
    let value = digits_value-lt 10 digits (all_digits bytes) in
    let ten : 0 < 10 = lit< tt in
    let power : 10 ^ length digits ≤ 10 ^ 38 = pow-le-pow_right ten (let p : length digits ≤ 38 = omega (arith, long, lt) in p) in
    let limit : 10 ^ 38 ≤ largest = lit≤ tt in
    let small : number_value digits ≤ largest = omega (arith, value, power, limit) in
    rw (le-ltb largest (number_value digits) small) (ap (λ (n : ℕ). Match Number n) (sym long))

-- ---- within 64 bits

-- what so many bytes can write
abbrev pub IsShort : ℕ → ℕ → Type 0
IsShort i number = number + 29 ≤ 29 * 10 ^ i

pub short_fits : (i number : ℕ) → i < 17 → IsShort i number → number ≤ 29 * 10 ^ 16
short_fits i number lt h =
    let ten : 0 < 10 = lit< tt in
    let power : 10 ^ i ≤ 10 ^ 16 = pow-le-pow_right ten (let p : i ≤ 16 = omega (arith, lt) in p) in
    omega (arith, h, power)

pub short_more : (i number value : ℕ) → value < 256 → IsShort i number → IsShort (i + 1) (number * 10 + value)
short_more i number value small h = rw (add-one, pow-suc 10 i) (omega (arith, h, small))

pub short_next : (digits : List ℕ) (i number : ℕ) → i < length digits → decimal_after number (drop i digits) ≡ decimal_after 0 digits
    → decimal_after (number * 10 + (get_or digits i 0 - 48)) (drop (i + 1) digits) ≡ decimal_after 0 digits
short_next digits i number lt so_far =
    let cut : drop i digits ≡ get_or digits i 0 ∷ drop (i + 1) digits = rw (add-one) (drop-cons digits i 0 lt) in
    sym (ap (λ (ds : List ℕ). decimal_after number ds) cut) ∙ so_far
