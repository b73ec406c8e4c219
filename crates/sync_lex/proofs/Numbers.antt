-- The value of the digits read so far, against that of all digits.
use Rattle.std.proofs.Common.{◌≡◌, ℕ, zero, suc, ◌+◌, ◌-◌, ◌*◌, ◌<◌, ◌≤◌, true, leb, List, [], ◌∷◌, length, take, drop, get_or, refl, ap, arith}
use Rattle.std.specs.Char.{is_ascii_digit, digit_value}
use Rattle.std.specs.List.{prefix_len, take_while}
use Rattle.std.specs.Str.Parse.{digits_value_after}
use Rattle.std.proofs.lemmas.Int.Digits.{digits_value_more}
use Rattle.std.proofs.lemmas.List.Sums.{prefix_len-drop_yes}
use Rattle.std.proofs.lemmas.Bool.Decides.{nat_tests}
use Rattle.std.proofs.lemmas.Bool.{leb-true, lt-ltb}
use Rattle.sync_base.proofs.Basics.{both}
use Rattle.sync_base.specs.declared.stops.Rule.TheVariants.{L3}
use Rattle.sync_lex.specs.declared.pieces.Piece.TheVariants.{Broken}
use Rattle.sync_lex.specs.Pieces.{number_piece}
use Rattle.sync_base.specs.Limits.{largest}
use Rattle.sync_lex.specs.Bytes.{number_value}

pub digit_is : (c : ℕ) → 48 ≤ c → c ≤ 57 → digit_value c ≡ c - 48
digit_is c low high = grind (arith, nat_tests)

after_ge : (n : ℕ) (xs : List ℕ) → n ≤ digits_value_after 10 n xs
after_ge n [] = omega arith
after_ge n (x ∷ xs) = omega (arith, after_ge (n * 10 + digit_value x) xs)

after_grows : (n k : ℕ) (xs : List ℕ) → digits_value_after 10 n (take k xs) ≤ digits_value_after 10 n xs
after_grows n zero xs = after_ge n xs
after_grows n (suc k) [] = omega arith
after_grows n (suc k) (x ∷ xs) = after_grows (n * 10 + digit_value x) k xs

take-take : (k n : ℕ) (xs : List ℕ) → k ≤ n → take k (take n xs) ≡ take k xs
take-take zero n xs le = refl
take-take (suc k) zero xs le = absurd (omega arith)
take-take (suc k) (suc n) [] le = refl
take-take (suc k) (suc n) (x ∷ xs) le = ap (λ (r : List ℕ). x ∷ r) (take-take k n xs (omega arith))

grows : (k n : ℕ) (xs : List ℕ) → k ≤ n → number_value (take k xs) ≤ number_value (take n xs)
grows k n xs le = rw (← take-take k n xs le) (after_grows 0 k (take n xs))

pub digit_bounds : (c : ℕ) → is_ascii_digit c ≡ true → (48 ≤ c) × (c ≤ 57)
digit_bounds c e = let parts = both (leb 48 c) (leb c 57) e in (leb-true 48 c parts.0, leb-true c 57 parts.1)

module _ (bytes : List ℕ) (i value : ℕ) (lt : i < length bytes) (digit : is_ascii_digit (get_or bytes i 0) ≡ true) (valued : value ≡ number_value (take i bytes)) where
  pub value_step : value * 10 + (get_or bytes i 0 - 48) ≡ number_value (take (i + 1) bytes)
  value_step =
      let bounds = digit_bounds (get_or bytes i 0) digit in
      rw (valued, digits_value_more 10 bytes i lt, digit_is (get_or bytes i 0) bounds.0 bounds.1) refl

  pub counted_step : i + prefix_len is_ascii_digit (drop i bytes) ≡ prefix_len is_ascii_digit bytes → i + 1 + prefix_len is_ascii_digit (drop (i + 1) bytes) ≡ prefix_len is_ascii_digit bytes
  counted_step counted = omega (arith, prefix_len-drop_yes is_ascii_digit bytes i 0 lt digit)

  -- what passes the limit here passes it with all digits
  pub is_too_large : i + prefix_len is_ascii_digit (drop i bytes) ≡ prefix_len is_ascii_digit bytes → largest < value * 10 + (get_or bytes i 0 - 48)
      → Broken L3 ≡ number_piece (take_while is_ascii_digit bytes)
  is_too_large counted over =
      let more = counted_step counted in
      let grown = grows (i + 1) (prefix_len is_ascii_digit bytes) bytes (omega arith) in
      let step = value_step in
      let large : largest < number_value (take_while is_ascii_digit bytes) = omega arith in
      rw (lt-ltb largest (number_value (take_while is_ascii_digit bytes)) large) refl
