-- No sign, reserved word or strategy ends in a digit, and what ends so is none.
use Rattle.std.proofs.Common.{◌≡◌, ℕ, Bool, true, false, List, [], ◌∷◌, Option, None, refl, sym, ap, ◌∙◌}
use Rattle.std.specs.Prelude.{not, if◌then◌else◌}
use Rattle.std.specs.List.{find, list_all}
use Rattle.std.specs.Str.{bytes_eq}
use Rattle.std.proofs.lemmas.Slice.Eq.{bytes_eq-Decides}
use Rattle.sync_base.proofs.Basics.{both}
use Rattle.sync_lex.specs.Bytes.{ends_in_digit}
use Rattle.sync_lex.specs.Signs as sign
use Rattle.sync_lex.specs.Strategies as strategy

module _ {X : Type 0} (spelling : X → List ℕ) (bytes : List ℕ) (digit : ends_in_digit bytes ≡ true) where
  differs : (x : X) (same : Bool) → bytes_eq (spelling x) bytes ≡ same → not (ends_in_digit (spelling x)) ≡ true → bytes_eq (spelling x) bytes ≡ false
  differs x false e other = e
  differs x true e other =
      let is : spelling x ≡ bytes = (bytes_eq-Decides (spelling x) bytes).0 e in
      let bad : false ≡ true = sym (ap not digit) ∙ sym (ap (λ (bs : List ℕ). not (ends_in_digit bs)) is) ∙ other in
      absurd (cc bad)

  find_none : (xs : List X) → list_all (λ x. not (ends_in_digit (spelling x))) xs ≡ true → find (λ x. bytes_eq (spelling x) bytes) xs ≡ None
  find_none [] all = refl
  find_none (x ∷ xs) all =
      let parts = both (not (ends_in_digit (spelling x))) (list_all (λ (y : X). not (ends_in_digit (spelling y))) xs) all in
      rw (differs x (bytes_eq (spelling x) bytes) refl parts.0) (find_none xs parts.1)

pub no_sign : (bytes : List ℕ) → ends_in_digit bytes ≡ true → sign.sign_of bytes ≡ None
unfolding sign.sign_of sign.spelling_of
no_sign bytes digit = find_none sign.spelling_of bytes digit sign.signs refl

pub no_strategy : (bytes : List ℕ) → ends_in_digit bytes ≡ true → strategy.strategy_of bytes ≡ None
unfolding strategy.strategy_of strategy.spelling_of
no_strategy bytes digit = find_none strategy.spelling_of bytes digit strategy.strategies refl
