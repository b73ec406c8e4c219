-- Cutting a decimal number off on the way or at its end.
use Rattle.std.proofs.Common.{◌≡◌, ℕ, ◌+◌, ◌-◌, ◌*◌, ◌<◌, List, [], ◌∷◌, length, drop, get_or, min, sym, ap, ◌∙◌, arith, add-one, drop-cons}
use Rattle.sync_lex.specs.Terminals.{decimal_after}
use Rattle.sync_base.specs.Limits.{largest}

-- digits behind two numbers that are alike up to l
pub alike : (l : ℕ) (digits : List ℕ) (a b : ℕ) → min l a ≡ min l b → min l (decimal_after a digits) ≡ min l (decimal_after b digits)
alike l [] a b e = e
alike l (d ∷ digits) a b e = alike l digits (a * 10 + (d - 48)) (b * 10 + (d - 48)) (omega (arith, e))

pub goes_on : (digits : List ℕ) (i number next : ℕ) → i < length digits → min largest next ≡ min largest (number * 10 + (get_or digits i 0 - 48))
    → min largest (decimal_after number (drop i digits)) ≡ min largest (decimal_after 0 digits)
    → min largest (decimal_after next (drop (i + 1) digits)) ≡ min largest (decimal_after 0 digits)
goes_on digits i number next lt e so_far =
    let cut : drop i digits ≡ get_or digits i 0 ∷ drop (i + 1) digits = rw (add-one) (drop-cons digits i 0 lt) in
    alike largest (drop (i + 1) digits) next (number * 10 + (get_or digits i 0 - 48)) e ∙ sym (ap (λ (ds : List ℕ). min largest (decimal_after number ds)) cut) ∙ so_far
