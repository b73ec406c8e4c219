-- The front of what is left, and what is left behind it.
use Rattle.std.proofs.Common.{◌≡◌, ℕ, ◌+◌, ◌-◌, List, ◌++◌, length, take, drop, length-drop, sym, ap, ◌∙◌, arith}
use Rattle.std.proofs.lemmas.List.{take_all, drop-drop}

pub given_is : (slice bytes got left : List ℕ) (next n : ℕ) → slice ≡ bytes → drop next bytes ≡ left
    → take (length slice - next) (drop next slice) ≡ got ++ drop n (take (length slice - next) (drop next slice)) → left ≡ got ++ drop (next + n) bytes
given_is slice bytes got left next n same rest given =
    let whole : take (length slice - next) (drop next slice) ≡ drop next slice = take_all (length slice - next) (drop next slice) (omega (arith, length-drop next slice)) in
    sym rest ∙ ap (drop next) (sym same) ∙ sym whole ∙ given ∙ ap (λ (r : List ℕ). got ++ drop n r) (whole ∙ ap (drop next) same) ∙ ap (λ (r : List ℕ). got ++ r) (drop-drop n next bytes)
