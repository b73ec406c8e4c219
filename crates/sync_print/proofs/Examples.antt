-- Some expressions and their canonical lexemes, computed.
use Rattle.std.proofs.Common.{◌≡◌, [], ◌∷◌, refl, pos, negsuc}
use Rattle.sync_lex.specs.declared.signs.Sign.TheVariants as sign
use Rattle.sync_print.specs.Exprs.{number, name, negation, times, two, implies, equal, plus, minus}
use Rattle.sync_print.specs.Lexemes.{a_sign, a_number, a_name, one, one_name, one_number}
use Rattle.sync_print.specs.ShowExprs.{show_expr}
use Rattle.sync_print.specs.ShowScripts.{show_times}

-- `!(x = y)` is `x != y`
unequal : show_expr (negation (two equal (name 0) (name 1))) ≡ a_name 0 ∷ a_sign sign.NotEqual ∷ a_name 1 ∷ []
unfolding one one_name
unequal = refl

-- `!` before it is negated by another one
not_unequal : show_expr (negation (negation (two equal (name 0) (name 1))))
    ≡ a_sign sign.Bang ∷ a_sign sign.OpenRound ∷ a_name 0 ∷ a_sign sign.NotEqual ∷ a_name 1 ∷ a_sign sign.CloseRound ∷ []
unfolding one one_name
not_unequal = refl

-- sums lean to the left
left_sum : show_expr (two minus (two minus (name 0) (name 1)) (name 2)) ≡ a_name 0 ∷ a_sign sign.Minus ∷ a_name 1 ∷ a_sign sign.Minus ∷ a_name 2 ∷ []
unfolding one one_name
left_sum = refl

right_sum : show_expr (two minus (name 0) (two plus (name 1) (name 2)))
    ≡ a_name 0 ∷ a_sign sign.Minus ∷ a_sign sign.OpenRound ∷ a_name 1 ∷ a_sign sign.Plus ∷ a_name 2 ∷ a_sign sign.CloseRound ∷ []
unfolding one one_name
right_sum = refl

-- `==>` leans to the right
right_implies : show_expr (two implies (name 0) (two implies (name 1) (name 2)))
    ≡ a_name 0 ∷ a_sign sign.Implies ∷ a_name 1 ∷ a_sign sign.Implies ∷ a_name 2 ∷ []
unfolding one one_name
right_implies = refl

-- a number times a number times something, and a difference from 0
products : show_expr (times 2 (times 3 (two minus (number 0) (name 0))))
    ≡ a_number 2 ∷ a_sign sign.Star ∷ a_sign sign.OpenRound ∷ a_number 3 ∷ a_sign sign.Star ∷ a_sign sign.OpenRound
    ∷ a_number 0 ∷ a_sign sign.Minus ∷ a_name 0 ∷ a_sign sign.CloseRound ∷ a_sign sign.CloseRound ∷ []
unfolding one one_name one_number
products = refl

-- multipliers
no_minus : show_times (pos 0) ≡ a_number 0 ∷ []
unfolding one_number
no_minus = refl

with_minus : show_times (negsuc 1) ≡ a_sign sign.Minus ∷ a_number 2 ∷ []
unfolding one one_number
with_minus = refl
