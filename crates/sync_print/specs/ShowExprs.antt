-- The canonical lexemes of an expression.
--
-- The productions have levels: 0 `==>`, 1 `||`, 2 `&&`, 3 relations, 4 sums, 5 a number times something, 6 operands and
-- `!`. A place wants a level; what is of a lower level stands there in brackets, since the productions would give another tree
-- or none without them.
use Rattle.std.specs.Prelude.{◌≡◌, ℕ, List, [], ◌∷◌, ◌++◌, nat_lt}
use Rattle.sync_lex.specs.declared.signs.Sign.{Sign}
use Rattle.sync_lex.specs.declared.signs.Sign.TheVariants as sign
use Rattle.sync_parse_exprs.specs.declared.expressions.Function.{Function}
use Rattle.sync_parse_exprs.specs.declared.expressions.Function.TheVariants as function
use Rattle.sync_parse_exprs.specs.declared.expressions.Operator.{Operator}
use Rattle.sync_parse_exprs.specs.declared.expressions.Special.{Special}
use Rattle.sync_parse_exprs.specs.declared.expressions.Special.TheVariants as terminal
use Rattle.sync_print.specs.Exprs.{Joint, implies, either, both, equal, at_most, below, plus, minus, Plain, number, name, param, nil, special, call, negation, times, two, Plains, none, more, joined}
use Rattle.sync_print.specs.Lexemes.{Lexeme, one, one_name, one_number, needed, listed}

abbrev pub special_sign : Special → Sign
special_sign terminal.Value = sign.Value
special_sign terminal.Index = sign.Index
special_sign terminal.Old = sign.Old
special_sign terminal.New = sign.New
special_sign terminal.Wrap = sign.Wrap

abbrev pub function_sign : Function → Sign
function_sign function.Get = sign.Get
function_sign function.Has = sign.Has
function_sign function.Size = sign.Size
function_sign function.Sum = sign.Sum
function_sign function.Put = sign.Put
function_sign function.Del = sign.Del
function_sign function.Bump = sign.Bump
function_sign function.Held = sign.Held

abbrev pub joint_sign : Joint → Sign
joint_sign implies = sign.Implies
joint_sign either = sign.Or
joint_sign both = sign.And
joint_sign equal = sign.Equal
joint_sign at_most = sign.AtMost
joint_sign below = sign.Below
joint_sign plus = sign.Plus
joint_sign minus = sign.Minus

-- the level of an expression that it joins
abbrev pub level_of : Joint → ℕ
level_of implies = 0
level_of either = 1
level_of both = 2
level_of equal = 3
level_of at_most = 3
level_of below = 3
level_of plus = 4
level_of minus = 4

-- the level that its left side wants
abbrev pub left_of : Joint → ℕ
left_of implies = 1
left_of either = 1
left_of both = 2
left_of equal = 4
left_of at_most = 4
left_of below = 4
left_of plus = 4
left_of minus = 4

-- the level that its right side wants
abbrev pub right_of : Joint → ℕ
right_of implies = 0
right_of either = 2
right_of both = 3
right_of equal = 4
right_of at_most = 4
right_of below = 4
right_of plus = 5
right_of minus = 5

-- brackets round what is of a level, at a place that wants a level: where it is too low
abbrev pub before : ℕ → ℕ → List Lexeme
before own wanted = needed (nat_lt own wanted) sign.OpenRound

abbrev pub behind : ℕ → ℕ → List Lexeme
behind own wanted = needed (nat_lt own wanted) sign.CloseRound

-- an expression at a place that wants a level, and its negation there
pub record Shown : Type 0 where
  pub at : ℕ → List Lexeme
  pub negated : ℕ → List Lexeme

-- what is negated by a `!` before it
abbrev pub banged : (ℕ → List Lexeme) → Shown
banged at = record { at = at; negated = λ wanted. one sign.Bang ++ at 6 }

-- two with a sign between
abbrev pub between : Shown → Joint → Sign → Shown → ℕ → List Lexeme
between a o s b wanted = before (level_of o) wanted ++ a.at (left_of o) ++ one s ++ b.at (right_of o) ++ behind (level_of o) wanted

-- `!(t = u)` is `t != u`
abbrev pub shown_two : Joint → Shown → Shown → Shown
shown_two equal a b = record { at = between a equal sign.Equal b; negated = between a equal sign.NotEqual b }
shown_two o a b = banged (between a o (joint_sign o) b)

abbrev mutual
  pub shown : Plain → Shown
  shown (number n) = banged (λ wanted. one_number n)
  shown (name x) = banged (λ wanted. one_name x)
  shown (param x) = banged (λ wanted. one sign.Dollar ++ one_name x)
  shown nil = banged (λ wanted. one sign.Nil)
  shown (special w) = banged (λ wanted. one (special_sign w))
  shown (call f es) = banged (λ wanted. one (function_sign f) ++ one sign.OpenRound ++ listed (all_shown es) ++ one sign.CloseRound)
  shown (negation e) = banged (shown e).negated
  shown (times n e) = banged (λ wanted. before 5 wanted ++ one_number n ++ one sign.Star ++ (shown e).at 6 ++ behind 5 wanted)
  shown (two o a b) = shown_two o (shown a) (shown b)

  -- arguments, each as an expression of any level
  pub all_shown : Plains → List (List Lexeme)
  all_shown none = []
  all_shown (more e es) = (shown e).at 0 ∷ all_shown es

-- the canonical lexemes of an expression
abbrev pub show_expr : Plain → List Lexeme
show_expr e = (shown e).at 0

-- two with this operator are shown with this sign between, on this level, and their sides at places of these levels
abbrev pub IsShownBetween : Operator → ℕ → ℕ → Sign → ℕ → Type 0
IsShownBetween o own left s right = (a b : Plain) (wanted : ℕ)
    → (shown (joined o a b)).at wanted ≡ before own wanted ++ (shown a).at left ++ one s ++ (shown b).at right ++ behind own wanted
