-- The levels of the productions of expressions, and where brackets stand in a canonical text.
use Rattle.std.specs.Prelude.{◌≡◌, ℕ, Bool, true, false, List, [], ◌++◌, nat_lt}
use Rattle.sync_lex.specs.declared.signs.Sign.TheVariants as sign
use Rattle.sync_lex.specs.declared.terminals.Terminal.{Terminal}
use Rattle.sync_parse_exprs.specs.declared.expressions.RawExprKind.{RawExprKind}
use Rattle.sync_parse_forms.specs.Relations.{Spelled}
use Rattle.sync_parse_grammar.specs.Expressions.{Unary, Product, Sum, Relation, And, Or, Implied, Nested}
use Rattle.sync_print.specs.Exprs.{equal, Plain, negation, times, two}
use Rattle.sync_print.specs.Lexemes.{Lexeme, one}
use Rattle.sync_print.specs.ShowExprs.{level_of, shown, show_expr}
use Rattle.sync_print_spelling.specs.Limits.{ExprFits}
use Rattle.sync_print_spelling.specs.Says.{Says}

pub data Level : Type 0 where
  l0 : Level
  l1 : Level
  l2 : Level
  l3 : Level
  l4 : Level
  l5 : Level
  l6 : Level

-- the number of a level
abbrev pub rank : Level → ℕ
rank l0 = 0
rank l1 = 1
rank l2 = 2
rank l3 = 3
rank l4 = 4
rank l5 = 5
rank l6 = 6

-- the production of a place that wants a level, where these productions spell what stands in brackets
abbrev pub level : Level → Spelled RawExprKind → Spelled RawExprKind
level l0 = Implied
level l1 = Or
level l2 = And
level l3 = Relation
level l4 = Sum
level l5 = Product
level l6 = Unary

-- the level of the negation of an expression, as it is shown without brackets round it: `t != u` is a relation
abbrev pub negated_level : Plain → ℕ
negated_level (two equal a b) = 3
negated_level _ = 6

-- the level of an expression, as it is shown without brackets round it
abbrev pub own_level : Plain → ℕ
own_level (negation e) = negated_level e
own_level (times n e) = 5
own_level (two o a b) = level_of o
own_level _ = 6

-- lexemes, with brackets round them or without
abbrev pub bracketed_if : Bool → List Lexeme → List Lexeme
bracketed_if true xs = one sign.OpenRound ++ xs ++ one sign.CloseRound
bracketed_if false xs = xs

pub record BracketsAreNeeded : Type 0 where
  -- brackets stand round an expression at the places that want a higher level than its own, and at no other
  pub stand : (e : Plain) (k : Level) → (shown e).at (rank k) ≡ bracketed_if (nat_lt (own_level e) (rank k)) (show_expr e)
  -- there the production of the place spells no expression at all by its lexemes without brackets
  pub needed : (e : Plain) (k : Level) → ExprFits e → nat_lt (own_level e) (rank k) ≡ true → (ts : List Terminal) → Says (show_expr e) ts []
      → (depth : ℕ) (x : RawExprKind) → ¬ (level k (Nested depth) ts [] x)
