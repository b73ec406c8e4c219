-- Plain expressions: what an expression says, apart from how it is written. They have no lines and no brackets; `t != u`
-- is `!(t = u)`, `-t` is `0 - t`, and a number is its value.
use Rattle.std.specs.Prelude.{ℕ, List, [], ◌∷◌, unsigned_abs}
use Rattle.sync_parse_exprs.specs.declared.expressions.RawExpr.{RawExpr, fold-RawExpr}
use Rattle.sync_parse_exprs.specs.declared.expressions.RawExprKind.TheOpen.{RawExprKind-F, RawExpr-F}
use Rattle.sync_parse_exprs.specs.declared.expressions.Function.{Function}
use Rattle.sync_parse_exprs.specs.declared.expressions.Special.{Special}
use Rattle.sync_parse_exprs.specs.declared.expressions.Operator.{Operator}
use Rattle.sync_parse_exprs.specs.declared.expressions.Operator.TheVariants as operator

-- what joins two plain expressions
pub data Joint : Type 0 where
  implies : Joint
  either : Joint
  both : Joint
  equal : Joint
  at_most : Joint
  below : Joint
  plus : Joint
  minus : Joint

mutual
  pub data Plain : Type 0 where
    number : ℕ → Plain
    name : ℕ → Plain
    param : ℕ → Plain
    nil : Plain
    special : Special → Plain
    call : Function → Plains → Plain
    negation : Plain → Plain
    times : ℕ → Plain → Plain
    two : Joint → Plain → Plain → Plain

  -- the arguments of a function
  pub data Plains : Type 0 where
    none : Plains
    more : Plain → Plains → Plains

abbrev pub plains_of : List Plain → Plains
plains_of [] = none
plains_of (e ∷ es) = more e (plains_of es)

abbrev pub joined : Operator → Plain → Plain → Plain
joined operator.Implies a b = two implies a b
joined operator.Or a b = two either a b
joined operator.And a b = two both a b
joined operator.Equal a b = two equal a b
joined operator.NotEqual a b = negation (two equal a b)
joined operator.AtMost a b = two at_most a b
joined operator.Below a b = two below a b
joined operator.Plus a b = two plus a b
joined operator.Minus a b = two minus a b

abbrev pub plain_kind : RawExprKind-F Plain Plain → Plain
plain_kind (RawExprKind-F.Number n) = number (unsigned_abs n)
plain_kind (RawExprKind-F.Name named) = name named.name
plain_kind (RawExprKind-F.Param line named) = param named.name
plain_kind RawExprKind-F.Nil = nil
plain_kind (RawExprKind-F.Bracketed e) = e
plain_kind (RawExprKind-F.Special terminal line) = special terminal
plain_kind (RawExprKind-F.Call f line args) = call f (plains_of args)
plain_kind (RawExprKind-F.Not e) = negation e
plain_kind (RawExprKind-F.Minus e) = two minus (number 0) e
plain_kind (RawExprKind-F.Times n e) = times (unsigned_abs n) e
plain_kind (RawExprKind-F.Two op a b) = joined op a b

abbrev pub plain_at : RawExpr-F Plain Plain → Plain
plain_at e = e.what

-- what an expression says
abbrev pub plain : RawExpr → Plain
plain = fold-RawExpr Plain Plain plain_kind plain_at
