-- The productions of expressions. What stands in brackets is given to the productions of one level; at the end it is an
-- expression whose own brackets stand one deeper, to any depth.
use Rattle.std.specs.Prelude.{ℕ, zero, suc, List}
use Rattle.sync_lex.specs.declared.signs.Sign.{Sign}
use Rattle.sync_lex.specs.declared.signs.Sign.TheVariants as sign
use Rattle.sync_lex.specs.declared.terminals.Terminal.{Terminal}
use Rattle.sync_parse_exprs.specs.declared.expressions.RawExpr.{RawExpr}
use Rattle.sync_parse_exprs.specs.declared.expressions.RawExprKind.{RawExprKind}
use Rattle.sync_parse_exprs.specs.declared.expressions.RawExprKind.TheVariants as kind
use Rattle.sync_parse_exprs.specs.declared.expressions.Operator.{Operator}
use Rattle.sync_parse_exprs.specs.declared.expressions.Operator.TheVariants as operator
use Rattle.sync_parse_exprs.specs.Terminals.{first_line}
use Rattle.sync_parse_exprs.specs.Expressions.{signed, placed, special_of, function_of}
use Rattle.sync_parse_forms.specs.Relations.{Spelled, The, AName, ANumber, OneOf, Yields, Here, ◌>>=◌, ◌>>◌, ◌or◌, InRound}

-- an expression of this kind that begins with these terminals
abbrev pub placed_at : RawExprKind → List Terminal → RawExpr
placed_at what start = placed what (first_line start)

abbrev pub Whole : Spelled RawExprKind → Spelled RawExpr
Whole kind = do
  start ← Here
  what ← kind
  Yields (placed_at what start)

-- NAME | "$" NAME | "nil" | "value" | "index" | "old" | "new" | "wrap" | FUNCTION args | "(" expr ")"
unfoldable pub NoNumber : Spelled RawExprKind → Spelled RawExprKind
NoNumber inside =
    (AName >>= λ x. Yields (kind.Name x))
    or (do
      line ← The sign.Dollar
      x ← AName
      Yields (kind.Param line x))
    or (The sign.Nil >> Yields kind.Nil)
    or (OneOf special_of >>= λ x. Yields (kind.Special x.0 x.1))
    or (do
      f ← OneOf function_of
      args ← InRound (Whole inside)
      Yields (kind.Call f.0 f.1 args))
    or (do
      The sign.OpenRound
      x ← Whole inside
      The sign.CloseRound
      Yields (kind.Bracketed x))

-- unary = NUMBER | ..
unfoldable pub Operand : Spelled RawExprKind → Spelled RawExprKind
Operand inside = (ANumber >>= λ n. Yields (kind.Number (signed n))) or NoNumber inside

-- unary = ("!"|"-") unary | ..
pub data Unary (Inside : Spelled RawExprKind) : List Terminal → List Terminal → RawExprKind → Type 0 where
  operand : {ts rest : List Terminal} {x : RawExprKind} → Operand Inside ts rest x → Unary Inside ts rest x
  negated : {ts us rest : List Terminal} {line : ℕ} {x : RawExprKind} → The sign.Bang ts us line → Unary Inside us rest x → Unary Inside ts rest (kind.Not (placed_at x us))
  minus : {ts us rest : List Terminal} {line : ℕ} {x : RawExprKind} → The sign.Minus ts us line → Unary Inside us rest x → Unary Inside ts rest (kind.Minus (placed_at x us))

-- prod = [NUMBER "*"] unary
unfoldable pub Product : Spelled RawExprKind → Spelled RawExprKind
Product inside = Unary inside or (do
  n ← ANumber
  The sign.Star
  x ← Whole (Unary inside)
  Yields (kind.Times (signed n) x))

-- operators with an item behind each, behind what was spelled from `start` on: the tree leans to the left
pub data Chain (Op : Spelled Operator) (Item : Spelled RawExprKind) (start : List Terminal) : RawExprKind → List Terminal → List Terminal → RawExprKind → Type 0 where
  ends : {ts : List Terminal} {x : RawExprKind} → Chain Op Item start x ts ts x
  goes_on : {ts us vs rest : List Terminal} {o : Operator} {x z : RawExprKind} (y : RawExpr) → Op ts us o → Whole Item us vs y
      → Chain Op Item start (kind.Two o (placed_at x start) y) vs rest z → Chain Op Item start x ts rest z

unfoldable pub Chained : Spelled Operator → Spelled RawExprKind → Spelled RawExprKind
Chained op item = do
  start ← Here
  x ← item
  Chain op item start x

-- an operator's sign
abbrev pub Joins : Sign → Operator → Spelled Operator
Joins s o = The s >> Yields o

-- sum = prod {("+"|"-") prod}
unfoldable pub SumSign : Spelled Operator
SumSign = Joins sign.Plus operator.Plus or Joins sign.Minus operator.Minus

unfoldable pub Sum : Spelled RawExprKind → Spelled RawExprKind
Sum inside = Chained SumSign (Product inside)

-- rel = sum [("="|"!="|"<="|"<") sum]
unfoldable pub RelationSign : Spelled Operator
RelationSign = Joins sign.Equal operator.Equal or Joins sign.NotEqual operator.NotEqual or Joins sign.AtMost operator.AtMost or Joins sign.Below operator.Below

unfoldable pub Relation : Spelled RawExprKind → Spelled RawExprKind
Relation inside = do
  start ← Here
  x ← Sum inside
  Yields x or (do
    o ← RelationSign
    y ← Whole (Sum inside)
    Yields (kind.Two o (placed_at x start) y))

-- and = rel {"&&" rel}
unfoldable pub And : Spelled RawExprKind → Spelled RawExprKind
And inside = Chained (Joins sign.And operator.And) (Relation inside)

-- or = and {"||" and}
unfoldable pub Or : Spelled RawExprKind → Spelled RawExprKind
Or inside = Chained (Joins sign.Or operator.Or) (And inside)

-- expr = or ["==>" expr]
pub data Implied (Inside : Spelled RawExprKind) : List Terminal → List Terminal → RawExprKind → Type 0 where
  plain : {ts rest : List Terminal} {x : RawExprKind} → Or Inside ts rest x → Implied Inside ts rest x
  implies : {ts vs rest : List Terminal} {y : RawExprKind} (x : RawExprKind) (us : List Terminal) (line : ℕ) → Or Inside ts us x → The sign.Implies us vs line → Implied Inside vs rest y
      → Implied Inside ts rest (kind.Two operator.Implies (placed_at x ts) (placed_at y vs))

-- an expression with fewer than so many brackets open at once
unfoldable pub Nested : ℕ → Spelled RawExprKind
Nested zero = λ ts rest x. ⊥
Nested (suc depth) = Implied (Nested depth)

-- an expression, with brackets to any depth
unfoldable pub AnExpr : Spelled RawExpr
AnExpr = Whole (λ ts rest x. (depth : ℕ) × Nested depth ts rest x)

-- args = "(" list of expr ")"
unfoldable pub Args : Spelled (List RawExpr)
Args = InRound AnExpr
