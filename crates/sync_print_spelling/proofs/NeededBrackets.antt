-- Brackets stand where an expression is of a lower level than its place wants, and there they are needed.
use Rattle.std.proofs.Common.{◌≡◌, ◌≤◌, ◌<◌, ℕ, ℤ, Bool, true, false, List, [], ◌++◌, nat_lt, refl, sym, ap, subst, ◌∙◌, arith}
use Rattle.std.proofs.lemmas.Bool.{false≢true}
use Rattle.std.proofs.lemmas.Bool.Decides.{nat_tests}
use Rattle.std.proofs.lemmas.List.{append-nil}
use Rattle.sync_lex.specs.declared.signs.Sign.TheVariants as sign
use Rattle.sync_lex.specs.declared.terminals.Terminal.{Terminal}
use Rattle.sync_parse_exprs.specs.declared.expressions.RawExpr.{RawExpr}
use Rattle.sync_parse_exprs.specs.declared.expressions.RawExprKind.{RawExprKind, fold-RawExprKind, fold-roll-RawExprKind, roll-RawExprKind}
use Rattle.sync_parse_exprs.specs.declared.expressions.RawExprKind.TheOpen.{RawExprKind-F, RawExpr-F}
use Rattle.sync_parse_exprs.specs.declared.expressions.RawExprKind.TheVariants as kinds
use Rattle.sync_parse_exprs.specs.declared.expressions.RawExprKind.TheVariants.{rolls-Call}
use Rattle.sync_parse_exprs.specs.declared.expressions.Function.{Function}
use Rattle.sync_parse_exprs.specs.declared.expressions.Special.{Special}
use Rattle.sync_parse_exprs.specs.declared.expressions.Operator.{Operator}
use Rattle.sync_parse_exprs.specs.declared.expressions.Operator.TheVariants as operator
use Rattle.sync_parse_exprs.specs.declared.raw_names.RawName.{RawName}
use Rattle.sync_parse_exprs.specs.Expressions.{signed}
use Rattle.sync_parse_forms.specs.Relations.{Spelled, Yields, ◌>>=◌, Either, the_one, the_other}
use Rattle.sync_parse_grammar.specs.Expressions.{placed_at, Whole, NoNumber, Operand, Unary, Product, Chain, Chained, Joins, SumSign, Sum, RelationSign, Relation, And, Or, Implied, Nested}
use Rattle.sync_parse_grammar.proofs.ExpressionsClear.{nested_inner, clear_implied}
use Rattle.sync_print.specs.Exprs.{implies, either, both, equal, at_most, below, plus, minus, Plain, negation, times, two}
use Rattle.sync_print.specs.Lexemes.{Lexeme, one, one_number, needed}
use Rattle.sync_print.specs.ShowExprs.{shown, show_expr}
use Rattle.sync_print_spelling.specs.Levels.{Level, l0, l1, l2, l3, l4, l5, l6, rank, level, own_level, bracketed_if, BracketsAreNeeded}
use Rattle.sync_print_spelling.specs.Limits.{ExprFits}
use Rattle.sync_print_spelling.specs.Says.{Says}
use Rattle.sync_print_spelling.proofs.Levels.{to_lowest}
use Rattle.sync_print_spelling.proofs.Expressions.{never_above, regroup, height, CoreTwo, core_implies, core_either, core_both, core_equal, core_unequal, core_at_most, core_below, core_plus, core_minus, times_read, all_placed}

-- ---- the level of a raw expression

abbrev operator_level : Operator → ℕ
operator_level operator.Implies = 0
operator_level operator.Or = 1
operator_level operator.And = 2
operator_level operator.Equal = 3
operator_level operator.NotEqual = 3
operator_level operator.AtMost = 3
operator_level operator.Below = 3
operator_level operator.Plus = 4
operator_level operator.Minus = 4

abbrev kind_level : RawExprKind-F ℕ ℕ → ℕ
kind_level (RawExprKind-F.Number n) = 6
kind_level (RawExprKind-F.Name x) = 6
kind_level (RawExprKind-F.Param line x) = 6
kind_level RawExprKind-F.Nil = 6
kind_level (RawExprKind-F.Bracketed e) = 6
kind_level (RawExprKind-F.Special w line) = 6
kind_level (RawExprKind-F.Call f line args) = 6
kind_level (RawExprKind-F.Not e) = 6
kind_level (RawExprKind-F.Minus e) = 6
kind_level (RawExprKind-F.Times n e) = 5
kind_level (RawExprKind-F.Two o a b) = operator_level o

abbrev at_level : RawExpr-F ℕ ℕ → ℕ
at_level e = e.what

-- brackets and prefix signs make an operand
abbrev raw_level : RawExprKind → ℕ
raw_level = fold-RawExprKind ℕ ℕ kind_level at_level

level-Number : (n : ℤ) → raw_level (kinds.Number n) ≡ 6
unfolding roll-RawExprKind denote.Hole.Carrier.roll
level-Number n = fold-roll-RawExprKind ℕ ℕ kind_level at_level (RawExprKind-F.Number n)

level-Name : (x : RawName) → raw_level (kinds.Name x) ≡ 6
unfolding roll-RawExprKind denote.Hole.Carrier.roll
level-Name x = fold-roll-RawExprKind ℕ ℕ kind_level at_level (RawExprKind-F.Name x)

level-Param : (line : ℕ) (x : RawName) → raw_level (kinds.Param line x) ≡ 6
unfolding roll-RawExprKind denote.Hole.Carrier.roll
level-Param line x = fold-roll-RawExprKind ℕ ℕ kind_level at_level (RawExprKind-F.Param line x)

level-Nil : raw_level kinds.Nil ≡ 6
unfolding roll-RawExprKind denote.Hole.Carrier.roll
level-Nil = fold-roll-RawExprKind ℕ ℕ kind_level at_level RawExprKind-F.Nil

level-Bracketed : (a : RawExpr) → raw_level (kinds.Bracketed a) ≡ 6
unfolding roll-RawExprKind denote.Hole.Carrier.roll
level-Bracketed a = fold-roll-RawExprKind ℕ ℕ kind_level at_level (RawExprKind-F.Bracketed a)

level-Special : (w : Special) (line : ℕ) → raw_level (kinds.Special w line) ≡ 6
unfolding roll-RawExprKind denote.Hole.Carrier.roll
level-Special w line = fold-roll-RawExprKind ℕ ℕ kind_level at_level (RawExprKind-F.Special w line)

level-Call : (f : Function) (line : ℕ) (args : List RawExpr) → raw_level (kinds.Call f line args) ≡ 6
unfolding roll-RawExprKind denote.Hole.Carrier.roll
level-Call f line args = ap raw_level (rolls-Call f line args) ∙ fold-roll-RawExprKind ℕ ℕ kind_level at_level (RawExprKind-F.Call f line args)

level-Not : (a : RawExpr) → raw_level (kinds.Not a) ≡ 6
unfolding roll-RawExprKind denote.Hole.Carrier.roll
level-Not a = fold-roll-RawExprKind ℕ ℕ kind_level at_level (RawExprKind-F.Not a)

level-Minus : (a : RawExpr) → raw_level (kinds.Minus a) ≡ 6
unfolding roll-RawExprKind denote.Hole.Carrier.roll
level-Minus a = fold-roll-RawExprKind ℕ ℕ kind_level at_level (RawExprKind-F.Minus a)

level-Times : (n : ℤ) (a : RawExpr) → raw_level (kinds.Times n a) ≡ 5
unfolding roll-RawExprKind denote.Hole.Carrier.roll
level-Times n a = fold-roll-RawExprKind ℕ ℕ kind_level at_level (RawExprKind-F.Times n a)

level-Two : (o : Operator) (a b : RawExpr) → raw_level (kinds.Two o a b) ≡ operator_level o
unfolding roll-RawExprKind denote.Hole.Carrier.roll
level-Two o a b = fold-roll-RawExprKind ℕ ℕ kind_level at_level (RawExprKind-F.Two o a b)

-- ---- what a production spells is of its level or a higher one

at_least : (n m : ℕ) (x y : RawExprKind) → x ≡ y → raw_level y ≡ m → n ≤ m → n ≤ raw_level x
at_least n m x y same is le = let e : raw_level x ≡ m = ap raw_level same ∙ is in omega (arith, e, le)

no_number_above : (I : Spelled RawExprKind) (ts rest : List Terminal) (x : RawExprKind) → NoNumber I ts rest x → 6 ≤ raw_level x
unfolding NoNumber
no_number_above inside ts rest x (the_one d) = at_least 6 6 x _ d.next.is (level-Name d.value) (omega arith)
no_number_above inside ts rest x (the_other (the_one d)) = at_least 6 6 x _ d.next.next.is (level-Param d.value d.next.value) (omega arith)
no_number_above inside ts rest x (the_other (the_other (the_one d))) = at_least 6 6 x _ d.next.is level-Nil (omega arith)
no_number_above inside ts rest x (the_other (the_other (the_other (the_one d)))) = at_least 6 6 x _ d.next.is (level-Special d.value.0 d.value.1) (omega arith)
no_number_above inside ts rest x (the_other (the_other (the_other (the_other (the_one d))))) =
    at_least 6 6 x _ d.next.next.is (level-Call d.value.0 d.value.1 d.next.value) (omega arith)
no_number_above inside ts rest x (the_other (the_other (the_other (the_other (the_other d))))) =
    at_least 6 6 x _ d.next.next.next.is (level-Bracketed d.next.value) (omega arith)

operand_above : (I : Spelled RawExprKind) (ts rest : List Terminal) (x : RawExprKind) → Operand I ts rest x → 6 ≤ raw_level x
unfolding Operand
operand_above inside ts rest x (the_one d) = at_least 6 6 x _ d.next.is (level-Number (signed d.value)) (omega arith)
operand_above inside ts rest x (the_other d) = no_number_above inside ts rest x d

unary_above : (I : Spelled RawExprKind) (ts rest : List Terminal) (x : RawExprKind) → Unary I ts rest x → 6 ≤ raw_level x
unary_above inside ts rest x (Unary.operand d) = operand_above inside ts rest x d
unary_above inside ts rest x (Unary.negated {us = us} {x = y} p d) = at_least 6 6 _ _ refl (level-Not (placed_at y us)) (omega arith)
unary_above inside ts rest x (Unary.minus {us = us} {x = y} p d) = at_least 6 6 _ _ refl (level-Minus (placed_at y us)) (omega arith)

product_above : (I : Spelled RawExprKind) (ts rest : List Terminal) (x : RawExprKind) → Product I ts rest x → 5 ≤ raw_level x
unfolding Product
product_above inside ts rest x (the_one d) = omega (arith, unary_above inside ts rest x d)
product_above inside ts rest x (the_other d) = at_least 5 5 x _ d.next.next.next.is (level-Times (signed d.value) d.next.next.value) (omega arith)

chain_above : (n : ℕ) (Op : Spelled Operator) (Item : Spelled RawExprKind) (start : List Terminal)
    → ((us vs : List Terminal) (o : Operator) → Op us vs o → n ≤ operator_level o) → (held : RawExprKind) (ts rest : List Terminal) (z : RawExprKind)
    → Chain Op Item start held ts rest z → n ≤ raw_level held → n ≤ raw_level z
chain_above n op item start ops held ts rest z Chain.ends le = le
chain_above n op item start ops held ts rest z (Chain.goes_on {us = us} {vs = vs} {o = o} y d e more) le =
    chain_above n op item start ops (kinds.Two o (placed_at held start) y) vs rest z more (at_least n (operator_level o) _ _ refl (level-Two o (placed_at held start) y) (ops ts us o d))

joins_above : (n : ℕ) (s : _) (o : Operator) → n ≤ operator_level o → (us vs : List Terminal) (p : Operator) → Joins s o us vs p → n ≤ operator_level p
joins_above n s o le us vs p d = let e = ap operator_level d.next.is in omega (arith, e, le)

sum_sign_above : (us vs : List Terminal) (o : Operator) → SumSign us vs o → 4 ≤ operator_level o
unfolding SumSign
sum_sign_above us vs o (the_one d) = joins_above 4 sign.Plus operator.Plus (omega arith) us vs o d
sum_sign_above us vs o (the_other d) = joins_above 4 sign.Minus operator.Minus (omega arith) us vs o d

sum_above : (I : Spelled RawExprKind) (ts rest : List Terminal) (x : RawExprKind) → Sum I ts rest x → 4 ≤ raw_level x
unfolding Sum Chained
sum_above inside ts rest x d =
    let first = product_above inside d.middle d.next.middle d.next.value d.next.one in
    chain_above 4 SumSign (Product inside) d.value sum_sign_above d.next.value d.next.middle rest x d.next.next (omega (arith, first))

relation_sign_above : (us vs : List Terminal) (o : Operator) → RelationSign us vs o → 3 ≤ operator_level o
unfolding RelationSign
relation_sign_above us vs o (the_one d) = joins_above 3 sign.Equal operator.Equal (omega arith) us vs o d
relation_sign_above us vs o (the_other (the_one d)) = joins_above 3 sign.NotEqual operator.NotEqual (omega arith) us vs o d
relation_sign_above us vs o (the_other (the_other (the_one d))) = joins_above 3 sign.AtMost operator.AtMost (omega arith) us vs o d
relation_sign_above us vs o (the_other (the_other (the_other d))) = joins_above 3 sign.Below operator.Below (omega arith) us vs o d

relation_end_above : (I : Spelled RawExprKind) (start ts rest : List Terminal) (x z : RawExprKind) → 3 ≤ raw_level x
    → Either (Yields x) (RelationSign >>= λ o. Whole (Sum I) >>= λ y. Yields (kinds.Two o (placed_at x start) y)) ts rest z → 3 ≤ raw_level z
relation_end_above inside start ts rest x z le (the_one d) = at_least 3 (raw_level x) z x d.is refl le
relation_end_above inside start ts rest x z le (the_other d) =
    at_least 3 (operator_level d.value) z _ d.next.next.is (level-Two d.value (placed_at x start) d.next.value) (relation_sign_above ts d.middle d.value d.one)

relation_above : (I : Spelled RawExprKind) (ts rest : List Terminal) (x : RawExprKind) → Relation I ts rest x → 3 ≤ raw_level x
unfolding Relation
relation_above inside ts rest x d =
    let first = sum_above inside d.middle d.next.middle d.next.value d.next.one in
    relation_end_above inside d.value d.next.middle rest d.next.value x (omega (arith, first)) d.next.next

and_above : (I : Spelled RawExprKind) (ts rest : List Terminal) (x : RawExprKind) → And I ts rest x → 2 ≤ raw_level x
unfolding And Chained
and_above inside ts rest x d =
    let first = relation_above inside d.middle d.next.middle d.next.value d.next.one in
    chain_above 2 (Joins sign.And operator.And) (Relation inside) d.value (joins_above 2 sign.And operator.And (omega arith)) d.next.value d.next.middle rest x d.next.next (omega (arith, first))

or_above : (I : Spelled RawExprKind) (ts rest : List Terminal) (x : RawExprKind) → Or I ts rest x → 1 ≤ raw_level x
unfolding Or Chained
or_above inside ts rest x d =
    let first = and_above inside d.middle d.next.middle d.next.value d.next.one in
    chain_above 1 (Joins sign.Or operator.Or) (And inside) d.value (joins_above 1 sign.Or operator.Or (omega arith)) d.next.value d.next.middle rest x d.next.next (omega (arith, first))

level_above : (k : Level) (I : Spelled RawExprKind) (ts rest : List Terminal) (x : RawExprKind) → level k I ts rest x → rank k ≤ raw_level x
level_above l0 inside ts rest x d = omega arith
level_above l1 inside ts rest x d = or_above inside ts rest x d
level_above l2 inside ts rest x d = and_above inside ts rest x d
level_above l3 inside ts rest x d = relation_above inside ts rest x d
level_above l4 inside ts rest x d = sum_above inside ts rest x d
level_above l5 inside ts rest x d = product_above inside ts rest x d
level_above l6 inside ts rest x d = unary_above inside ts rest x d

-- ---- what is shown without brackets spells an expression of its own level

record Own (n : ℕ) (ts : List Terminal) : Type 0 where
  depth : ℕ
  kind : RawExprKind
  spelled : Implied (Nested depth) ts [] kind
  level_is : raw_level kind ≡ n

bare : (xs : List Lexeme) {ts : List Terminal} → Says (xs ++ []) ts [] → Says xs ts []
bare xs {ts = ts} h = subst (λ zs. Says zs ts []) (append-nil xs) h

own_two : (own : Level) {high : ℕ} (o : Operator) {e f : Plain} {xs : List Lexeme} (ts : List Terminal) → CoreTwo own high o e f xs → Says xs ts [] → Own (operator_level o) ts
own_two own {high = high} o ts core h =
    let t = core.reads high (omega arith) ts [] h in
    record { depth = high; kind = kinds.Two o t.left t.right; spelled = to_lowest (Nested high) own ts [] (kinds.Two o t.left t.right) t.spelled; level_is = level-Two o t.left t.right }

module _ (k : Level) (ts : List Terminal) where
  negation_own : (e : Plain) → ExprFits e → nat_lt (own_level (negation e)) (rank k) ≡ true → Says (show_expr (negation e)) ts [] → Own (own_level (negation e)) ts
  negation_own (two equal a b) fits low h = own_two l3 operator.NotEqual ts (core_unequal (all_placed a fits.0).at (all_placed b fits.1).at) (bare _ h)
  negation_own e fits low h = absurd (false≢true (sym (never_above k) ∙ low))

  own : (e : Plain) → ExprFits e → nat_lt (own_level e) (rank k) ≡ true → Says (show_expr e) ts [] → Own (own_level e) ts
  own (negation e) fits low h = negation_own e fits low h
  own (times n e) fits low h =
      let m = times_read fits.0 (all_placed e fits.1).at (height e) (omega arith) ts [] (bare _ h) in
      record { depth = height e; kind = kinds.Times m.factor m.inner; spelled = to_lowest (Nested (height e)) l5 ts [] (kinds.Times m.factor m.inner) m.spelled; level_is = level-Times m.factor m.inner }
  own (two implies a b) fits low h = own_two l0 operator.Implies ts (core_implies (all_placed a fits.0).at (all_placed b fits.1).at) (bare _ h)
  own (two either a b) fits low h = own_two l1 operator.Or ts (core_either (all_placed a fits.0).at (all_placed b fits.1).at) (bare _ h)
  own (two both a b) fits low h = own_two l2 operator.And ts (core_both (all_placed a fits.0).at (all_placed b fits.1).at) (bare _ h)
  own (two equal a b) fits low h = own_two l3 operator.Equal ts (core_equal (all_placed a fits.0).at (all_placed b fits.1).at) (bare _ h)
  own (two at_most a b) fits low h = own_two l3 operator.AtMost ts (core_at_most (all_placed a fits.0).at (all_placed b fits.1).at) (bare _ h)
  own (two below a b) fits low h = own_two l3 operator.Below ts (core_below (all_placed a fits.0).at (all_placed b fits.1).at) (bare _ h)
  own (two plus a b) fits low h = own_two l4 operator.Plus ts (core_plus (all_placed a fits.0).at (all_placed b fits.1).at) (bare _ h)
  own (two minus a b) fits low h = own_two l4 operator.Minus ts (core_minus (all_placed a fits.0).at (all_placed b fits.1).at) (bare _ h)
  own e fits low h = absurd (false≢true (sym (never_above k) ∙ low))

below_is : (a b : ℕ) → nat_lt a b ≡ true → a < b
below_is a b e = grind (arith, nat_tests)

-- the production of a place that wants a higher level spells nothing by these terminals alone
none_spelled : (e : Plain) (k : Level) → ExprFits e → nat_lt (own_level e) (rank k) ≡ true → (ts : List Terminal) → Says (show_expr e) ts []
    → (depth : ℕ) (x : RawExprKind) → level k (Nested depth) ts [] x → ⊥
none_spelled e k fits low ts h depth x d =
    let t = own k ts e fits low h in
    let same = (clear_implied (nested_inner t.depth depth)).at ts ts [] [] t.kind x t.spelled (to_lowest (Nested depth) k ts [] x d) refl refl refl in
    let is : raw_level x ≡ own_level e = ap raw_level (sym same.1) ∙ t.level_is in
    let above = level_above k (Nested depth) ts [] x d in
    let lower = below_is (own_level e) (rank k) low in
    omega (arith, is, above, lower)

-- ---- where brackets stand

placed_if : (c : Bool) (a s b : List Lexeme)
    → needed c sign.OpenRound ++ a ++ s ++ b ++ needed c sign.CloseRound ≡ bracketed_if c (a ++ s ++ b ++ [])
placed_if true a s b =
    regroup (one sign.OpenRound) a s b (one sign.CloseRound)
    ∙ ap (λ z. one sign.OpenRound ++ z ++ one sign.CloseRound) (sym (append-nil (a ++ s ++ b)))
placed_if false a s b = refl

module _ (k : Level) where
  operand_stands : (xs : List Lexeme) → xs ≡ bracketed_if (nat_lt 6 (rank k)) xs
  operand_stands xs = ap (λ c. bracketed_if c xs) (sym (never_above k))

  negation_stands : (e : Plain) → (shown (negation e)).at (rank k) ≡ bracketed_if (nat_lt (own_level (negation e)) (rank k)) (show_expr (negation e))
  negation_stands (two equal a b) = placed_if (nat_lt 3 (rank k)) ((shown a).at 4) (one sign.NotEqual) ((shown b).at 4)
  negation_stands e = operand_stands (show_expr (negation e))

  stands : (e : Plain) → (shown e).at (rank k) ≡ bracketed_if (nat_lt (own_level e) (rank k)) (show_expr e)
  stands (negation e) = negation_stands e
  stands (times n e) = placed_if (nat_lt 5 (rank k)) (one_number n) (one sign.Star) ((shown e).at 6)
  stands (two implies a b) = placed_if (nat_lt 0 (rank k)) ((shown a).at 1) (one sign.Implies) ((shown b).at 0)
  stands (two either a b) = placed_if (nat_lt 1 (rank k)) ((shown a).at 1) (one sign.Or) ((shown b).at 2)
  stands (two both a b) = placed_if (nat_lt 2 (rank k)) ((shown a).at 2) (one sign.And) ((shown b).at 3)
  stands (two equal a b) = placed_if (nat_lt 3 (rank k)) ((shown a).at 4) (one sign.Equal) ((shown b).at 4)
  stands (two at_most a b) = placed_if (nat_lt 3 (rank k)) ((shown a).at 4) (one sign.AtMost) ((shown b).at 4)
  stands (two below a b) = placed_if (nat_lt 3 (rank k)) ((shown a).at 4) (one sign.Below) ((shown b).at 4)
  stands (two plus a b) = placed_if (nat_lt 4 (rank k)) ((shown a).at 4) (one sign.Plus) ((shown b).at 5)
  stands (two minus a b) = placed_if (nat_lt 4 (rank k)) ((shown a).at 4) (one sign.Minus) ((shown b).at 5)
  stands e = operand_stands (show_expr e)

pub brackets_are_needed : BracketsAreNeeded
brackets_are_needed = record { stand = λ e k. stands k e; needed = none_spelled }
