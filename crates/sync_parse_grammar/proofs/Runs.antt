-- Which run or chain an expression is that a production spells.
use Rattle.std.proofs.Common.{◌≡◌, ℕ, suc, ◌<◌, ◌≤◌, List, refl, sym, ap, ◌∙◌, subst, arith}
use Rattle.sync_lex.specs.declared.terminals.Terminal.{Terminal}
use Rattle.sync_parse_exprs.specs.declared.expressions.RawExpr.{RawExpr}
use Rattle.sync_parse_exprs.specs.declared.expressions.RawExprKind.{RawExprKind}
use Rattle.sync_parse_exprs.specs.declared.expressions.RawExprKind.TheVariants as kind
use Rattle.sync_parse_exprs.specs.declared.expressions.Operator.{Operator}
use Rattle.sync_parse_exprs.specs.declared.expressions.Operator.TheVariants as operator
use Rattle.sync_lex.specs.declared.signs.Sign.TheVariants as sign
use Rattle.sync_parse_exprs.specs.Expressions.{signed}
use Rattle.sync_parse_exprs.specs.Terminals.{first_line}
use Rattle.sync_parse_forms.specs.Relations.{Spelled, Yields, ◌>>=◌, Either, the_one, the_other}
use Rattle.sync_parse_grammar.specs.Expressions.{placed_at, Whole, NoNumber, Operand, Unary, Product, Chain, Chained, Joins, SumSign, Sum, RelationSign, Relation, And, Or, Implied}
use Rattle.sync_parse_grammar.specs.Shallow.{Depth, flat, with_both, Run, signs, sums, ands, ors, implications, only, Extent, extent, expr_depth}
use Rattle.sync_parse_grammar.proofs.Depths.{Fits, both_first, both_second, fits_both, fits_run, run_fits, run_small, fits_is, FitsKind, FitsExpr, fits_placed, placed_fits, IsSingle, IsLonger, of_number, of_name, of_param, of_nil, of_special, of_bracketed, of_call, of_not, of_minus, of_times, of_two, run_of, run_placed}

pub only_same : (r : Run) (n : ℕ) → only r n r ≡ n
only_same signs n = refl
only_same sums n = refl
only_same ands n = refl
only_same ors n = refl
only_same implications n = refl

-- ---- operands, products and their runs

single_run : (r : Run) {x : RawExprKind} (y : RawExprKind) (d : Depth) → IsSingle y d → x ≡ y → run_of r x ≡ 0
single_run r y d i e = ap (run_of r) e ∙ ap (λ (z : Extent). z.run r) i.is

no_number_run : (m : Spelled RawExprKind) (r : Run) (ts rest : List Terminal) (x : RawExprKind) → NoNumber m ts rest x
    → run_of r x ≡ 0
unfolding NoNumber
no_number_run m r ts rest x (the_one d) = single_run r _ flat (of_name d.value) d.next.is
no_number_run m r ts rest x (the_other (the_one d)) =
    single_run r _ flat (of_param d.value d.next.value) d.next.next.is
no_number_run m r ts rest x (the_other (the_other (the_one d))) = single_run r _ flat of_nil d.next.is
no_number_run m r ts rest x (the_other (the_other (the_other (the_one d)))) =
    single_run r _ flat (of_special d.value.0 d.value.1) d.next.is
no_number_run m r ts rest x (the_other (the_other (the_other (the_other (the_one d))))) =
    single_run r _ _ (of_call d.value.0 d.value.1 d.next.value) d.next.next.is
no_number_run m r ts rest x (the_other (the_other (the_other (the_other (the_other d))))) =
    single_run r _ _ (of_bracketed d.next.value) d.next.next.next.is

pub operand_run : (m : Spelled RawExprKind) (r : Run) (ts rest : List Terminal) (x : RawExprKind)
    → Operand m ts rest x → run_of r x ≡ 0
unfolding Operand
operand_run m r ts rest x (the_one d) = single_run r _ flat (of_number (signed d.value)) d.next.is
operand_run m r ts rest x (the_other d) = no_number_run m r ts rest x d

-- an expression of one sign or operator more than a part is no other run or chain
other_run : (r s : Run) (x : RawExprKind) (e : Extent) (d : Depth) → IsLonger x s e d → ((n : ℕ) → only s n r ≡ 0)
    → run_of r x ≡ 0
other_run r s x e d i other = ap (λ (z : Extent). z.run r) i.is ∙ other (suc (e.run s))

-- and of this kind it is as much longer
pub own_run : (s : Run) (x : RawExprKind) (e : Extent) (d : Depth) → IsLonger x s e d → run_of s x ≡ suc (e.run s)
own_run s x e d i = ap (λ (z : Extent). z.run s) i.is ∙ only_same s (suc (e.run s))

unary_other : {m : Spelled RawExprKind} (r : Run) → ((n : ℕ) → only signs n r ≡ 0)
    → (ts rest : List Terminal) (x : RawExprKind) → Unary m ts rest x → run_of r x ≡ 0
unary_other {m = m} r other ts rest x (Unary.operand d) = operand_run m r ts rest x d
unary_other r other ts rest x (Unary.negated {us = us} {x = y} p d) =
    other_run r signs _ _ _ (of_not (placed_at y us)) other
unary_other r other ts rest x (Unary.minus {us = us} {x = y} p d) =
    other_run r signs _ _ _ (of_minus (placed_at y us)) other

pub product_run : (m : Spelled RawExprKind) (r : Run) → ((n : ℕ) → only signs n r ≡ 0)
    → (ts rest : List Terminal) (x : RawExprKind) → Product m ts rest x → run_of r x ≡ 0
unfolding Product
product_run m r other ts rest x (the_one d) = unary_other r other ts rest x d
product_run m r other ts rest x (the_other d) =
    single_run r _ _ (of_times (signed d.value) d.next.next.value) d.next.next.next.is

-- ---- operators

-- an operator of these makes a chain of this kind, which leans to the left
pub record Links (Op : Spelled Operator) (s : Run) : Type 0 where
  pub two : (ts us : List Terminal) (o : Operator) → Op ts us o → (a b : RawExpr) → IsLonger (kind.Two o a b) s (extent a) (with_both (expr_depth a) (expr_depth b))

sum_two : (ts us : List Terminal) (o : Operator) → SumSign ts us o → (a b : RawExpr)
    → IsLonger (kind.Two o a b) sums (extent a) (with_both (expr_depth a) (expr_depth b))
unfolding SumSign
sum_two ts us o (the_one d) a b =
    subst (λ p. IsLonger (kind.Two p a b) sums (extent a) (with_both (expr_depth a) (expr_depth b))) (sym d.next.is) (record { is = of_two operator.Plus a b })
sum_two ts us o (the_other d) a b =
    subst (λ p. IsLonger (kind.Two p a b) sums (extent a) (with_both (expr_depth a) (expr_depth b))) (sym d.next.is) (record { is = of_two operator.Minus a b })

pub sum_links : Links SumSign sums
sum_links = record { two = sum_two }

pub and_links : Links (Joins sign.And operator.And) ands
and_links =
    record { two = λ ts us o d a b. subst (λ p. IsLonger (kind.Two p a b) ands (extent a) (with_both (expr_depth a) (expr_depth b))) (sym d.next.is) (record { is = of_two operator.And a b }) }

pub or_links : Links (Joins sign.Or operator.Or) ors
or_links =
    record { two = λ ts us o d a b. subst (λ p. IsLonger (kind.Two p a b) ors (extent a) (with_both (expr_depth a) (expr_depth b))) (sym d.next.is) (record { is = of_two operator.Or a b }) }

pub relation_two : (ts us : List Terminal) (o : Operator) → RelationSign ts us o → (a b : RawExpr)
    → IsSingle (kind.Two o a b) (with_both (expr_depth a) (expr_depth b))
unfolding RelationSign
relation_two ts us o (the_one d) a b =
    subst (λ p. IsSingle (kind.Two p a b) (with_both (expr_depth a) (expr_depth b))) (sym d.next.is) (record { is = of_two operator.Equal a b })
relation_two ts us o (the_other (the_one d)) a b =
    subst (λ p. IsSingle (kind.Two p a b) (with_both (expr_depth a) (expr_depth b))) (sym d.next.is) (record { is = of_two operator.NotEqual a b })
relation_two ts us o (the_other (the_other (the_one d))) a b =
    subst (λ p. IsSingle (kind.Two p a b) (with_both (expr_depth a) (expr_depth b))) (sym d.next.is) (record { is = of_two operator.AtMost a b })
relation_two ts us o (the_other (the_other (the_other d))) a b =
    subst (λ p. IsSingle (kind.Two p a b) (with_both (expr_depth a) (expr_depth b))) (sym d.next.is) (record { is = of_two operator.Below a b })

-- ---- chains and their runs

chain_run : {Op : Spelled Operator} {m : Spelled RawExprKind} (r s : Run) → Links Op s → ((n : ℕ) → only s n r ≡ 0)
    → (start : List Terminal) (x : RawExprKind) (ts rest : List Terminal) (z : RawExprKind)
    → run_of r x ≡ 0 → Chain Op m start x ts rest z → run_of r z ≡ 0
chain_run r s links other start x ts rest z none Chain.ends = none
chain_run r s links other start x ts rest z none (Chain.goes_on {us = us} {vs = vs} {o = o} y d f more) =
    chain_run r s links other start (kind.Two o (placed_at x start) y) vs rest z (other_run r s _ _ _ (links.two ts us o d (placed_at x start) y) other) more

chained_run : {Op : Spelled Operator} (m : Spelled RawExprKind) (r s : Run) → Links Op s → ((n : ℕ) → only s n r ≡ 0)
    → ((ts rest : List Terminal) (x : RawExprKind) → m ts rest x → run_of r x ≡ 0)
    → (ts rest : List Terminal) (x : RawExprKind) → Chained Op m ts rest x → run_of r x ≡ 0
unfolding Chained
chained_run m r s links other item ts rest x d =
    chain_run r s links other d.value d.next.value d.next.middle rest x (item d.middle d.next.middle d.next.value d.next.one) d.next.next

sum_run : (m : Spelled RawExprKind) (r : Run) → ((n : ℕ) → only signs n r ≡ 0) → ((n : ℕ) → only sums n r ≡ 0)
    → (ts rest : List Terminal) (x : RawExprKind) → Sum m ts rest x → run_of r x ≡ 0
unfolding Sum
sum_run m r a b ts rest x d = chained_run (Product m) r sums sum_links b (product_run m r a) ts rest x d

related_run : (m : Spelled RawExprKind) (r : Run) (start : List Terminal) (held : RawExprKind) → run_of r held ≡ 0
    → (ts rest : List Terminal) (x : RawExprKind)
    → Either (Yields held) (RelationSign >>= λ o. Whole (Sum m) >>= λ y. Yields (kind.Two o (placed_at held start) y)) ts rest x → run_of r x ≡ 0
related_run m r start held none ts rest x (the_one d) = ap (run_of r) d.is ∙ none
related_run m r start held none ts rest x (the_other d) =
    single_run r _ _ (relation_two ts d.middle d.value d.one (placed_at held start) d.next.value) d.next.next.is

pub relation_run : (m : Spelled RawExprKind) (r : Run) → ((n : ℕ) → only signs n r ≡ 0)
    → ((n : ℕ) → only sums n r ≡ 0) → (ts rest : List Terminal) (x : RawExprKind) → Relation m ts rest x
    → run_of r x ≡ 0
unfolding Relation
relation_run m r a b ts rest x d =
    related_run m r d.value d.next.value (sum_run m r a b d.middle d.next.middle d.next.value d.next.one) d.next.middle rest x d.next.next

pub and_run : (m : Spelled RawExprKind) (r : Run) → ((n : ℕ) → only signs n r ≡ 0) → ((n : ℕ) → only sums n r ≡ 0)
    → ((n : ℕ) → only ands n r ≡ 0) → (ts rest : List Terminal) (x : RawExprKind) → And m ts rest x → run_of r x ≡ 0
unfolding And
and_run m r a b c ts rest x d = chained_run (Relation m) r ands and_links c (relation_run m r a b) ts rest x d

pub or_run : (m : Spelled RawExprKind) (ts rest : List Terminal) (x : RawExprKind) → Or m ts rest x
    → run_of implications x ≡ 0
unfolding Or
or_run m ts rest x d =
    chained_run (And m) implications ors or_links (λ n. refl) (and_run m implications (λ n. refl) (λ n. refl) (λ n. refl)) ts rest x d

-- ---- runs that fit

-- an expression that fits, with one sign or operator more
pub fits_longer : (left : ℕ) (s : Run) (x : RawExprKind) (e : Extent) (d : Depth) → IsLonger x s e d
    → suc (e.run s) ≤ 64 → Fits left d → FitsKind left x
fits_longer left s x e d i small fits =
    fits_is left (ap (λ (z : Extent). z.depth) i.is) (fits_run left (suc (e.run s)) d small fits)

pub longer_fits : (left : ℕ) (s : Run) (x : RawExprKind) (e : Extent) (d : Depth) → IsLonger x s e d → FitsKind left x
    → Fits left d
longer_fits left s x e d i fits =
    run_fits left (suc (e.run s)) d (fits_is left (sym (ap (λ (z : Extent). z.depth) i.is)) fits)

pub longer_small : (left : ℕ) (s : Run) (x : RawExprKind) (e : Extent) (d : Depth) → IsLonger x s e d
    → FitsKind left x → suc (e.run s) ≤ 64
longer_small left s x e d i fits =
    run_small left (suc (e.run s)) d (fits_is left (sym (ap (λ (z : Extent). z.depth) i.is)) fits)

-- a run of prefix signs that fits is not too long
pub signs_small : {m : Spelled RawExprKind} (left : ℕ) (ts rest : List Terminal) (x : RawExprKind) → Unary m ts rest x
    → FitsKind left x → run_of signs x ≤ 64
signs_small {m = m} left ts rest x (Unary.operand d) fits =
    let e : run_of signs x ≡ 0 = operand_run m signs ts rest x d in omega (arith, e)
signs_small left ts rest x (Unary.negated {us = us} {x = y} p d) fits =
    let i = of_not (placed_at y us) in subst (λ n. n ≤ 64) (sym (own_run signs _ _ _ i)) (longer_small left signs _ _ _ i fits)
signs_small left ts rest x (Unary.minus {us = us} {x = y} p d) fits =
    let i = of_minus (placed_at y us) in subst (λ n. n ≤ 64) (sym (own_run signs _ _ _ i)) (longer_small left signs _ _ _ i fits)

pub of_implies : (a b : RawExpr)
    → IsLonger (kind.Two operator.Implies a b) implications (extent b) (with_both (expr_depth a) (expr_depth b))
of_implies a b = record { is = of_two operator.Implies a b }

-- nor is a chain of `==>`
pub implications_small : {m : Spelled RawExprKind} (left : ℕ) (ts rest : List Terminal) (x : RawExprKind)
    → Implied m ts rest x → FitsKind left x → run_of implications x ≤ 64
implications_small {m = m} left ts rest x (Implied.plain d) fits =
    let e : run_of implications x ≡ 0 = or_run m ts rest x d in omega (arith, e)
implications_small left ts rest x (Implied.implies {vs = vs} {y = y} z us line d p f) fits =
    let i = of_implies (placed_at z ts) (placed_at y vs) in subst (λ n. n ≤ 64) (sym (own_run implications _ _ _ i)) (longer_small left implications _ _ _ i fits)

-- ---- parts of a chain that leans to the left

-- an operator more behind what is held, with what stands behind it
pub linked_fits : {Op : Spelled Operator} (left : ℕ) (s : Run) → Links Op s
    → (start ts us : List Terminal) (o : Operator) → Op ts us o → (held : RawExprKind) (y : RawExpr)
    → run_of s held < 64
    → FitsKind left held → FitsExpr left y → FitsKind left (kind.Two o (placed_at held start) y)
linked_fits left s links start ts us o d held y small f g =
    let a = placed_at held start in
    let e : (extent a).run s ≡ run_of s held = run_placed s held (first_line start) in
    fits_longer left s _ _ _ (links.two ts us o d a y) (omega (arith, small, e)) (fits_both left (expr_depth a) (expr_depth y) (fits_placed left held (first_line start) f) g)

pub fits_held : {Op : Spelled Operator} (left : ℕ) (s : Run) → Links Op s
    → (start ts us : List Terminal) (o : Operator) → Op ts us o → (held : RawExprKind) (y : RawExpr)
    → FitsKind left (kind.Two o (placed_at held start) y) → FitsKind left held
fits_held left s links start ts us o d held y f =
    let a = placed_at held start in
    placed_fits left held (first_line start) (both_first left (expr_depth a) (expr_depth y) (longer_fits left s _ _ _ (links.two ts us o d a y) f))

pub fits_behind : {Op : Spelled Operator} (left : ℕ) (s : Run) → Links Op s
    → (start ts us : List Terminal) (o : Operator) → Op ts us o → (held : RawExprKind) (y : RawExpr)
    → FitsKind left (kind.Two o (placed_at held start) y) → FitsExpr left y
fits_behind left s links start ts us o d held y f =
    let a = placed_at held start in
    both_second left (expr_depth a) (expr_depth y) (longer_fits left s _ _ _ (links.two ts us o d a y) f)

pub linked_run : {Op : Spelled Operator} (s : Run) → Links Op s → (start ts us : List Terminal) (o : Operator)
    → Op ts us o → (held : RawExprKind) (y : RawExpr)
    → run_of s (kind.Two o (placed_at held start) y) ≡ suc (run_of s held)
linked_run s links start ts us o d held y =
    own_run s _ _ _ (links.two ts us o d (placed_at held start) y) ∙ ap suc (run_placed s held (first_line start))

pub linked_small : {Op : Spelled Operator} (left : ℕ) (s : Run) → Links Op s
    → (start ts us : List Terminal) (o : Operator) → Op ts us o → (held : RawExprKind) (y : RawExpr)
    → FitsKind left (kind.Two o (placed_at held start) y) → run_of s held < 64
linked_small left s links start ts us o d held y f =
    let a = placed_at held start in
    let small : suc ((extent a).run s) ≤ 64 = longer_small left s _ _ _ (links.two ts us o d a y) f in
    let e : (extent a).run s ≡ run_of s held = run_placed s held (first_line start) in
    omega (arith, small, e)

-- what is held fits where the whole chain does
pub chain_back : {Op : Spelled Operator} {m : Spelled RawExprKind} (left : ℕ) (s : Run) → Links Op s
    → (start : List Terminal) (held : RawExprKind) (ts rest : List Terminal) (z : RawExprKind)
    → Chain Op m start held ts rest z
    → FitsKind left z → FitsKind left held
chain_back left s links start held ts rest z Chain.ends fits = fits
chain_back left s links start held ts rest z (Chain.goes_on {us = us} {vs = vs} {o = o} y d f more) fits =
    fits_held left s links start ts us o d held y (chain_back left s links start (kind.Two o (placed_at held start) y) vs rest z more fits)
