-- What is read as an expression is spelled.
use Rattle.std.proofs.Common.{◌≡◌, ℕ, zero, suc, ◌-◌, ◌==◌, ◌||◌, Bool, true, false, if◌then◌else◌, List, [], ◌∷◌, Ok, Err, Option, Some, None, is_some, refl, sym, ap, ◌∙◌, subst}
use Rattle.sync_base.proofs.Basics.{some_is}
use Rattle.sync_lex.specs.declared.signs.Sign.{Sign}
use Rattle.sync_lex.specs.declared.signs.Sign.TheVariants as sign
use Rattle.sync_lex.specs.contracts.signs.Sign.{the_type}
use Rattle.sync_lex.specs.declared.terminals.TerminalKind.{TerminalKind}
use Rattle.sync_lex.specs.declared.terminals.TerminalKind.TheVariants as what
use Rattle.sync_lex.specs.declared.terminals.Terminal.{Terminal}
use Rattle.sync_lex.specs.Signs.{is_same}
use Rattle.sync_lex.specs.Terminals.{is_sign}
use Rattle.sync_base.specs.Outcome as outcome
use Rattle.sync_parse_exprs.specs.declared.faults.Fault.TheVariants as fault
use Rattle.sync_parse_exprs.specs.declared.expressions.RawExpr.{RawExpr}
use Rattle.sync_parse_exprs.specs.declared.expressions.RawExprKind.{RawExprKind}
use Rattle.sync_parse_exprs.specs.declared.expressions.RawExprKind.TheVariants as kind
use Rattle.sync_parse_exprs.specs.declared.expressions.Special.{Special}
use Rattle.sync_parse_exprs.specs.declared.expressions.Function.{Function}
use Rattle.sync_parse_exprs.specs.declared.expressions.Operator.{Operator}
use Rattle.sync_parse_exprs.specs.declared.expressions.Operator.TheVariants as operator
use Rattle.sync_parse_exprs.specs.Terminals.{Read, Reader, first_line}
use Rattle.sync_parse_exprs.specs.Expressions.{placed, whole, special_of, function_of, relation_of, sum_of, and_of, or_of, factor_of, begins_operand, terminal_operand, sign_operand, operand_said, operand, prefixed, unary_with, unary, times, product, chain, chained, sums, related, relation, ands, ors, implied, implies, inside, expr_at, exprs_at}
use Rattle.sync_parse_forms.specs.Relations.{Spelled, The, Yields, ◌>>=◌, Either, the_one, the_other}
use Rattle.sync_parse_grammar.specs.Expressions.{placed_at, Whole, NoNumber, Operand, Unary, Product, Chain, Chained, Joins, SumSign, Sum, RelationSign, Relation, And, Or, Implied, Nested, AnExpr, Args}
use Rattle.sync_parse_forms.proofs.Sounds.{Sound, ok_is, stops, yields, then_sound, began, here, first, second, either, tested, is_the, sign_sound, name_sound, number_sound, one_of, the_sign, round_sound}
use denote.Enum.Bare.{same_true}

pub whole_sound : {m : Spelled RawExprKind} {read : Reader RawExprKind} → ((ts : List Terminal) → Sound m ts (read ts)) → (ts : List Terminal) → Sound (Whole m) ts (whole read ts)
whole_sound sound ts = here (then_sound (sound ts) λ v. yields)

-- what a whole expression is
pub whole_is : {m : Spelled RawExprKind} {ts rest : List Terminal} {e : RawExpr} → Whole m ts rest e → (x : RawExprKind) × m ts rest x × (e ≡ placed_at x ts)
whole_is {m = m} {ts = ts} {rest = rest} d =
    let one = subst (λ us. m us d.next.middle d.next.value) (sym d.one.none) d.next.one in
    (d.next.value, subst (λ us. m ts us d.next.value) d.next.next.none one, d.next.next.is ∙ ap (λ us. placed_at d.next.value us) d.one.is)

-- ---- operands

sign_is : (s t : Sign) → is_same s t ≡ true → s ≡ t
sign_is s t e = same_true the_type tt s t e

terminal_case : {m : Spelled RawExprKind} (inner : Reader RawExprKind) → ((ts : List Terminal) → Sound m ts (inner ts)) → (left : ℕ) (w : Terminal) (ws : List Terminal) (s : Sign) → w.what ≡ what.Sign s
    → (terminal : Option Special) → special_of s ≡ terminal → (f : Option Function) → function_of s ≡ f
    → Sound (Operand m) (w ∷ ws) (terminal_operand inner left w.line terminal f ws)
unfolding Operand NoNumber
terminal_case inner sound left w ws s is (Some terminal) found f e = second (second (second (second (first (began _ _ (one_of special_of w ws s terminal is found) yields)))))
terminal_case inner sound left w ws s is None found (Some f) e = second (second (second (second (second (first (began _ _ (one_of function_of w ws s f is e)
    (then_sound (round_sound left (whole inner) (whole_sound sound) ws) λ v. yields)))))))
terminal_case inner sound left w ws s is None found None e = stops

sign_case : {m : Spelled RawExprKind} (inner : Reader RawExprKind) → ((ts : List Terminal) → Sound m ts (inner ts)) → (left : ℕ) (w : Terminal) (ws : List Terminal) (s : Sign) → w.what ≡ what.Sign s
    → Sound (Operand m) (w ∷ ws) (sign_operand inner left s w.line ws)
unfolding sign_operand Operand NoNumber
sign_case inner sound left w ws s is = either (begins_operand s) (either (left == 0) stops
    (tested (is_same s sign.Nil) (λ e. second (second (second (first (began _ _ (the_sign w ws sign.Nil (is ∙ ap what.Sign (sign_is s sign.Nil e))) yields)))))
    (tested (is_same s sign.Dollar) (λ e. second (second (first (began _ _ (the_sign w ws sign.Dollar (is ∙ ap what.Sign (sign_is s sign.Dollar e)))
    (then_sound (name_sound left ws) λ v. yields)))))
    (tested (is_same s sign.OpenRound) (λ e. second (second (second (second (second (second (began _ _ (the_sign w ws sign.OpenRound (is ∙ ap what.Sign (sign_is s sign.OpenRound e)))
    (then_sound (whole_sound sound ws) λ v. then_sound (sign_sound (left - 1) sign.CloseRound v.1) λ c. yields))))))))
    (terminal_case inner sound left w ws s is (special_of s) refl (function_of s) refl))))) stops

operand_case : {m : Spelled RawExprKind} (inner : Reader RawExprKind) → ((ts : List Terminal) → Sound m ts (inner ts)) → (left : ℕ) (w : Terminal) (ws : List Terminal) (x : TerminalKind) → w.what ≡ x
    → Sound (Operand m) (w ∷ ws) (operand_said inner left w.line ws x)
unfolding Operand NoNumber
operand_case inner sound left w ws (what.Number n) is = either (left == 0) stops (first (began _ _ (record { terminal = w; stands = refl; is = is }) yields))
operand_case inner sound left w ws (what.Name n strategy) is = either (left == 0) stops
    (second (first (began _ _ (record { terminal = w; number = n; strategy = strategy; stands = refl; is = is; name_is = refl }) yields)))
operand_case inner sound left w ws (what.Sign s) is = sign_case inner sound left w ws s is

pub operand_sound : {m : Spelled RawExprKind} (inner : Reader RawExprKind) → ((ts : List Terminal) → Sound m ts (inner ts)) → (left : ℕ) (ts : List Terminal) → Sound (Operand m) ts (operand inner left ts)
unfolding operand
operand_sound inner sound left [] = stops
operand_sound inner sound left (w ∷ ws) = operand_case inner sound left w ws w.what refl

-- ---- prefix signs

prefixed_sound : {m : Spelled RawExprKind} (left : ℕ) (many : Bool) (again : Reader RawExprKind) → ((ts : List Terminal) → Sound (Unary m) ts (again ts))
    → (make : RawExpr → RawExprKind) (s : Sign)
    → ((ts us rest : List Terminal) (line : ℕ) (x : RawExprKind) → The s ts us line → Unary m us rest x → Unary m ts rest (make (placed_at x us)))
    → (w : Terminal) (ws : List Terminal) → w.what ≡ what.Sign s → Sound (Unary m) (w ∷ ws) (prefixed left many again make w.line ws)
prefixed_sound {m = m} left many again sound make s made w ws is = either ((left == 0) || many) stops (go (whole again ws) refl)
  where
    go : (r : Read RawExpr) → whole again ws ≡ r → Sound (Unary m) (w ∷ ws) (outcome.◌>>=◌ r (λ x. Ok (make x.0, x.1)))
    go (Err f) e = stops
    go (Ok v) e = record {
      holds = λ x rest h.
          let d = whole_is ((whole_sound sound ws).holds v.0 v.1 e) in
          let at : Unary m (w ∷ ws) v.1 (make (placed_at d.0 ws)) = made (w ∷ ws) ws v.1 w.line d.0 (the_sign w ws s is) d.1 in
          let same : make (placed_at d.0 ws) ≡ x = ap make (sym d.2) ∙ ap (λ z. z.0) (ok_is h) in
          subst (λ us. Unary m (w ∷ ws) us x) (ap (λ z. z.1) (ok_is h)) (subst (Unary m (w ∷ ws) v.1) same at);
    }

unary_case : {m : Spelled RawExprKind} (inner : Reader RawExprKind) → ((ts : List Terminal) → Sound m ts (inner ts)) → (left : ℕ) (many : Bool) (again : Reader RawExprKind)
    → ((ts : List Terminal) → Sound (Unary m) ts (again ts)) → (ts : List Terminal) → Sound (Unary m) ts (unary_with inner left many again ts)
unary_case inner sound left many again more [] = stops
unary_case inner sound left many again more (w ∷ ws) =
    tested (is_sign w sign.Bang) (λ e. prefixed_sound left many again more kind.Not sign.Bang (λ ts us rest line x p d. Unary.negated p d) w ws (is_the w sign.Bang e))
    (tested (is_sign w sign.Minus) (λ e. prefixed_sound left many again more kind.Minus sign.Minus (λ ts us rest line x p d. Unary.minus p d) w ws (is_the w sign.Minus e))
    (record { holds = λ x rest e. Unary.operand ((operand_sound inner sound left (w ∷ ws)).holds x rest e) }))

pub unary_sound : {m : Spelled RawExprKind} (inner : Reader RawExprKind) → ((ts : List Terminal) → Sound m ts (inner ts)) → (left run : ℕ) (ts : List Terminal) → Sound (Unary m) ts (unary inner left run ts)
unfolding unary
unary_sound inner sound left zero ts = unary_case inner sound left true (λ ws. Err fault.Ended) (λ ws. stops) ts
unary_sound inner sound left (suc run) ts = unary_case inner sound left false (unary inner left run) (unary_sound inner sound left run) ts

product_case : {m : Spelled RawExprKind} (inner : Reader RawExprKind) → ((ts : List Terminal) → Sound m ts (inner ts)) → (left : ℕ) (factor : Option ℕ) (ts : List Terminal)
    → Sound (Product m) ts (times inner left factor ts)
unfolding Product
product_case inner sound left None ts = first (unary_sound inner sound left 64 ts)
product_case inner sound left (Some factor) ts = second (
    then_sound (number_sound left ts) λ n.
    then_sound (sign_sound left sign.Star n.1) λ star.
    then_sound (whole_sound (unary_sound inner sound left 64) star.1) λ x. yields)

pub product_sound : {m : Spelled RawExprKind} (inner : Reader RawExprKind) → ((ts : List Terminal) → Sound m ts (inner ts)) → (left : ℕ) (ts : List Terminal) → Sound (Product m) ts (product inner left ts)
unfolding product
product_sound inner sound left ts = product_case inner sound left (factor_of ts) ts

-- ---- chains

pub record Table (Op : Spelled Operator) (op : Terminal → Option Operator) : Type 0 where
  pub has : (w : Terminal) (ws : List Terminal) (o : Operator) → op w ≡ Some o → Op (w ∷ ws) ws o

chain_ends : {Op : Spelled Operator} {m : Spelled RawExprKind} {start : List Terminal} {held : RawExprKind} {ts : List Terminal} → Sound (Chain Op m start held) ts (Ok (held, ts))
chain_ends {Op = Op} {m = m} {start = start} {held = held} {ts = ts} = record {
  holds = λ x rest e.
      subst (λ us. Chain Op m start held ts us x) (ap (λ z. z.1) (ok_is e)) (subst (Chain Op m start held ts ts) (ap (λ z. z.0) (ok_is e)) Chain.ends);
}

chain_case : {Op : Spelled Operator} {m : Spelled RawExprKind} (op : Terminal → Option Operator) → Table Op op → (item : Reader RawExprKind) → ((ts : List Terminal) → Sound m ts (item ts))
    → (start : List Terminal) (count : ℕ) → ((held : RawExprKind) (ts : List Terminal) → Sound (Chain Op m start held) ts (chain op item (first_line start) count held ts))
    → (held : RawExprKind) (w : Terminal) (ws : List Terminal) (o : Operator) → op w ≡ Some o
    → Sound (Chain Op m start held) (w ∷ ws) (outcome.◌>>=◌ (whole item ws) (λ x. chain op item (first_line start) count (kind.Two o (placed held (first_line start)) x.0) x.1))
chain_case {Op = Op} {m = m} op table item sound start count again held w ws o is = go (whole item ws) refl
  where
    go : (r : Read RawExpr) → whole item ws ≡ r
        → Sound (Chain Op m start held) (w ∷ ws) (outcome.◌>>=◌ r (λ x. chain op item (first_line start) count (kind.Two o (placed held (first_line start)) x.0) x.1))
    go (Err f) e = stops
    go (Ok v) e = record {
      holds = λ x rest h.
          Chain.goes_on v.0 (table.has w ws o is) ((whole_sound sound ws).holds v.0 v.1 e) ((again (kind.Two o (placed held (first_line start)) v.0) v.1).holds x rest h);
    }

chain_tested : {Op : Spelled Operator} {m : Spelled RawExprKind} (op : Terminal → Option Operator) → Table Op op → (item : Reader RawExprKind) → ((ts : List Terminal) → Sound m ts (item ts))
    → (start : List Terminal) (count : ℕ) → ((held : RawExprKind) (ts : List Terminal) → Sound (Chain Op m start held) ts (chain op item (first_line start) count held ts))
    → (held : RawExprKind) (w : Terminal) (ws : List Terminal) (x : Option Operator) → op w ≡ x
    → Sound (Chain Op m start held) (w ∷ ws) (elim x [
      | None ↦ Ok (held, w ∷ ws)
      | Some o ↦ outcome.◌>>=◌ (whole item ws) (λ x. chain op item (first_line start) count (kind.Two o (placed held (first_line start)) x.0) x.1)
    ])
chain_tested op table item sound start count again held w ws None is = chain_ends
chain_tested op table item sound start count again held w ws (Some o) is = chain_case op table item sound start count again held w ws o is

chain_sound : {Op : Spelled Operator} {m : Spelled RawExprKind} (op : Terminal → Option Operator) → Table Op op → (item : Reader RawExprKind) → ((ts : List Terminal) → Sound m ts (item ts))
    → (start : List Terminal) (count : ℕ) (held : RawExprKind) (ts : List Terminal) → Sound (Chain Op m start held) ts (chain op item (first_line start) count held ts)
unfolding chain
chain_sound op table item sound start count held [] = chain_ends
chain_sound op table item sound start zero held (w ∷ ws) = either (is_some (op w)) stops chain_ends
chain_sound {Op = Op} {m = m} op table item sound start (suc count) held (w ∷ ws) = chain_tested op table item sound start count (chain_sound op table item sound start count) held w ws (op w) refl

chained_sound : {Op : Spelled Operator} {m : Spelled RawExprKind} (op : Terminal → Option Operator) → Table Op op → (item : Reader RawExprKind) → ((ts : List Terminal) → Sound m ts (item ts))
    → (ts : List Terminal) → Sound (Chained Op m) ts (chained op item ts)
unfolding Chained
chained_sound op table item sound ts = here (then_sound (sound ts) λ v. chain_sound op table item sound ts 64 v.0 v.1)

-- ---- operators

joins : (w : Terminal) (ws : List Terminal) (s : Sign) (o p : Operator) → is_sign w s ≡ true → o ≡ p → Joins s o (w ∷ ws) ws p
joins w ws s o p is e = record { value = w.line; middle = ws; one = the_sign w ws s (is_the w s is); next = record { none = refl; is = sym e } }

pub or_table : Table (Joins sign.Or operator.Or) or_of
or_table = record { has = λ w ws o e. go w ws o (is_sign w sign.Or) refl e }
  where
    go : (w : Terminal) (ws : List Terminal) (o : Operator) (c : Bool) → is_sign w sign.Or ≡ c → (if c then Some operator.Or else None) ≡ Some o → Joins sign.Or operator.Or (w ∷ ws) ws o
    go w ws o true is e = joins w ws sign.Or operator.Or o is (some_is e)
    go w ws o false is e = absurd cc

pub and_table : Table (Joins sign.And operator.And) and_of
and_table = record { has = λ w ws o e. go w ws o (is_sign w sign.And) refl e }
  where
    go : (w : Terminal) (ws : List Terminal) (o : Operator) (c : Bool) → is_sign w sign.And ≡ c → (if c then Some operator.And else None) ≡ Some o → Joins sign.And operator.And (w ∷ ws) ws o
    go w ws o true is e = joins w ws sign.And operator.And o is (some_is e)
    go w ws o false is e = absurd cc

-- one row of a table with several
row_of : {m : Spelled Operator} (w : Terminal) (ws : List Terminal) (s : Sign) (o p : Operator) (c : Bool) (other : Option Operator) → is_sign w s ≡ c
    → (if c then Some o else other) ≡ Some p → (other ≡ Some p → m (w ∷ ws) ws p) → Either (Joins s o) m (w ∷ ws) ws p
row_of w ws s o p true other is e more = the_one (joins w ws s o p is (some_is e))
row_of w ws s o p false other is e more = the_other (more e)

last_row : (w : Terminal) (ws : List Terminal) (s : Sign) (o p : Operator) (c : Bool) → is_sign w s ≡ c → (if c then Some o else None) ≡ Some p → Joins s o (w ∷ ws) ws p
last_row w ws s o p true is e = joins w ws s o p is (some_is e)
last_row w ws s o p false is e = absurd cc

pub sum_table : Table SumSign sum_of
unfolding sum_of SumSign
sum_table = record {
  has = λ w ws o e. row_of w ws sign.Plus operator.Plus o (is_sign w sign.Plus) _ refl e
      λ f. last_row w ws sign.Minus operator.Minus o (is_sign w sign.Minus) refl f;
}

pub relation_table : Table RelationSign relation_of
unfolding relation_of RelationSign
relation_table = record {
  has = λ w ws o e. row_of w ws sign.Equal operator.Equal o (is_sign w sign.Equal) _ refl e
      λ f. row_of w ws sign.NotEqual operator.NotEqual o (is_sign w sign.NotEqual) _ refl f
      λ g. row_of w ws sign.AtMost operator.AtMost o (is_sign w sign.AtMost) _ refl g
      λ h. last_row w ws sign.Below operator.Below o (is_sign w sign.Below) refl h;
}

-- ---- the levels

pub sum_sound : {m : Spelled RawExprKind} (inner : Reader RawExprKind) → ((ts : List Terminal) → Sound m ts (inner ts)) → (left : ℕ) (ts : List Terminal) → Sound (Sum m) ts (sums inner left ts)
unfolding sums Sum
sum_sound inner sound left = chained_sound sum_of sum_table (product inner left) (product_sound inner sound left)

-- what a relation may have behind its first side
related_case : {m : Spelled RawExprKind} (item : Reader RawExprKind) → ((ts : List Terminal) → Sound m ts (item ts)) → (start : List Terminal) (held : RawExprKind) (w : Terminal) (ws : List Terminal)
    → (x : Option Operator) → relation_of w ≡ x
    → Sound (Either (Yields held) (do
      o ← RelationSign
      y ← Whole m
      Yields (kind.Two o (placed_at held start) y))) (w ∷ ws) (elim x [
        | None ↦ Ok (held, w ∷ ws)
        | Some o ↦ outcome.◌>>=◌ (whole item ws) (λ x. Ok (kind.Two o (placed held (first_line start)) x.0, x.1))
      ])
related_case item sound start held w ws None is = first yields
related_case item sound start held w ws (Some o) is = second (began _ _ (relation_table.has w ws o is) (then_sound (whole_sound sound ws) λ v. yields))

related_sound : {m : Spelled RawExprKind} (item : Reader RawExprKind) → ((ts : List Terminal) → Sound m ts (item ts)) → (start : List Terminal) (held : RawExprKind) (ts : List Terminal)
    → Sound (Either (Yields held) (do
      o ← RelationSign
      y ← Whole m
      Yields (kind.Two o (placed_at held start) y))) ts (related item (first_line start) held ts)
related_sound item sound start held [] = first yields
related_sound item sound start held (w ∷ ws) = related_case item sound start held w ws (relation_of w) refl

pub relation_sound : {m : Spelled RawExprKind} (inner : Reader RawExprKind) → ((ts : List Terminal) → Sound m ts (inner ts)) → (left : ℕ) (ts : List Terminal) → Sound (Relation m) ts (relation inner left ts)
unfolding relation Relation
relation_sound inner sound left ts = here (then_sound (sum_sound inner sound left ts) λ v. related_sound (sums inner left) (sum_sound inner sound left) ts v.0 v.1)

pub and_sound : {m : Spelled RawExprKind} (inner : Reader RawExprKind) → ((ts : List Terminal) → Sound m ts (inner ts)) → (left : ℕ) (ts : List Terminal) → Sound (And m) ts (ands inner left ts)
unfolding ands And
and_sound inner sound left = chained_sound and_of and_table (relation inner left) (relation_sound inner sound left)

pub or_sound : {m : Spelled RawExprKind} (inner : Reader RawExprKind) → ((ts : List Terminal) → Sound m ts (inner ts)) → (left : ℕ) (ts : List Terminal) → Sound (Or m) ts (ors inner left ts)
unfolding ors Or
or_sound inner sound left = chained_sound or_of or_table (ands inner left) (and_sound inner sound left)

-- what may follow from a first side that stands at ts
implied_end : {m : Spelled RawExprKind} (many : Bool) (right : Reader RawExprKind) → ((ts : List Terminal) → Sound (Implied m) ts (right ts)) → (ts us : List Terminal) (held : RawExprKind) → Or m ts us held
    → Sound (λ vs rest x. Implied m ts rest x) us (implied many right (first_line ts) held us)
implied_end {m = m} many right sound ts us held d = go us d
  where
    ended : (us : List Terminal) → Or m ts us held → Sound (λ vs rest x. Implied m ts rest x) us (Ok (held, us))
    ended us d = record { holds = λ x rest e. subst (λ vs. Implied m ts vs x) (ap (λ z. z.1) (ok_is e)) (subst (Implied m ts us) (ap (λ z. z.0) (ok_is e)) (Implied.plain d)) }

    joined : (w : Terminal) (ws : List Terminal) → Or m ts (w ∷ ws) held → w.what ≡ what.Sign sign.Implies → (r : Read RawExpr) → whole right ws ≡ r
        → Sound (λ vs rest x. Implied m ts rest x) (w ∷ ws) (outcome.◌>>=◌ r (λ x. Ok (kind.Two operator.Implies (placed held (first_line ts)) x.0, x.1)))
    joined w ws d is (Err f) e = stops
    joined w ws d is (Ok v) e = record {
      holds = λ x rest h.
          let y = whole_is ((whole_sound sound ws).holds v.0 v.1 e) in
          let at : Implied m ts v.1 (kind.Two operator.Implies (placed_at held ts) (placed_at y.0 ws)) = Implied.implies held (w ∷ ws) w.line d (the_sign w ws sign.Implies is) y.1 in
          let same : kind.Two operator.Implies (placed_at held ts) (placed_at y.0 ws) ≡ x = ap (kind.Two operator.Implies (placed_at held ts)) (sym y.2) ∙ ap (λ z. z.0) (ok_is h) in
          subst (λ vs. Implied m ts vs x) (ap (λ z. z.1) (ok_is h)) (subst (Implied m ts v.1) same at);
    }

    go : (us : List Terminal) → Or m ts us held → Sound (λ vs rest x. Implied m ts rest x) us (implied many right (first_line ts) held us)
    go [] d = ended [] d
    go (w ∷ ws) d = tested (is_sign w sign.Implies) (λ e. either many stops (joined w ws d (is_the w sign.Implies e) (whole right ws) refl)) (ended (w ∷ ws) d)

implies_case : {m : Spelled RawExprKind} (many : Bool) (right : Reader RawExprKind) → ((ts : List Terminal) → Sound (Implied m) ts (right ts)) → (ts : List Terminal)
    → (r : Read RawExprKind) → Sound (Or m) ts r → Sound (Implied m) ts (outcome.◌>>=◌ r (λ x. implied many right (first_line ts) x.0 x.1))
implies_case many right sound ts (Err f) or_is = stops
implies_case many right sound ts (Ok v) or_is = record { holds = λ x rest e. (implied_end many right sound ts v.1 v.0 (or_is.holds v.0 v.1 refl)).holds x rest e }

pub implies_sound : {m : Spelled RawExprKind} (inner : Reader RawExprKind) → ((ts : List Terminal) → Sound m ts (inner ts)) → (left run : ℕ) (ts : List Terminal) → Sound (Implied m) ts (implies inner left run ts)
unfolding implies
implies_sound inner sound left zero ts = implies_case true (λ ws. Err fault.Ended) (λ ws. stops) ts (ors inner left ts) (or_sound inner sound left ts)
implies_sound inner sound left (suc run) ts = implies_case false (implies inner left run) (implies_sound inner sound left run) ts (ors inner left ts) (or_sound inner sound left ts)

-- ---- expressions

pub inside_sound : (left : ℕ) (ts : List Terminal) → Sound (Nested left) ts (inside left ts)
unfolding inside Nested
inside_sound zero ts = stops
inside_sound (suc below) ts = implies_sound (inside below) (inside_sound below) below 64 ts

-- an expression with brackets to some depth
deep : (left : ℕ) (ts : List Terminal) → Sound (λ us rest x. (depth : ℕ) × Nested depth us rest x) ts (inside left ts)
deep left ts = record { holds = λ x rest e. (left, (inside_sound left ts).holds x rest e) }

outer : (left : ℕ) (ts : List Terminal) → Sound (λ us rest x. (depth : ℕ) × Nested depth us rest x) ts (implies (inside left) left 64 ts)
unfolding Nested
outer left ts = record { holds = λ x rest e. (suc left, (implies_sound (inside left) (inside_sound left) left 64 ts).holds x rest e) }

pub expr_sound : (left : ℕ) (ts : List Terminal) → Sound AnExpr ts (expr_at left ts)
unfolding expr_at AnExpr
expr_sound left ts = whole_sound (outer left) ts

pub exprs_sound : (left : ℕ) (ts : List Terminal) → Sound Args ts (exprs_at left ts)
unfolding Args AnExpr
exprs_sound left ts = round_sound left (whole (inside left)) (whole_sound (deep left)) ts
