-- What is read as an expression is within the limits, and its terminals name what is shown of it.
use Rattle.std.proofs.Common.{◌≡◌, ◌≤◌, ℕ, zero, suc, List, [], ◌∷◌, ◌++◌, map, unsigned_abs, refl, sym, ap, ◌∙◌, subst, arith}
use Rattle.std.specs.List.{All}
use Rattle.std.proofs.lemmas.List.Elements.{All-head, All-tail}
use Rattle.sync_base.specs.declared.names.NameList.{NameList}
use Rattle.sync_lex.specs.declared.signs.Sign.{Sign}
use Rattle.sync_lex.specs.declared.signs.Sign.TheVariants as sign
use Rattle.sync_lex.specs.declared.terminals.Terminal.{Terminal}
use Rattle.sync_base.specs.Limits.{largest}
use Rattle.sync_parse_exprs.specs.declared.expressions.RawExpr.{RawExpr}
use Rattle.sync_parse_exprs.specs.declared.expressions.RawExprKind.{RawExprKind}
use Rattle.sync_parse_exprs.specs.declared.expressions.RawExprKind.TheVariants as kind
use Rattle.sync_parse_exprs.specs.declared.expressions.Function.{Function}
use Rattle.sync_parse_exprs.specs.declared.expressions.Special.{Special}
use Rattle.sync_parse_exprs.specs.declared.expressions.Operator.{Operator}
use Rattle.sync_parse_exprs.specs.declared.expressions.Operator.TheVariants as operator
use Rattle.sync_parse_exprs.specs.declared.raw_names.RawName.{RawName}
use Rattle.sync_parse_exprs.specs.Expressions.{signed}
use Rattle.sync_parse_forms.specs.Relations.{Spelled, AName, Yields, Either, the_one, the_other, Then}
use Rattle.sync_parse_grammar.specs.Expressions.{placed_at, Whole, NoNumber, Operand, Unary, operand, negated, minus as minus_before, Product, Chain, ends, goes_on, Chained, Joins, SumSign, Sum, RelationSign, Relation, And, Or, Implied, plain as no_implies, implies as and_implies, Nested, AnExpr, Args}
use Rattle.sync_print.specs.Exprs.{Joint, implies, either, both as conjunction, equal, at_most, below, plus, minus, Plain, number, name, param, nil, special, call, negation, times, two, Plains, joined, plain, plains_of}
use Rattle.sync_print.specs.Lexemes.{Lexeme, one, listed}
use Rattle.sync_print.specs.ShowExprs.{shown, all_shown, show_expr, function_sign, special_sign, between, left_of, right_of}
use Rattle.sync_print.proofs.Saying.{said, said-Number, said-Name, said-Param, said-Nil, said-Bracketed, said-Special, said-Call, said-Not, said-Minus, said-Times, said-Two, all_shown-of}
use Rattle.sync_print_spelling.specs.Limits.{ExprFits, AllFit}
use Rattle.sync_print_spelling.proofs.Levels.{says_placed}
use Rattle.sync_print_spelling.proofs.Told.{Tells, both, behind, nothing, silent, perhaps, number_shown, sign_read, one_of_read, number_read, name_told, none_read}
use Rattle.sync_print_spelling.proofs.ListsTold.{Reads, in_brackets}

-- ---- plain expressions

-- an expression is within the limits, and terminals name what is shown of it, and of its negation, at each place
pub record OfPlain (names : NameList) (e : Plain) (ts rest : List Terminal) : Type 0 where
  pub fits : ExprFits e
  pub at : (k : ℕ) → Tells names ((shown e).at k) ts rest
  pub negated : (k : ℕ) → Tells names ((shown e).negated k) ts rest

-- the same of an expression that is said
meant : {names : NameList} {e f : Plain} {ts rest : List Terminal} → f ≡ e → OfPlain names e ts rest → OfPlain names f ts rest
meant {names = names} {ts = ts} {rest = rest} same p = subst (λ z. OfPlain names z ts rest) (sym same) p

-- behind terminals that name nothing
led : {names : NameList} {e : Plain} {ts us rest : List Terminal} → Tells names [] ts us → OfPlain names e us rest → OfPlain names e ts rest
led d p = record { fits = p.fits; at = λ k. both d (p.at k); negated = λ k. both d (p.negated k) }

-- before terminals that name nothing
followed : {names : NameList} {e : Plain} {ts us rest : List Terminal} → OfPlain names e ts us → Tells names [] us rest → OfPlain names e ts rest
followed p d = record { fits = p.fits; at = λ k. behind (p.at k) d; negated = λ k. behind (p.negated k) d }

banged : {names : NameList} {xs : List Lexeme} {ts rest : List Terminal} → Tells names xs ts rest → Tells names (one sign.Bang ++ xs) ts rest
banged p = both (silent sign.Bang) p

of_number : {names : NameList} {ts rest : List Terminal} (n : ℕ) → n ≤ largest → Tells names [] ts rest → OfPlain names (number n) ts rest
of_number n fits d = let p = both d (number_shown n fits) in record { fits = fits; at = λ k. p; negated = λ k. banged p }

of_name : {names : NameList} {ts rest : List Terminal} {x : RawName} → AName ts rest x → OfPlain names (name x.name) ts rest
of_name d = let p = name_told d in record { fits = tt; at = λ k. p; negated = λ k. banged p }

of_param : {names : NameList} {ts rest : List Terminal} {x : RawName} → AName ts rest x → OfPlain names (param x.name) ts rest
of_param d = let p = both (silent sign.Dollar) (name_told d) in record { fits = tt; at = λ k. p; negated = λ k. banged p }

of_nil : {names : NameList} {ts rest : List Terminal} → Tells names [] ts rest → OfPlain names nil ts rest
of_nil d = let p = both d (silent sign.Nil) in record { fits = tt; at = λ k. p; negated = λ k. banged p }

of_special : {names : NameList} {ts rest : List Terminal} (w : Special) → Tells names [] ts rest → OfPlain names (special w) ts rest
of_special w d = let p = both d (silent (special_sign w)) in record { fits = tt; at = λ k. p; negated = λ k. banged p }

of_call : {names : NameList} {ts rest : List Terminal} (f : Function) (es : Plains) → AllFit es → Tells names (listed (all_shown es)) ts rest → OfPlain names (call f es) ts rest
of_call f es fits d =
    let p = both (both (both (silent (function_sign f)) (silent sign.OpenRound)) d) (silent sign.CloseRound) in
    record { fits = fits; at = λ k. p; negated = λ k. banged p }

of_negation : {names : NameList} {e : Plain} {ts rest : List Terminal} → OfPlain names e ts rest → OfPlain names (negation e) ts rest
of_negation p = record { fits = p.fits; at = p.negated; negated = λ k. banged (p.negated 6) }

of_times : {names : NameList} {e : Plain} {ts us rest : List Terminal} (n : ℕ) → n ≤ largest → Tells names [] ts us → OfPlain names e us rest → OfPlain names (times n e) ts rest
of_times {names = names} {e = e} {ts = ts} {rest = rest} n fits d p =
    let q : (k : ℕ) → Tells names ((shown (times n e)).at k) ts rest
    = λ k. both (both (both (both (perhaps _ sign.OpenRound) (both d (number_shown n fits))) (silent sign.Star)) (p.at 6)) (perhaps _ sign.CloseRound) in
    record { fits = (fits, p.fits); at = q; negated = λ k. banged (q 6) }

two_told : {names : NameList} {a b : Plain} {ts us vs rest : List Terminal} (o : Joint) (s : Sign) → OfPlain names a ts us → Tells names [] us vs → OfPlain names b vs rest
    → (k : ℕ) → Tells names (between (shown a) o s (shown b) k) ts rest
two_told o s p d q k = both (both (both (both (perhaps _ sign.OpenRound) (p.at (left_of o))) (both d (silent s))) (q.at (right_of o))) (perhaps _ sign.CloseRound)

of_two : {names : NameList} {a b : Plain} {ts us vs rest : List Terminal} (o : Joint) → OfPlain names a ts us → Tells names [] us vs → OfPlain names b vs rest → OfPlain names (two o a b) ts rest
of_two implies p d q = record { fits = (p.fits, q.fits); at = two_told implies sign.Implies p d q; negated = λ k. banged (two_told implies sign.Implies p d q 6) }
of_two either p d q = record { fits = (p.fits, q.fits); at = two_told either sign.Or p d q; negated = λ k. banged (two_told either sign.Or p d q 6) }
of_two conjunction p d q = record { fits = (p.fits, q.fits); at = two_told conjunction sign.And p d q; negated = λ k. banged (two_told conjunction sign.And p d q 6) }
of_two equal p d q = record { fits = (p.fits, q.fits); at = two_told equal sign.Equal p d q; negated = two_told equal sign.NotEqual p d q }
of_two at_most p d q = record { fits = (p.fits, q.fits); at = two_told at_most sign.AtMost p d q; negated = λ k. banged (two_told at_most sign.AtMost p d q 6) }
of_two below p d q = record { fits = (p.fits, q.fits); at = two_told below sign.Below p d q; negated = λ k. banged (two_told below sign.Below p d q 6) }
of_two plus p d q = record { fits = (p.fits, q.fits); at = two_told plus sign.Plus p d q; negated = λ k. banged (two_told plus sign.Plus p d q 6) }
of_two minus p d q = record { fits = (p.fits, q.fits); at = two_told minus sign.Minus p d q; negated = λ k. banged (two_told minus sign.Minus p d q 6) }

of_joined : {names : NameList} {a b : Plain} {ts us vs rest : List Terminal} (o : Operator) → OfPlain names a ts us → Tells names [] us vs → OfPlain names b vs rest → OfPlain names (joined o a b) ts rest
of_joined operator.Implies p d q = of_two implies p d q
of_joined operator.Or p d q = of_two either p d q
of_joined operator.And p d q = of_two conjunction p d q
of_joined operator.Equal p d q = of_two equal p d q
of_joined operator.NotEqual p d q = of_negation (of_two equal p d q)
of_joined operator.AtMost p d q = of_two at_most p d q
of_joined operator.Below p d q = of_two below p d q
of_joined operator.Plus p d q = of_two plus p d q
of_joined operator.Minus p d q = of_two minus p d q

-- ---- what productions give

-- a production of kinds of expressions reads what is within the limits, and its terminals name what is shown
pub record Kinds (names : NameList) (K : Spelled RawExprKind) : Type 0 where
  pub at : (ts rest : List Terminal) (x : RawExprKind) → K ts rest x → OfPlain names (said x) ts rest

-- the same of expressions
pub record Exprs (names : NameList) (M : Spelled RawExpr) : Type 0 where
  pub at : (ts rest : List Terminal) (e : RawExpr) → M ts rest e → OfPlain names (plain e) ts rest

-- the terminals of an operator name nothing
record Operators (names : NameList) (Op : Spelled Operator) : Type 0 where
  pub at : (ts rest : List Terminal) (o : Operator) → Op ts rest o → Tells names [] ts rest

-- a kind that a production ends with
yielded : {names : NameList} {x y : RawExprKind} {ts us rest : List Terminal} → Yields x us rest y → OfPlain names (said x) ts us → OfPlain names (said y) ts rest
yielded d p = meant (ap said d.is) (followed p (none_read d))

whole : {names : NameList} {K : Spelled RawExprKind} → Kinds names K → Exprs names (Whole K)
whole k = record {
  at = λ ts rest e d.
      let p = k.at d.middle d.next.middle d.next.value d.next.one in
      meant (ap plain d.next.next.is ∙ says_placed d.next.value _) (led (nothing d.one.none) (followed p (none_read d.next.next)));
}

pub shown_whole : {names : NameList} {M : Spelled RawExpr} → Exprs names M → Reads names M plain show_expr ExprFits
shown_whole m = record { at = λ ts rest e d. let p = m.at ts rest e d in record { fits = p.fits; tells = p.at 0 } }

-- ---- operands

all_fit : (es : List Plain) → All ExprFits es → AllFit (plains_of es)
all_fit [] fits = tt
all_fit (e ∷ es) fits = (All-head ExprFits e es fits, all_fit es (All-tail ExprFits e es fits))

within_largest : (n : ℕ) → unsigned_abs (signed n) ≤ largest
within_largest n = omega arith

no_number : {names : NameList} {I : Spelled RawExprKind} → Kinds names I → (ts rest : List Terminal) (x : RawExprKind) → NoNumber I ts rest x → OfPlain names (said x) ts rest
unfolding NoNumber
no_number i ts rest x (the_one d) = yielded d.next (meant (said-Name d.value) (of_name d.one))
no_number i ts rest x (the_other (the_one d)) = yielded d.next.next (meant (said-Param d.value d.next.value) (led (sign_read d.one) (of_param d.next.one)))
no_number i ts rest x (the_other (the_other (the_one d))) = yielded d.next (meant said-Nil (of_nil (sign_read d.one)))
no_number i ts rest x (the_other (the_other (the_other (the_one d)))) = yielded d.next (meant (said-Special d.value.0 d.value.1) (of_special d.value.0 (one_of_read d.one)))
no_number {names = names} i ts rest x (the_other (the_other (the_other (the_other (the_one d))))) =
    let args = d.next.value in
    let r = (in_brackets (shown_whole (whole i))).at d.middle d.next.middle args d.next.one in
    let es = map plain args in
    let tells : Tells names (listed (all_shown (plains_of es))) d.middle d.next.middle = subst (λ zs. Tells names (listed zs) d.middle d.next.middle) (sym (all_shown-of es)) r.tells in
    yielded d.next.next (meant (said-Call d.value.0 d.value.1 args) (led (one_of_read d.one) (of_call d.value.0 (plains_of es) (all_fit es r.fits) tells)))
no_number i ts rest x (the_other (the_other (the_other (the_other (the_other d))))) =
    let p = (whole i).at d.middle d.next.middle d.next.value d.next.one in
    yielded d.next.next.next (meant (said-Bracketed d.next.value) (led (sign_read d.one) (followed p (sign_read d.next.next.one))))

an_operand : {names : NameList} {I : Spelled RawExprKind} → Kinds names I → (ts rest : List Terminal) (x : RawExprKind) → Operand I ts rest x → OfPlain names (said x) ts rest
unfolding Operand
an_operand i ts rest x (the_one d) = yielded d.next (meant (said-Number (signed d.value)) (of_number _ (within_largest d.value) (number_read d.one)))
an_operand i ts rest x (the_other d) = no_number i ts rest x d

a_unary : {names : NameList} {I : Spelled RawExprKind} → Kinds names I → (ts rest : List Terminal) (x : RawExprKind) → Unary I ts rest x → OfPlain names (said x) ts rest
a_unary i ts rest x (operand d) = an_operand i ts rest x d
a_unary i ts rest x (negated {us = us} {x = y} b d) =
    meant (said-Not (placed_at y us) ∙ ap negation (says_placed y _)) (of_negation (led (sign_read b) (a_unary i us rest y d)))
a_unary i ts rest x (minus_before {us = us} {x = y} b d) =
    meant (said-Minus (placed_at y us) ∙ ap (two minus (number 0)) (says_placed y _)) (of_two minus (of_number 0 (omega arith) (nothing refl)) (sign_read b) (a_unary i us rest y d))

unaries : {names : NameList} {I : Spelled RawExprKind} → Kinds names I → Kinds names (Unary I)
unaries i = record { at = a_unary i }

a_product : {names : NameList} {I : Spelled RawExprKind} → Kinds names I → (ts rest : List Terminal) (x : RawExprKind) → Product I ts rest x → OfPlain names (said x) ts rest
unfolding Product
a_product i ts rest x (the_one d) = a_unary i ts rest x d
a_product i ts rest x (the_other d) =
    let y = d.next.next in
    let p = (whole (unaries i)).at d.next.middle y.middle y.value y.one in
    yielded y.next (meant (said-Times (signed d.value) y.value) (of_times _ (within_largest d.value) (number_read d.one) (led (sign_read d.next.one) p)))

products : {names : NameList} {I : Spelled RawExprKind} → Kinds names I → Kinds names (Product I)
products i = record { at = a_product i }

-- ---- chains

a_chain : {names : NameList} {Op : Spelled Operator} {Item : Spelled RawExprKind} {start : List Terminal} → Operators names Op → Kinds names Item
    → (held : RawExprKind) (from ts rest : List Terminal) (x : RawExprKind) → Chain Op Item start held ts rest x → OfPlain names (said held) from ts → OfPlain names (said x) from rest
a_chain o i held from ts rest x ends p = p
a_chain {start = start} o i held from ts rest x (goes_on {us = us} {vs = vs} {o = op} y sign_is item d) p =
    let q = (whole i).at us vs y item in
    let r = meant (said-Two op (placed_at held start) y ∙ ap (λ z. joined op z (plain y)) (says_placed held _)) (of_joined op p (o.at ts us op sign_is) q) in
    a_chain o i (kind.Two op (placed_at held start) y) from vs rest x d r

chains : {names : NameList} {Op : Spelled Operator} {Item : Spelled RawExprKind} → Operators names Op → Kinds names Item → Kinds names (Chained Op Item)
unfolding Chained
chains o i = record {
  at = λ ts rest x d.
      let p = led (nothing d.one.none) (i.at d.middle d.next.middle d.next.value d.next.one) in
      a_chain o i d.next.value ts d.next.middle rest x d.next.next p;
}

-- ---- operators

a_joint : {names : NameList} {s : Sign} {o : Operator} {ts rest : List Terminal} {p : Operator} → Joins s o ts rest p → Tells names [] ts rest
a_joint d = behind (sign_read d.one) (none_read d.next)

joints : {names : NameList} (s : Sign) (o : Operator) → Operators names (Joins s o)
joints s o = record { at = λ ts rest p d. a_joint d }

one_or_other : {names : NameList} {M N : Spelled Operator} → Operators names M → Operators names N → (ts rest : List Terminal) (o : Operator) → Either M N ts rest o → Tells names [] ts rest
one_or_other m n ts rest o (the_one d) = m.at ts rest o d
one_or_other m n ts rest o (the_other d) = n.at ts rest o d

either_operator : {names : NameList} {M N : Spelled Operator} → Operators names M → Operators names N → Operators names (Either M N)
either_operator m n = record { at = one_or_other m n }

sum_signs : {names : NameList} → Operators names SumSign
unfolding SumSign
sum_signs = either_operator (joints sign.Plus operator.Plus) (joints sign.Minus operator.Minus)

relation_signs : {names : NameList} → Operators names RelationSign
unfolding RelationSign
relation_signs = either_operator (joints sign.Equal operator.Equal) (either_operator (joints sign.NotEqual operator.NotEqual)
    (either_operator (joints sign.AtMost operator.AtMost) (joints sign.Below operator.Below)))

-- ---- the levels

sums : {names : NameList} {I : Spelled RawExprKind} → Kinds names I → Kinds names (Sum I)
unfolding Sum
sums i = chains sum_signs (products i)

-- what a relation may have behind its first side
RelatedTo : Spelled RawExprKind → List Terminal → RawExprKind → Spelled RawExprKind
RelatedTo inside start x = Either (Yields x) (Then RelationSign (λ o. Then (Whole (Sum inside)) (λ y. Yields (kind.Two o (placed_at x start) y))))

related : {names : NameList} {I : Spelled RawExprKind} → Kinds names I → (start from ts rest : List Terminal) (held x : RawExprKind) → RelatedTo I start held ts rest x → OfPlain names (said held) from ts
    → OfPlain names (said x) from rest
unfolding RelatedTo
related i start from ts rest held x (the_one d) p = yielded d p
related i start from ts rest held x (the_other d) p =
    let y = d.next in
    let q = (whole (sums i)).at d.middle y.middle y.value y.one in
    let r = meant (said-Two d.value (placed_at held start) y.value ∙ ap (λ z. joined d.value z (plain y.value)) (says_placed held _)) (of_joined d.value p (relation_signs.at ts d.middle d.value d.one) q) in
    yielded y.next r

relations : {names : NameList} {I : Spelled RawExprKind} → Kinds names I → Kinds names (Relation I)
unfolding Relation RelatedTo
relations i = record {
  at = λ ts rest x d.
      let p = led (nothing d.one.none) ((sums i).at d.middle d.next.middle d.next.value d.next.one) in
      related i d.value ts d.next.middle rest d.next.value x d.next.next p;
}

ands : {names : NameList} {I : Spelled RawExprKind} → Kinds names I → Kinds names (And I)
unfolding And
ands i = chains (joints sign.And operator.And) (relations i)

ors : {names : NameList} {I : Spelled RawExprKind} → Kinds names I → Kinds names (Or I)
unfolding Or
ors i = chains (joints sign.Or operator.Or) (ands i)

an_implication : {names : NameList} {I : Spelled RawExprKind} → Kinds names I → (ts rest : List Terminal) (x : RawExprKind) → Implied I ts rest x → OfPlain names (said x) ts rest
an_implication i ts rest x (no_implies d) = (ors i).at ts rest x d
an_implication i ts rest x (and_implies {vs = vs} {y = y} z us line d s e) =
    let p = (ors i).at ts us z d in
    let q = an_implication i vs rest y e in
    let says = said-Two operator.Implies (placed_at z ts) (placed_at y vs)
    ∙ (ap (λ (v : Plain). joined operator.Implies v (plain (placed_at y vs))) (says_placed z _) ∙ ap (joined operator.Implies (said z)) (says_placed y _)) in
    meant says (of_joined operator.Implies p (sign_read s) q)

-- ---- expressions

nested : {names : NameList} (depth : ℕ) → Kinds names (Nested depth)
unfolding Nested
nested zero = record { at = λ ts rest x d. absurd d }
nested (suc depth) = record { at = an_implication (nested depth) }

pub exprs_told : {names : NameList} → Reads names AnExpr plain show_expr ExprFits
unfolding AnExpr
exprs_told = shown_whole (whole (record { at = λ ts rest x d. (nested d.0).at ts rest x d.1 }))

-- arguments, in brackets that name nothing
pub args_told : {names : NameList} → Reads names Args (map plain) (λ es. listed (map show_expr es)) (All ExprFits)
unfolding Args
args_told = in_brackets exprs_told
