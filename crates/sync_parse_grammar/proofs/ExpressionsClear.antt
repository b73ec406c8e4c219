-- No terminals spell two expressions, where no operator follows.
use Rattle.std.proofs.Common.{◌≡◌, ℕ, zero, suc, Bool, true, false, if◌then◌else◌, List, [], ◌∷◌, Option, Some, refl, sym, ap, ◌∙◌, subst}
use Rattle.sync_lex.specs.declared.signs.Sign.{Sign}
use Rattle.sync_lex.specs.declared.signs.Sign.TheVariants as sign
use Rattle.sync_lex.specs.contracts.signs.Sign.{the_type}
use Rattle.sync_lex.specs.declared.terminals.TerminalKind.TheVariants as what
use Rattle.sync_lex.specs.declared.terminals.Terminal.{Terminal}
use Rattle.sync_lex.specs.Signs.{is_same}
use Rattle.sync_parse_exprs.specs.declared.expressions.RawExpr.{RawExpr}
use Rattle.sync_parse_exprs.specs.declared.expressions.RawExprKind.{RawExprKind}
use Rattle.sync_parse_exprs.specs.declared.expressions.RawExprKind.TheVariants as kind
use Rattle.sync_parse_exprs.specs.declared.expressions.Special.{Special}
use Rattle.sync_parse_exprs.specs.declared.expressions.Special.TheVariants as special
use Rattle.sync_parse_exprs.specs.declared.expressions.Function.{Function}
use Rattle.sync_parse_exprs.specs.declared.expressions.Function.TheVariants as function
use Rattle.sync_parse_exprs.specs.declared.expressions.Operator.{Operator}
use Rattle.sync_parse_exprs.specs.declared.expressions.Operator.TheVariants as operator
use Rattle.sync_parse_exprs.specs.Expressions.{special_of, function_of}
use Rattle.sync_parse_forms.specs.Relations.{Spelled, The, ANumber, OneOf, Yields, ◌>>=◌, the_one, the_other, InRound}
use Rattle.sync_parse_grammar.specs.Expressions.{placed_at, Whole, NoNumber, Operand, Unary, Product, Chain, Chained, Joins, SumSign, Sum, RelationSign, Relation, And, Or, Implied, Nested, AnExpr, Args}
use Rattle.sync_parse_forms.specs.Fronts.{code, front, Set, any, only, among, both, others}
use Rattle.sync_parse_forms.proofs.Clears.{In, only_in, among_in, both_in, others_in, others_first, same_in, not_both, Starts, Clear, Fork, lone, fork_or, starts_weaker, starts_then, starts_here, starts_or, starts_the, starts_name, starts_number, same_front, follows_starts, follows_yields, follows_or, clear_the, clear_name, clear_number, clear_one_of, clear_yields, clear_here, clear_then, clear_next, clear_optional, clear_round}
use denote.Enum.Bare.{same_true}

-- ---- sets of first lexemes

abbrev pub special_codes : List ℕ
special_codes = code sign.Value ∷ code sign.Index ∷ code sign.Old ∷ code sign.New ∷ code sign.Wrap ∷ []

abbrev pub specials : Set
specials = among special_codes

abbrev pub function_codes : List ℕ
function_codes = code sign.Get ∷ code sign.Has ∷ code sign.Size ∷ code sign.Sum ∷ code sign.Put ∷ code sign.Del ∷ code sign.Bump ∷ code sign.Held ∷ []

abbrev pub functions : Set
functions = among function_codes

abbrev pub operands : List ℕ
operands = 1 ∷ 2 ∷ code sign.Dollar ∷ code sign.Nil ∷ code sign.OpenRound
    ∷ code sign.Value ∷ code sign.Index ∷ code sign.Old ∷ code sign.New ∷ code sign.Wrap
    ∷ code sign.Get ∷ code sign.Has ∷ code sign.Size ∷ code sign.Sum ∷ code sign.Put ∷ code sign.Del ∷ code sign.Bump ∷ code sign.Held ∷ []

-- what begins an expression
abbrev pub begins : Set
begins = among (code sign.Bang ∷ code sign.Minus ∷ operands)

abbrev pub times_sign : Set
times_sign = only (code sign.Star)

abbrev pub sum_signs : Set
sum_signs = both (both (only (code sign.Plus)) (only (code sign.Minus))) times_sign

abbrev pub relation_signs : Set
relation_signs = both (both (only (code sign.Equal)) (both (only (code sign.NotEqual)) (both (only (code sign.AtMost)) (only (code sign.Below))))) sum_signs

abbrev pub and_signs : Set
and_signs = both (only (code sign.And)) relation_signs

abbrev pub or_signs : Set
or_signs = both (only (code sign.Or)) and_signs

-- what continues an expression
abbrev pub operators : Set
operators = both (only (code sign.Implies)) or_signs

-- ---- whole expressions

pub clear_whole : {q : Set} {m n : Spelled RawExprKind} → Clear q m n → Clear q (Whole m) (Whole n)
clear_whole {q = q} c = clear_next clear_here λ start. clear_then q c (λ x. clear_yields) (λ x. follows_yields same_in) (λ x. follows_yields same_in)

pub starts_whole : {p : Set} {m : Spelled RawExprKind} → Starts m p → Starts (Whole m) p
starts_whole s = starts_here λ start. starts_then s

-- ---- operands

pub same_is : (s t : Sign) → is_same s t ≡ true → s ≡ t
same_is s t e = same_true the_type tt s t e

-- a row of a table of signs
pub row : {A : Type 0} (p : Set) (s t : Sign) (x y : A) (c : Bool) (other : Option A) → is_same s t ≡ c → (if c then Some x else other) ≡ Some y → p (code t) ≡ true
    → (other ≡ Some y → p (code s) ≡ true) → p (code s) ≡ true
row p s t x y true other is e here more = ap (λ z. p (code z)) (same_is s t is) ∙ here
row p s t x y false other is e here more = more e

special_in : (s : Sign) (x : Special) → special_of s ≡ Some x → specials (code s) ≡ true
unfolding special_of
special_in s x e =
    row specials s sign.Value special.Value x (is_same s sign.Value) _ refl e refl λ e.
    row specials s sign.Index special.Index x (is_same s sign.Index) _ refl e refl λ e.
    row specials s sign.Old special.Old x (is_same s sign.Old) _ refl e refl λ e.
    row specials s sign.New special.New x (is_same s sign.New) _ refl e refl λ e.
    row specials s sign.Wrap special.Wrap x (is_same s sign.Wrap) _ refl e refl λ e. absurd cc

function_in : (s : Sign) (x : Function) → function_of s ≡ Some x → functions (code s) ≡ true
unfolding function_of
function_in s x e =
    row functions s sign.Get function.Get x (is_same s sign.Get) _ refl e refl λ e.
    row functions s sign.Has function.Has x (is_same s sign.Has) _ refl e refl λ e.
    row functions s sign.Size function.Size x (is_same s sign.Size) _ refl e refl λ e.
    row functions s sign.Sum function.Sum x (is_same s sign.Sum) _ refl e refl λ e.
    row functions s sign.Put function.Put x (is_same s sign.Put) _ refl e refl λ e.
    row functions s sign.Del function.Del x (is_same s sign.Del) _ refl e refl λ e.
    row functions s sign.Bump function.Bump x (is_same s sign.Bump) _ refl e refl λ e.
    row functions s sign.Held function.Held x (is_same s sign.Held) _ refl e refl λ e. absurd cc

pub starts_table : {A : Type 0} {table : Sign → Option A} {p : Set} → ((s : Sign) (x : A) → table s ≡ Some x → p (code s) ≡ true) → Starts (OneOf table) p
starts_table {p = p} f = record { at = λ ts rest x d. ap p (same_front ts d.terminal rest (what.Sign d.sign) d.stands d.is) ∙ f d.sign x.0 d.found }

-- what stands in brackets in two derivations
pub record Inner (m n : Spelled RawExprKind) : Type 0 where
  pub clear : Clear (others operators) m n
  pub left : Starts m begins
  pub right : Starts n begins

pub call_fork : {q : Set} {m n : Spelled RawExprKind} → Inner m n → Fork q functions
    (OneOf function_of >>= λ f. InRound (Whole m) >>= λ args. Yields (kind.Call f.0 f.1 args))
    (OneOf function_of >>= λ f. InRound (Whole n) >>= λ args. Yields (kind.Call f.0 f.1 args))
call_fork i = record {
  clear = clear_next clear_one_of λ f. clear_next (clear_round (others operators) begins (clear_whole i.clear) (starts_whole i.left) (starts_whole i.right) refl refl refl) λ args. clear_yields;
  left = starts_then (starts_table function_in);
  right = starts_then (starts_table function_in);
}

bracket_fork : {q : Set} {m n : Spelled RawExprKind} → Inner m n → Fork q (only (code sign.OpenRound))
    (The sign.OpenRound >>= λ o. Whole m >>= λ x. The sign.CloseRound >>= λ e. Yields (kind.Bracketed x))
    (The sign.OpenRound >>= λ o. Whole n >>= λ x. The sign.CloseRound >>= λ e. Yields (kind.Bracketed x))
bracket_fork i = record {
  clear = clear_next clear_the λ o. clear_then (others operators) (clear_whole i.clear) (λ x. clear_next clear_the λ e. clear_yields)
      (λ x. follows_starts (starts_then starts_the) (only_in _ refl)) (λ x. follows_starts (starts_then starts_the) (only_in _ refl));
  left = starts_then starts_the;
  right = starts_then starts_the;
}

-- an operand that does not begin with a number
abbrev others_begin : Set
others_begin = both (only 1) (both (only (code sign.Dollar)) (both (only (code sign.Nil)) (both specials (both functions (only (code sign.OpenRound))))))

pub special_fork : {q : Set} → Fork q specials (OneOf special_of >>= λ x. Yields (kind.Special x.0 x.1)) (OneOf special_of >>= λ x. Yields (kind.Special x.0 x.1))
special_fork = lone (clear_next clear_one_of λ x. clear_yields) (starts_then (starts_table special_in))

other_fork : {q : Set} {m n : Spelled RawExprKind} → Inner m n → Fork q others_begin (NoNumber m) (NoNumber n)
unfolding NoNumber
other_fork i =
    fork_or (lone (clear_next clear_name λ x. clear_yields) (starts_then starts_name))
    (fork_or (lone (clear_next clear_the λ l. clear_next clear_name λ x. clear_yields) (starts_then starts_the))
    (fork_or (lone (clear_next clear_the λ l. clear_yields) (starts_then starts_the))
    (fork_or special_fork
    (fork_or (call_fork i) (bracket_fork i) (among_in function_codes refl)) (among_in special_codes refl)) (only_in _ refl)) (only_in _ refl)) (only_in _ refl)

operand_fork : {q : Set} {m n : Spelled RawExprKind} → Inner m n → Fork q (both (only 2) others_begin) (Operand m) (Operand n)
unfolding Operand
operand_fork i = fork_or (lone (clear_next clear_number λ n. clear_yields) (starts_then starts_number)) (other_fork i) (only_in _ refl)

-- all that begin an operand are in a set that has these
begin_in : {q : Set} → q 2 ≡ true → q 1 ≡ true → q (code sign.Dollar) ≡ true → q (code sign.Nil) ≡ true → In specials q → In functions q → q (code sign.OpenRound) ≡ true
    → In (both (only 2) others_begin) q
begin_in a b c d e f g = both_in (only_in _ a) (both_in (only_in _ b) (both_in (only_in _ c) (both_in (only_in _ d) (both_in e (both_in f (only_in _ g))))))

pub starts_operand : {m n : Spelled RawExprKind} → Inner m n → Starts (Operand m) (among operands)
starts_operand i = starts_weaker (operand_fork {q = any} i).left (begin_in refl refl refl refl (among_in special_codes refl) (among_in function_codes refl) refl)

starts_operand' : {m n : Spelled RawExprKind} → Inner m n → Starts (Operand n) (among operands)
starts_operand' i = starts_weaker (operand_fork {q = any} i).right (begin_in refl refl refl refl (among_in special_codes refl) (among_in function_codes refl) refl)

-- ---- prefix signs

-- two first lexemes that differ
clash : {A B : Type 0} {m : Spelled A} {n : Spelled B} {p r : Set} → Starts m p → Starts n r → In p (others r)
    → (ts us rest vs : List Terminal) (x : A) (y : B) → m ts rest x → n us vs y → ts ≡ us → {C : Type 0} → C
clash {r = r} s t i ts us rest vs x y d e same = not_both (r (front ts)) (ap r (ap front same) ∙ t.at us vs y e) (i.at (front ts) (s.at ts rest x d))

pub starts_bang : Starts (The sign.Bang) (only (code sign.Bang))
starts_bang = starts_the

pub starts_minus : Starts (The sign.Minus) (only (code sign.Minus))
starts_minus = starts_the

starts_unary_case : {m n : Spelled RawExprKind} → Inner m n → (ts rest : List Terminal) (x : RawExprKind) → Unary m ts rest x → begins (front ts) ≡ true
starts_unary_case i ts rest x (Unary.operand d) = (among_in {q = begins} operands refl).at (front ts) ((starts_operand i).at ts rest x d)
starts_unary_case i ts rest x (Unary.negated {us = us} {line = line} p d) = (only_in {q = begins} _ refl).at (front ts) (starts_bang.at ts us line p)
starts_unary_case i ts rest x (Unary.minus {us = us} {line = line} p d) = (only_in {q = begins} _ refl).at (front ts) (starts_minus.at ts us line p)

pub starts_unary : {m n : Spelled RawExprKind} → Inner m n → Starts (Unary m) begins
starts_unary i = record { at = starts_unary_case i }

same_made : (make : RawExpr → RawExprKind) (x y : RawExprKind) (us vs : List Terminal) → x ≡ y → us ≡ vs → make (placed_at x us) ≡ make (placed_at y vs)
same_made make x y us vs p q = λ i. make (placed_at (p i) (q i))

unary_case : {m n : Spelled RawExprKind} → Inner m n → (ts us rest vs : List Terminal) (x y : RawExprKind) → Unary m ts rest x → Unary n us vs y → ts ≡ us → (rest ≡ vs) × (x ≡ y)
unary_case i ts us rest vs x y (Unary.operand d) (Unary.operand e) same = (operand_fork {q = any} i).clear.at ts us rest vs x y d e same refl refl
unary_case i ts us rest vs x y (Unary.operand d) (Unary.negated {us = u} {line = l} p e) same = clash (starts_operand i) starts_bang (among_in operands refl) ts us rest u x l d p same
unary_case i ts us rest vs x y (Unary.operand d) (Unary.minus {us = u} {line = l} p e) same = clash (starts_operand i) starts_minus (among_in operands refl) ts us rest u x l d p same
unary_case i ts us rest vs x y (Unary.negated {us = u} {line = l} p d) (Unary.operand e) same = clash (starts_operand' i) starts_bang (among_in operands refl) us ts vs u y l e p (sym same)
unary_case i ts us rest vs x y (Unary.negated {us = u} {line = l} {x = a} p d) (Unary.negated {us = v} {line = k} {x = b} q e) same =
    let mid = (clear_the {q = any}).at ts us u v l k p q same refl refl in
    let next = unary_case i u v rest vs a b d e mid.0 in
    (next.0, same_made kind.Not a b u v next.1 mid.0)
unary_case i ts us rest vs x y (Unary.negated {us = u} {line = l} p d) (Unary.minus {us = v} {line = k} q e) same = clash starts_bang starts_minus (only_in _ refl) ts us u v l k p q same
unary_case i ts us rest vs x y (Unary.minus {us = u} {line = l} p d) (Unary.operand e) same = clash (starts_operand' i) starts_minus (among_in operands refl) us ts vs u y l e p (sym same)
unary_case i ts us rest vs x y (Unary.minus {us = u} {line = l} p d) (Unary.negated {us = v} {line = k} q e) same = clash starts_minus starts_bang (only_in _ refl) ts us u v l k p q same
unary_case i ts us rest vs x y (Unary.minus {us = u} {line = l} {x = a} p d) (Unary.minus {us = v} {line = k} {x = b} q e) same =
    let mid = (clear_the {q = any}).at ts us u v l k p q same refl refl in
    let next = unary_case i u v rest vs a b d e mid.0 in
    (next.0, same_made kind.Minus a b u v next.1 mid.0)

pub clear_unary : {q : Set} {m n : Spelled RawExprKind} → Inner m n → Clear q (Unary m) (Unary n)
clear_unary i = record { at = λ ts us rest vs x y d e same a b. unary_case i ts us rest vs x y d e same }

-- ---- products

star_next : Starts (The sign.Star) times_sign
star_next = starts_the

pub turned : {m n : Spelled RawExprKind} → Inner m n → Inner n m
turned i = record {
  clear = record { at = λ ts us rest vs x y d e same a b. let h = i.clear.at us ts vs rest y x e d (sym same) b a in (sym h.0, sym h.1) };
  left = i.right;
  right = i.left;
}

plain_number : Clear any ANumber ANumber
plain_number = clear_number

plain_the : (s : Sign) → Clear any (The s) (The s)
plain_the s = clear_the

no_number : In others_begin (others (only 2))
no_number = both_in (only_in _ refl) (both_in (only_in _ refl) (both_in (only_in _ refl) (both_in (among_in special_codes refl) (both_in (among_in function_codes refl) (only_in _ refl)))))

-- an operand that begins with a number is that number
pub number_alone : {m n : Spelled RawExprKind} → Inner m n → (ts us rest vs : List Terminal) (x : RawExprKind) (k : ℕ) → Unary m ts rest x → ANumber us vs k → ts ≡ us → rest ≡ vs
unfolding Operand
number_alone i ts us rest vs x k (Unary.operand (the_one d)) e same = sym d.next.none ∙ (plain_number.at ts us d.middle vs d.value k d.one e same refl refl).0
number_alone i ts us rest vs x k (Unary.operand (the_other d)) e same = clash (other_fork {q = any} i).left starts_number no_number ts us rest vs x k d e same
number_alone i ts us rest vs x k (Unary.negated {us = u} {line = l} p d) e same = clash starts_bang starts_number (only_in _ refl) ts us u vs l k p e same
number_alone i ts us rest vs x k (Unary.minus {us = u} {line = l} p d) e same = clash starts_minus starts_number (only_in _ refl) ts us u vs l k p e same

product_case : {m n : Spelled RawExprKind} → Inner m n → (ts us rest vs : List Terminal) (x y : RawExprKind) → Product m ts rest x → Product n us vs y → ts ≡ us
    → others times_sign (front rest) ≡ true → others times_sign (front vs) ≡ true → (rest ≡ vs) × (x ≡ y)
unfolding Product
product_case i ts us rest vs x y (the_one d) (the_one e) same a b = unary_case i ts us rest vs x y d e same
product_case i ts us rest vs x y (the_other d) (the_other e) same a b =
    (clear_next {q = any} clear_number λ n. clear_next clear_the λ l. clear_next (clear_whole (clear_unary i)) λ x. clear_yields).at ts us rest vs x y d e same refl refl
product_case i ts us rest vs x y (the_one d) (the_other e) same a b =
    let end = number_alone i ts us rest e.middle x e.value d e.one same in
    not_both (times_sign (front rest)) (ap (λ ws. times_sign (front ws)) end ∙ star_next.at e.middle e.next.middle e.next.value e.next.one) a
product_case i ts us rest vs x y (the_other d) (the_one e) same a b =
    let end = number_alone (turned i) us ts vs d.middle y d.value e d.one (sym same) in
    not_both (times_sign (front vs)) (ap (λ ws. times_sign (front ws)) end ∙ star_next.at d.middle d.next.middle d.next.value d.next.one) b

pub clear_product : {m n : Spelled RawExprKind} → Inner m n → Clear (others times_sign) (Product m) (Product n)
clear_product i = record { at = product_case i }

pub starts_product : {m n : Spelled RawExprKind} → Inner m n → Starts (Product m) begins
unfolding Product
starts_product i = starts_weaker (starts_or (starts_unary i) (starts_then starts_number)) (both_in same_in (only_in _ refl))

-- ---- chains

pub follows_chain_case : {q p r : Set} {Op : Spelled Operator} {m : Spelled RawExprKind} {start : List Terminal} → Starts Op r → In r p → In q p
    → (held : RawExprKind) (ts rest : List Terminal) (z : RawExprKind) → Chain Op m start held ts rest z → q (front rest) ≡ true → p (front ts) ≡ true
follows_chain_case s i j held ts rest z Chain.ends a = j.at (front ts) a
follows_chain_case s i j held ts rest z (Chain.goes_on {us = us} {o = o} y d e more) a = i.at (front ts) (s.at ts us o d)

-- a chain of operators of r, whose items may have p behind, is clear where nothing of r follows
chain_case : {q p r : Set} {Op : Spelled Operator} {m n : Spelled RawExprKind} → Clear any Op Op → Starts Op r → Clear p m n → In r p → In q p → In q (others r)
    → (start : List Terminal) (held other : RawExprKind) (ts us rest vs : List Terminal) (x y : RawExprKind) → Chain Op m start held ts rest x → Chain Op n start other us vs y
    → held ≡ other → ts ≡ us → q (front rest) ≡ true → q (front vs) ≡ true → (rest ≡ vs) × (x ≡ y)
chain_case op s item i j k start held other ts us rest vs x y Chain.ends Chain.ends h same a b = (same, h)
chain_case {r = r} op s item i j k start held other ts us rest vs x y Chain.ends (Chain.goes_on {us = u} {o = o} z d e more) h same a b =
    not_both (r (front ts)) (ap r (ap front same) ∙ s.at us u o d) (k.at (front ts) a)
chain_case {r = r} op s item i j k start held other ts us rest vs x y (Chain.goes_on {us = u} {o = o} z d e more) Chain.ends h same a b =
    not_both (r (front us)) (ap r (ap front (sym same)) ∙ s.at ts u o d) (k.at (front us) b)
chain_case op s item i j k start held other ts us rest vs x y (Chain.goes_on {us = u} {vs = v} {o = o} f d e more_d) (Chain.goes_on {us = u'} {vs = v'} {o = o'} g d' e' more_e) h same a b =
    let sign = op.at ts us u u' o o' d d' same refl refl in
    let one = (clear_whole item).at u u' v v' f g e e' sign.0 (follows_chain_case s i j _ v rest x more_d a) (follows_chain_case s i j _ v' vs y more_e b) in
    chain_case op s item i j k start _ _ v v' rest vs x y more_d more_e (λ z. kind.Two (sign.1 z) (placed_at (h z) start) (one.1 z)) one.0 a b

pub clear_chained : {q : Set} {Op : Spelled Operator} {m n : Spelled RawExprKind} (p r : Set) → Clear any Op Op → Starts Op r → Clear p m n → In r p → In q p → In q (others r)
    → Clear q (Chained Op m) (Chained Op n)
unfolding Chained
clear_chained p r op s item i j k =
    clear_next clear_here λ start.
    clear_then p item (λ held. record { at = λ ts us rest vs x y d e same a b. chain_case op s item i j k start held held ts us rest vs x y d e refl same a b })
    (λ held. record { at = λ ts rest x d a. follows_chain_case s i j held ts rest x d a })
    (λ held. record { at = λ ts rest x d a. follows_chain_case s i j held ts rest x d a })

pub starts_chained : {p : Set} (Op : Spelled Operator) (m : Spelled RawExprKind) → Starts m p → Starts (Chained Op m) p
unfolding Chained
starts_chained Op m s = starts_here λ start. starts_then s

-- ---- the levels

-- an operator's sign
pub joins_fork : {q : Set} (s : Sign) (o : Operator) → Fork q (only (code s)) (Joins s o) (Joins s o)
joins_fork s o = lone (clear_next clear_the λ l. clear_yields) (starts_then starts_the)

pub sum_fork : {q : Set} → Fork q (both (only (code sign.Plus)) (only (code sign.Minus))) SumSign SumSign
unfolding SumSign
sum_fork = fork_or (joins_fork sign.Plus operator.Plus) (joins_fork sign.Minus operator.Minus) (only_in _ refl)

pub relation_fork : {q : Set} → Fork q (both (only (code sign.Equal)) (both (only (code sign.NotEqual)) (both (only (code sign.AtMost)) (only (code sign.Below))))) RelationSign RelationSign
unfolding RelationSign
relation_fork = fork_or (joins_fork sign.Equal operator.Equal) (fork_or (joins_fork sign.NotEqual operator.NotEqual)
    (fork_or (joins_fork sign.AtMost operator.AtMost) (joins_fork sign.Below operator.Below) (only_in _ refl)) (only_in _ refl)) (only_in _ refl)

pub clear_sum : {m n : Spelled RawExprKind} → Inner m n → Clear (others sum_signs) (Sum m) (Sum n)
unfolding Sum
clear_sum i = clear_chained (others times_sign) (both (only (code sign.Plus)) (only (code sign.Minus))) sum_fork.clear (sum_fork {q = any}).left (clear_product i)
    (both_in (only_in _ refl) (only_in _ refl)) (others_in _ _) (others_first _ _)

pub starts_sum : {m n : Spelled RawExprKind} → Inner m n → Starts (Sum m) begins
unfolding Sum
starts_sum {m = m} i = starts_chained SumSign (Product m) (starts_product i)

abbrev pub relations : Set
relations = both (only (code sign.Equal)) (both (only (code sign.NotEqual)) (both (only (code sign.AtMost)) (only (code sign.Below))))

pub relations_in : {q : Set} → q (code sign.Equal) ≡ true → q (code sign.NotEqual) ≡ true → q (code sign.AtMost) ≡ true → q (code sign.Below) ≡ true → In relations q
relations_in a b c d = both_in (only_in _ a) (both_in (only_in _ b) (both_in (only_in _ c) (only_in _ d)))

pub clear_relation : {m n : Spelled RawExprKind} → Inner m n → Clear (others relation_signs) (Relation m) (Relation n)
unfolding Relation
clear_relation i =
    clear_next clear_here λ start.
    clear_then (others sum_signs) (clear_sum i)
    (λ x. clear_optional
    (clear_next relation_fork.clear λ o. clear_then (others sum_signs) (clear_whole (clear_sum i)) (λ y. clear_yields)
    (λ y. follows_yields (others_in _ _)) (λ y. follows_yields (others_in _ _)))
    (starts_then (relation_fork {q = any}).left) (starts_then (relation_fork {q = any}).left) (others_first _ _))
    (λ x. follows_or (follows_yields (others_in _ _)) (follows_starts (starts_then (relation_fork {q = any}).left) (relations_in refl refl refl refl)))
    (λ x. follows_or (follows_yields (others_in _ _)) (follows_starts (starts_then (relation_fork {q = any}).left) (relations_in refl refl refl refl)))

pub starts_relation : {m n : Spelled RawExprKind} → Inner m n → Starts (Relation m) begins
unfolding Relation
starts_relation i = starts_here λ start. starts_then (starts_sum i)

pub clear_and : {m n : Spelled RawExprKind} → Inner m n → Clear (others and_signs) (And m) (And n)
unfolding And
clear_and i = clear_chained (others relation_signs) (only (code sign.And)) (joins_fork sign.And operator.And).clear (joins_fork {q = any} sign.And operator.And).left (clear_relation i)
    (only_in _ refl) (others_in _ _) (others_first _ _)

pub starts_and : {m n : Spelled RawExprKind} → Inner m n → Starts (And m) begins
unfolding And
starts_and {m = m} i = starts_chained (Joins sign.And operator.And) (Relation m) (starts_relation i)

pub clear_or_level : {m n : Spelled RawExprKind} → Inner m n → Clear (others or_signs) (Or m) (Or n)
unfolding Or
clear_or_level i = clear_chained (others and_signs) (only (code sign.Or)) (joins_fork sign.Or operator.Or).clear (joins_fork {q = any} sign.Or operator.Or).left (clear_and i)
    (only_in _ refl) (others_in _ _) (others_first _ _)

pub starts_or_level : {m n : Spelled RawExprKind} → Inner m n → Starts (Or m) begins
unfolding Or
starts_or_level {m = m} i = starts_chained (Joins sign.Or operator.Or) (And m) (starts_and i)

pub starts_implies : Starts (The sign.Implies) (only (code sign.Implies))
starts_implies = starts_the

-- where a first side ends
first_side : {m n : Spelled RawExprKind} → Inner m n → (ts us rest vs : List Terminal) (x y : RawExprKind) → Or m ts rest x → Or n us vs y → ts ≡ us
    → others or_signs (front rest) ≡ true → others or_signs (front vs) ≡ true → (rest ≡ vs) × (x ≡ y)
first_side i = (clear_or_level i).at

pub implies_follows : (us vs : List Terminal) (line : ℕ) → The sign.Implies us vs line → others or_signs (front us) ≡ true
implies_follows us vs line p = (only_in {q = others or_signs} _ refl).at (front us) (starts_implies.at us vs line p)

-- no sign that continues an expression is there, so none that continues its first side
pub no_operator : (ts : List Terminal) → others operators (front ts) ≡ true → others or_signs (front ts) ≡ true
no_operator ts a = (others_in (only (code sign.Implies)) or_signs).at (front ts) a

implied_case : {m n : Spelled RawExprKind} → Inner m n → (ts us rest vs : List Terminal) (x y : RawExprKind) → Implied m ts rest x → Implied n us vs y → ts ≡ us
    → others operators (front rest) ≡ true → others operators (front vs) ≡ true → (rest ≡ vs) × (x ≡ y)
implied_case i ts us rest vs x y (Implied.plain d) (Implied.plain e) same a b = first_side i ts us rest vs x y d e same (no_operator rest a) (no_operator vs b)
implied_case i ts us rest vs x y (Implied.plain d) (Implied.implies {vs = v} z u line e p f) same a b =
    let one = first_side i ts us rest u x z d e same (no_operator rest a) (implies_follows u v line p) in
    not_both (only (code sign.Implies) (front u)) (starts_implies.at u v line p) ((others_first (only (code sign.Implies)) or_signs).at (front u) (subst (λ ws. others operators (front ws) ≡ true) one.0 a))
implied_case i ts us rest vs x y (Implied.implies {vs = v} z u line d p f) (Implied.plain e) same a b =
    let one = first_side i ts us u vs z y d e same (implies_follows u v line p) (no_operator vs b) in
    not_both (only (code sign.Implies) (front u)) (starts_implies.at u v line p) ((others_first (only (code sign.Implies)) or_signs).at (front u) (subst (λ ws. others operators (front ws) ≡ true) (sym one.0) b))
implied_case i ts us rest vs x y (Implied.implies {vs = v} {y = g} z u line d p f) (Implied.implies {vs = v'} {y = g'} z' u' line' d' p' f') same a b =
    let one = first_side i ts us u u' z z' d d' same (implies_follows u v line p) (implies_follows u' v' line' p') in
    let sign = (clear_the {q = any}).at u u' v v' line line' p p' one.0 refl refl in
    let next = implied_case i v v' rest vs g g' f f' sign.0 a b in
    (next.0, λ t. kind.Two operator.Implies (placed_at (one.1 t) (same t)) (placed_at (next.1 t) (sign.0 t)))

pub clear_implied : {m n : Spelled RawExprKind} → Inner m n → Clear (others operators) (Implied m) (Implied n)
clear_implied i = record { at = implied_case i }

starts_implied_case : {m n : Spelled RawExprKind} → Inner m n → (ts rest : List Terminal) (x : RawExprKind) → Implied m ts rest x → begins (front ts) ≡ true
starts_implied_case i ts rest x (Implied.plain d) = (starts_or_level i).at ts rest x d
starts_implied_case i ts rest x (Implied.implies z u line d p f) = (starts_or_level i).at ts u z d

-- ---- expressions

nothing_inner : {m : Spelled RawExprKind} → Starts m begins → Inner (Nested zero) m
unfolding Nested
nothing_inner s = record { clear = record { at = λ ts us rest vs x y d e same a b. absurd d }; left = record { at = λ ts rest x d. absurd d }; right = s }

pub starts_nested : (depth : ℕ) → Starts (Nested depth) begins
unfolding Nested
starts_nested zero = record { at = λ ts rest x d. absurd d }
starts_nested (suc depth) = record { at = starts_implied_case (turned (nothing_inner (starts_nested depth))) }

-- brackets in brackets
pub nested_inner : (depth other : ℕ) → Inner (Nested depth) (Nested other)
unfolding Nested
nested_inner zero other = nothing_inner (starts_nested other)
nested_inner (suc depth) zero = turned (nothing_inner (starts_nested (suc depth)))
nested_inner (suc depth) (suc other) = record { clear = clear_implied (nested_inner depth other); left = starts_nested (suc depth); right = starts_nested (suc other) }

-- no terminals spell two expressions, where no operator follows
pub clear_expr : Clear (others operators) AnExpr AnExpr
unfolding AnExpr
clear_expr = clear_whole (record { at = λ ts us rest vs x y d e same a b. (nested_inner d.0 e.0).clear.at ts us rest vs x y d.1 e.1 same a b })

pub starts_expr : Starts AnExpr begins
unfolding AnExpr
starts_expr = starts_whole (record { at = λ ts rest x d. (starts_nested d.0).at ts rest x d.1 })

pub clear_args : {q : Set} → Clear q Args Args
unfolding Args
clear_args = clear_round (others operators) begins clear_expr starts_expr starts_expr refl refl refl
