-- The canonical lexemes of an expression spell it, by the productions.
use Rattle.std.proofs.Common.{◌≡◌, ◌≤◌, ◌+◌, ℕ, zero, suc, Bool, true, false, List, [], ◌∷◌, ◌++◌, map, nat_lt, refl, ap, subst, ◌∙◌, append_assoc, arith}
use Rattle.std.proofs.lemmas.List.{append-nil}
use Rattle.sync_lex.specs.declared.signs.Sign.{Sign}
use Rattle.sync_lex.specs.declared.signs.Sign.TheVariants as sign
use Rattle.sync_lex.specs.declared.terminals.Terminal.{Terminal}
use Rattle.sync_base.specs.Limits.{largest}
use Rattle.sync_parse_exprs.specs.declared.expressions.RawExpr.{RawExpr}
use Rattle.sync_parse_exprs.specs.declared.expressions.RawExprKind.{RawExprKind}
use Rattle.sync_parse_exprs.specs.declared.expressions.Special.{Special}
use Rattle.sync_parse_exprs.specs.declared.expressions.Function.{Function}
use Rattle.sync_parse_exprs.specs.declared.expressions.Operator.{Operator}
use Rattle.sync_parse_exprs.specs.declared.expressions.Operator.TheVariants as operator
use Rattle.sync_parse_forms.specs.Relations.{Spelled, The, the_one, the_other, Many, nothing, more as another, Series, Listed, ◌>>◌}
use Rattle.sync_parse_grammar.specs.Expressions.{placed_at, Whole, Unary, SumSign, RelationSign, Implied, Nested, AnExpr}
use Rattle.sync_print.specs.Exprs.{implies, either, both, equal, at_most, below, plus, minus, Plain, number, name, param, nil, special, call, negation, times, two, Plains, none, more, joined, plain, plains_of}
use Rattle.sync_print.specs.Lexemes.{Lexeme, one, one_name, one_number, needed, with_commas, listed}
use Rattle.sync_print.specs.ShowExprs.{shown, all_shown, show_expr, function_sign, special_sign, before, behind}
use Rattle.sync_print_spelling.specs.Levels.{Level, l0, l1, l2, l3, l4, l5, l6, rank, level}
use Rattle.sync_print_spelling.specs.Says.{Says, no_more}
use Rattle.sync_print_spelling.specs.Limits.{ExprFits, AllFit}
use Rattle.sync_print_spelling.specs.Laws.{Derives, ShownIsDerived}
use Rattle.sync_print_spelling.proofs.Terminals.{split, the_sign, the_number, the_name, yields, seq, whole}
use Rattle.sync_print_spelling.proofs.Levels.{Spelt, says_placed, Twofold, spelt_two, lift, sums, ands, ors, relations, implications, joins}
use Rattle.sync_print_spelling.proofs.Operands.{bracketed, a_name_operand, a_number_operand, a_param_operand, nil_operand, special_operand, Args, call_operand, negations, Multiple, products, spelt_times}

-- ---- brackets where a place wants a higher level

-- these lexemes spell an expression of a level, where so many brackets may be open at once
record Core (own : Level) (high : ℕ) (e : Plain) (xs : List Lexeme) : Type 0 where
  pub reads : (d : ℕ) → high ≤ d → (ts rest : List Terminal) → Says xs ts rest → Spelt (level own (Nested d)) e ts rest

-- these lexemes spell an expression at each place
pub record Placed (high : ℕ) (e : Plain) (at : ℕ → List Lexeme) : Type 0 where
  pub reads : (d : ℕ) → high ≤ d → (k : Level) (ts rest : List Terminal) → Says (at (rank k)) ts rest → Spelt (level k (Nested d)) e ts rest

pub never_above : (k : Level) → nat_lt 6 (rank k) ≡ false
never_above l0 = refl
never_above l1 = refl
never_above l2 = refl
never_above l3 = refl
never_above l4 = refl
never_above l5 = refl
never_above l6 = refl

pub lowest : (own : Level) → nat_lt (rank own) 0 ≡ false
lowest l0 = refl
lowest l1 = refl
lowest l2 = refl
lowest l3 = refl
lowest l4 = refl
lowest l5 = refl
lowest l6 = refl

-- operands stand everywhere
operands : {high : ℕ} {e : Plain} {xs : List Lexeme} → Core l6 high e xs → Placed high e (λ wanted. xs)
operands core = record { reads = λ d enough k ts rest h. lift (Nested d) l6 k (never_above k) (core.reads d enough ts rest h) }

nested_is : (d : ℕ) {ts rest : List Terminal} {x : RawExprKind} → Implied (Nested d) ts rest x → Nested (suc d) ts rest x
unfolding Nested
nested_is d h = h

deeper : (d : ℕ) {e : Plain} {ts rest : List Terminal} → Spelt (Implied (Nested d)) e ts rest → Spelt (Nested (suc d)) e ts rest
deeper d x = record { kind = x.kind; spelled = nested_is d x.spelled; means = x.means }

in_brackets : {high : ℕ} {e : Plain} {xs : List Lexeme} {ts rest : List Terminal} (own : Level) → Core own high e xs → (d : ℕ) → suc high ≤ d
    → Says (one sign.OpenRound ++ xs ++ one sign.CloseRound) ts rest → Spelt (Unary (Nested d)) e ts rest
in_brackets own core zero enough h = absurd (omega arith)
in_brackets {xs = xs} own core (suc d) enough h =
    let r = split (one sign.OpenRound ++ xs) (one sign.CloseRound) h in
    let q = split (one sign.OpenRound) xs r.1 in
    let x = lift (Nested d) own l0 (lowest own) (core.reads d (omega arith) q.0 r.0 q.2) in
    bracketed (the_sign q.1).1 (deeper d x) (the_sign r.2).1

placed_between : {high : ℕ} {e : Plain} {xs : List Lexeme} (own : Level) → Core own high e xs
    → Placed (suc high) e (λ wanted. before (rank own) wanted ++ xs ++ behind (rank own) wanted)
placed_between {high} {e} {xs} own core = record { reads = λ d enough k ts rest h. go d enough k ts rest (nat_lt (rank own) (rank k)) refl h }
  where
    go : (d : ℕ) → suc high ≤ d → (k : Level) (ts rest : List Terminal) (b : Bool) → nat_lt (rank own) (rank k) ≡ b
        → Says (needed b sign.OpenRound ++ xs ++ needed b sign.CloseRound) ts rest → Spelt (level k (Nested d)) e ts rest
    go d enough k ts rest true is says = lift (Nested d) l6 k (never_above k) (in_brackets own core d enough says)
    go d enough k ts rest false is says =
        lift (Nested d) own k is (core.reads d (omega arith) ts rest (subst (λ zs. Says zs ts rest) (append-nil xs) says))

pub regroup : (p a s b q : List Lexeme) → p ++ a ++ s ++ b ++ q ≡ p ++ (a ++ s ++ b) ++ q
regroup p a s b q = simp append_assoc

banged_core : {high : ℕ} {e : Plain} {at : ℕ → List Lexeme} → Placed high e at → Core l6 high (negation e) (one sign.Bang ++ at 6)
banged_core {at = at} p = record {
  reads = λ d enough ts rest h.
      let r = split (one sign.Bang) (at 6) h in
      negations (the_sign r.1).1 (p.reads d enough l6 r.0 rest r.2);
}

bangs : {high : ℕ} {e : Plain} {at : ℕ → List Lexeme} → Placed high e at → Placed high (negation e) (λ wanted. one sign.Bang ++ at 6)
bangs p = operands (banged_core p)

-- ---- two with a sign between

-- these lexemes spell two with an operator between
pub record CoreTwo (own : Level) (high : ℕ) (o : Operator) (e f : Plain) (xs : List Lexeme) : Type 0 where
  pub reads : (d : ℕ) → high ≤ d → (ts rest : List Terminal) → Says xs ts rest → Twofold (level own (Nested d)) o e f ts rest

core_of : {own : Level} {high : ℕ} (o : Operator) {e f : Plain} {xs : List Lexeme} → CoreTwo own high o e f xs → Core own high (joined o e f) xs
core_of o core = record { reads = λ d enough ts rest h. spelt_two o (core.reads d enough ts rest h) }

abbrev Joined : Level → ℕ → Operator → Plain → Plain → (ℕ → List Lexeme) → Sign → (ℕ → List Lexeme) → Level → Level → Type 0
Joined own high o e f a s b left right = CoreTwo own high o e f (a (rank left) ++ one s ++ b (rank right))

pub core_implies : {hx hy : ℕ} {x y : Plain} {a b : ℕ → List Lexeme} → Placed hx x a → Placed hy y b → Joined l0 (hx + hy) operator.Implies x y a sign.Implies b l1 l0
core_implies {a = a} {b = b} p q = record {
  reads = λ d enough ts rest h.
      let r = split (a (rank l1) ++ one sign.Implies) (b (rank l0)) h in
      let t = split (a (rank l1)) (one sign.Implies) r.1 in
      implications (Nested d) (p.reads d (omega arith) l1 ts t.0 t.1) (the_sign t.2).1 (q.reads d (omega arith) l0 r.0 rest r.2);
}

pub core_either : {hx hy : ℕ} {x y : Plain} {a b : ℕ → List Lexeme} → Placed hx x a → Placed hy y b → Joined l1 (hx + hy) operator.Or x y a sign.Or b l1 l2
core_either {a = a} {b = b} p q = record {
  reads = λ d enough ts rest h.
      let r = split (a (rank l1) ++ one sign.Or) (b (rank l2)) h in
      let t = split (a (rank l1)) (one sign.Or) r.1 in
      ors (Nested d) (p.reads d (omega arith) l1 ts t.0 t.1) (joins t.2) (q.reads d (omega arith) l2 r.0 rest r.2);
}

pub core_both : {hx hy : ℕ} {x y : Plain} {a b : ℕ → List Lexeme} → Placed hx x a → Placed hy y b → Joined l2 (hx + hy) operator.And x y a sign.And b l2 l3
core_both {a = a} {b = b} p q = record {
  reads = λ d enough ts rest h.
      let r = split (a (rank l2) ++ one sign.And) (b (rank l3)) h in
      let t = split (a (rank l2)) (one sign.And) r.1 in
      ands (Nested d) (p.reads d (omega arith) l2 ts t.0 t.1) (joins t.2) (q.reads d (omega arith) l3 r.0 rest r.2);
}

pub core_equal : {hx hy : ℕ} {x y : Plain} {a b : ℕ → List Lexeme} → Placed hx x a → Placed hy y b → Joined l3 (hx + hy) operator.Equal x y a sign.Equal b l4 l4
unfolding RelationSign
core_equal {a = a} {b = b} p q = record {
  reads = λ d enough ts rest h.
      let r = split (a (rank l4) ++ one sign.Equal) (b (rank l4)) h in
      let t = split (a (rank l4)) (one sign.Equal) r.1 in
      relations (Nested d) operator.Equal (p.reads d (omega arith) l4 ts t.0 t.1) (the_one (joins t.2)) (q.reads d (omega arith) l4 r.0 rest r.2);
}

pub core_unequal : {hx hy : ℕ} {x y : Plain} {a b : ℕ → List Lexeme} → Placed hx x a → Placed hy y b → Joined l3 (hx + hy) operator.NotEqual x y a sign.NotEqual b l4 l4
unfolding RelationSign
core_unequal {a = a} {b = b} p q = record {
  reads = λ d enough ts rest h.
      let r = split (a (rank l4) ++ one sign.NotEqual) (b (rank l4)) h in
      let t = split (a (rank l4)) (one sign.NotEqual) r.1 in
      relations (Nested d) operator.NotEqual (p.reads d (omega arith) l4 ts t.0 t.1) (the_other (the_one (joins t.2))) (q.reads d (omega arith) l4 r.0 rest r.2);
}

pub core_at_most : {hx hy : ℕ} {x y : Plain} {a b : ℕ → List Lexeme} → Placed hx x a → Placed hy y b → Joined l3 (hx + hy) operator.AtMost x y a sign.AtMost b l4 l4
unfolding RelationSign
core_at_most {a = a} {b = b} p q = record {
  reads = λ d enough ts rest h.
      let r = split (a (rank l4) ++ one sign.AtMost) (b (rank l4)) h in
      let t = split (a (rank l4)) (one sign.AtMost) r.1 in
      relations (Nested d) operator.AtMost (p.reads d (omega arith) l4 ts t.0 t.1) (the_other (the_other (the_one (joins t.2)))) (q.reads d (omega arith) l4 r.0 rest r.2);
}

pub core_below : {hx hy : ℕ} {x y : Plain} {a b : ℕ → List Lexeme} → Placed hx x a → Placed hy y b → Joined l3 (hx + hy) operator.Below x y a sign.Below b l4 l4
unfolding RelationSign
core_below {a = a} {b = b} p q = record {
  reads = λ d enough ts rest h.
      let r = split (a (rank l4) ++ one sign.Below) (b (rank l4)) h in
      let t = split (a (rank l4)) (one sign.Below) r.1 in
      relations (Nested d) operator.Below (p.reads d (omega arith) l4 ts t.0 t.1) (the_other (the_other (the_other (joins t.2)))) (q.reads d (omega arith) l4 r.0 rest r.2);
}

pub core_plus : {hx hy : ℕ} {x y : Plain} {a b : ℕ → List Lexeme} → Placed hx x a → Placed hy y b → Joined l4 (hx + hy) operator.Plus x y a sign.Plus b l4 l5
unfolding SumSign
core_plus {a = a} {b = b} p q = record {
  reads = λ d enough ts rest h.
      let r = split (a (rank l4) ++ one sign.Plus) (b (rank l5)) h in
      let t = split (a (rank l4)) (one sign.Plus) r.1 in
      sums (Nested d) operator.Plus (p.reads d (omega arith) l4 ts t.0 t.1) (the_one (joins t.2)) (q.reads d (omega arith) l5 r.0 rest r.2);
}

pub core_minus : {hx hy : ℕ} {x y : Plain} {a b : ℕ → List Lexeme} → Placed hx x a → Placed hy y b → Joined l4 (hx + hy) operator.Minus x y a sign.Minus b l4 l5
unfolding SumSign
core_minus {a = a} {b = b} p q = record {
  reads = λ d enough ts rest h.
      let r = split (a (rank l4) ++ one sign.Minus) (b (rank l5)) h in
      let t = split (a (rank l4)) (one sign.Minus) r.1 in
      sums (Nested d) operator.Minus (p.reads d (omega arith) l4 ts t.0 t.1) (the_other (joins t.2)) (q.reads d (omega arith) l5 r.0 rest r.2);
}

-- two at each place
two_placed : {high : ℕ} {e : Plain} (a : ℕ → List Lexeme) (s : Sign) (b : ℕ → List Lexeme) (own left right : Level) → Core own high e (a (rank left) ++ one s ++ b (rank right))
    → Placed (suc high) e (λ wanted. before (rank own) wanted ++ a (rank left) ++ one s ++ b (rank right) ++ behind (rank own) wanted)
two_placed a s b own left right core = record {
  reads = λ d enough k ts rest h.
      (placed_between own core).reads d enough k ts rest
      (subst (λ zs. Says zs ts rest) (regroup (before (rank own) (rank k)) (a (rank left)) (one s) (b (rank right)) (behind (rank own) (rank k))) h);
}

pub times_read : {high n : ℕ} {e : Plain} {a : ℕ → List Lexeme} → n ≤ largest → Placed high e a → (d : ℕ) → high ≤ d → (ts rest : List Terminal)
    → Says (one_number n ++ one sign.Star ++ a 6) ts rest → Multiple (level l5 (Nested d)) n e ts rest
times_read {n = n} {a = a} fits p d enough ts rest h =
    let r = split (one_number n ++ one sign.Star) (a 6) h in
    let t = split (one_number n) (one sign.Star) r.1 in
    products fits (the_number t.1) (the_sign t.2).1 (p.reads d enough l6 r.0 rest r.2)

core_times : {high n : ℕ} {e : Plain} {a : ℕ → List Lexeme} → n ≤ largest → Placed high e a → Core l5 high (times n e) (one_number n ++ one sign.Star ++ a 6)
core_times fits p = record { reads = λ d enough ts rest h. spelt_times (times_read fits p d enough ts rest h) }

times_placed : {high n : ℕ} {e : Plain} {a : ℕ → List Lexeme} → n ≤ largest → Placed high e a
    → Placed (suc high) (times n e) (λ wanted. before 5 wanted ++ one_number n ++ one sign.Star ++ a 6 ++ behind 5 wanted)
times_placed {n = n} {a = a} fits p = record {
  reads = λ d enough k ts rest h.
      (placed_between l5 (core_times fits p)).reads d enough k ts rest
      (subst (λ zs. Says zs ts rest) (regroup (before 5 (rank k)) (one_number n) (one sign.Star) (a 6) (behind 5 (rank k))) h);
}

-- ---- all expressions

abbrev mutual
  -- so deep brackets may have to stand in it
  pub height : Plain → ℕ
  height (number n) = 0
  height (name x) = 0
  height (param x) = 0
  height nil = 0
  height (special w) = 0
  height (call f es) = suc (heights es)
  height (negation e) = height e
  height (times n e) = suc (height e)
  height (two o a b) = suc (height a + height b)

  pub heights : Plains → ℕ
  heights none = 0
  heights (more e es) = height e + heights es

pub record Both (e : Plain) : Type 0 where
  pub at : Placed (height e) e (shown e).at
  pub negated : Placed (height e) (negation e) (shown e).negated

-- arguments behind a comma
record Behind (I : Spelled RawExprKind) (es : Plains) (ts rest : List Terminal) : Type 0 where
  pub list : List RawExpr
  pub spelled : Many (The sign.Comma >> Whole I) ts rest list
  pub means : plains_of (map plain list) ≡ es

record AllPlaced (es : Plains) : Type 0 where
  pub first : (d : ℕ) → heights es ≤ d → (ts rest : List Terminal) → Says (listed (all_shown es)) ts rest → Args (Nested (suc d)) es ts rest
  pub behind : (d : ℕ) → heights es ≤ d → (ts rest : List Terminal) → Says (with_commas true (all_shown es)) ts rest → Behind (Nested (suc d)) es ts rest

number_placed : (n : ℕ) → n ≤ largest → Placed 0 (number n) (λ wanted. one_number n)
number_placed n fits = operands (record { reads = λ d enough ts rest h. a_number_operand fits (the_number h) })

name_placed : (x : ℕ) → Placed 0 (name x) (λ wanted. one_name x)
name_placed x = operands (record { reads = λ d enough ts rest h. a_name_operand (the_name h).1 })

param_placed : (x : ℕ) → Placed 0 (param x) (λ wanted. one sign.Dollar ++ one_name x)
param_placed x = operands (record {
  reads = λ d enough ts rest h.
      let r = split (one sign.Dollar) (one_name x) h in
      a_param_operand (the_sign r.1).1 (the_name r.2).1;
})

nil_placed : Placed 0 nil (λ wanted. one sign.Nil)
nil_placed = operands (record { reads = λ d enough ts rest h. nil_operand (the_sign h).1 })

special_placed : (w : Special) → Placed 0 (special w) (λ wanted. one (special_sign w))
special_placed w = operands (record { reads = λ d enough ts rest h. special_operand w h })

call_reads : (f : Function) (es : Plains) → AllPlaced es → (d : ℕ) → suc (heights es) ≤ d → (ts rest : List Terminal)
    → Says (one (function_sign f) ++ one sign.OpenRound ++ listed (all_shown es) ++ one sign.CloseRound) ts rest → Spelt (Unary (Nested d)) (call f es) ts rest
call_reads f es p zero enough ts rest h = absurd (omega arith)
call_reads f es p (suc d) enough ts rest h =
    let r = split (one (function_sign f) ++ one sign.OpenRound ++ listed (all_shown es)) (one sign.CloseRound) h in
    let q = split (one (function_sign f) ++ one sign.OpenRound) (listed (all_shown es)) r.1 in
    let t = split (one (function_sign f)) (one sign.OpenRound) q.1 in
    call_operand f t.1 (the_sign t.2).1 (p.first d (omega arith) q.0 r.0 q.2) (the_sign r.2).1

call_placed : (f : Function) (es : Plains) → AllPlaced es → Placed (suc (heights es)) (call f es) (λ wanted. one (function_sign f) ++ one sign.OpenRound ++ listed (all_shown es) ++ one sign.CloseRound)
call_placed f es p = operands (record { reads = call_reads f es p })

none_first : (I : Spelled RawExprKind) {ts rest : List Terminal} → Says [] ts rest → Args I none ts rest
unfolding Listed
none_first inside no_more = record { list = []; spelled = the_one (yields []); means = refl }

none_behind : (I : Spelled RawExprKind) {ts rest : List Terminal} → Says [] ts rest → Behind I none ts rest
none_behind inside no_more = record { list = []; spelled = nothing; means = refl }

no_args : AllPlaced none
no_args = record { first = λ d enough ts rest h. none_first (Nested (suc d)) h; behind = λ d enough ts rest h. none_behind (Nested (suc d)) h }

more_first : (e : Plain) (es : Plains) → Both e → AllPlaced es
    → (d : ℕ) → height e + heights es ≤ d → (ts rest : List Terminal) → Says (show_expr e ++ with_commas true (all_shown es)) ts rest → Args (Nested (suc d)) (more e es) ts rest
unfolding Listed Series
more_first e es p ps d enough ts rest h =
    let r = split (show_expr e) (with_commas true (all_shown es)) h in
    let x = p.at.reads d (omega arith) l0 ts r.0 r.1 in
    let xs = ps.behind d (omega arith) r.0 rest r.2 in
    record {
      list = placed_at x.kind ts ∷ xs.list;
      spelled = the_other (seq (placed_at x.kind ts) r.0 (whole (nested_is d x.spelled)) (seq xs.list rest xs.spelled (yields _)));
      means = ap (λ z. more z (plains_of (map plain xs.list))) (says_placed x.kind _ ∙ x.means) ∙ ap (more e) xs.means;
    }

more_behind : (e : Plain) (es : Plains) → Both e → AllPlaced es
    → (d : ℕ) → height e + heights es ≤ d → (ts rest : List Terminal) → Says (one sign.Comma ++ show_expr e ++ with_commas true (all_shown es)) ts rest
    → Behind (Nested (suc d)) (more e es) ts rest
more_behind e es p ps d enough ts rest h =
    let r = split (one sign.Comma ++ show_expr e) (with_commas true (all_shown es)) h in
    let q = split (one sign.Comma) (show_expr e) r.1 in
    let x = p.at.reads d (omega arith) l0 q.0 r.0 q.2 in
    let xs = ps.behind d (omega arith) r.0 rest r.2 in
    let c = the_sign q.1 in
    record {
      list = placed_at x.kind q.0 ∷ xs.list;
      spelled = another (seq c.0 q.0 c.1 (whole (nested_is d x.spelled))) xs.spelled;
      means = ap (λ z. more z (plains_of (map plain xs.list))) (says_placed x.kind _ ∙ x.means) ∙ ap (more e) xs.means;
    }

more_args : (e : Plain) (es : Plains) → Both e → AllPlaced es → AllPlaced (more e es)
more_args e es p ps = record { first = more_first e es p ps; behind = more_behind e es p ps }

mutual
  pub all_placed : (e : Plain) → ExprFits e → Both e
  all_placed (number n) fits = record { at = number_placed n fits; negated = bangs (number_placed n fits) }
  all_placed (name x) fits = record { at = name_placed x; negated = bangs (name_placed x) }
  all_placed (param x) fits = record { at = param_placed x; negated = bangs (param_placed x) }
  all_placed nil fits = record { at = nil_placed; negated = bangs nil_placed }
  all_placed (special w) fits = record { at = special_placed w; negated = bangs (special_placed w) }
  all_placed (call f es) fits = let p = call_placed f es (args_placed es fits) in record { at = p; negated = bangs p }
  all_placed (negation e) fits = let p = all_placed e fits in record { at = p.negated; negated = bangs p.negated }
  all_placed (times n e) fits = let p = times_placed fits.0 (all_placed e fits.1).at in record { at = p; negated = bangs p }
  all_placed (two implies a b) fits = let p = two_placed (shown a).at sign.Implies (shown b).at l0 l1 l0 (core_of operator.Implies (core_implies (all_placed a fits.0).at (all_placed b fits.1).at)) in record { at = p; negated = bangs p }
  all_placed (two either a b) fits = let p = two_placed (shown a).at sign.Or (shown b).at l1 l1 l2 (core_of operator.Or (core_either (all_placed a fits.0).at (all_placed b fits.1).at)) in record { at = p; negated = bangs p }
  all_placed (two both a b) fits = let p = two_placed (shown a).at sign.And (shown b).at l2 l2 l3 (core_of operator.And (core_both (all_placed a fits.0).at (all_placed b fits.1).at)) in record { at = p; negated = bangs p }
  all_placed (two at_most a b) fits = let p = two_placed (shown a).at sign.AtMost (shown b).at l3 l4 l4 (core_of operator.AtMost (core_at_most (all_placed a fits.0).at (all_placed b fits.1).at)) in record { at = p; negated = bangs p }
  all_placed (two below a b) fits = let p = two_placed (shown a).at sign.Below (shown b).at l3 l4 l4 (core_of operator.Below (core_below (all_placed a fits.0).at (all_placed b fits.1).at)) in record { at = p; negated = bangs p }
  all_placed (two plus a b) fits = let p = two_placed (shown a).at sign.Plus (shown b).at l4 l4 l5 (core_of operator.Plus (core_plus (all_placed a fits.0).at (all_placed b fits.1).at)) in record { at = p; negated = bangs p }
  all_placed (two minus a b) fits = let p = two_placed (shown a).at sign.Minus (shown b).at l4 l4 l5 (core_of operator.Minus (core_minus (all_placed a fits.0).at (all_placed b fits.1).at)) in record { at = p; negated = bangs p }
  all_placed (two equal a b) fits = record {
    at = two_placed (shown a).at sign.Equal (shown b).at l3 l4 l4 (core_of operator.Equal (core_equal (all_placed a fits.0).at (all_placed b fits.1).at));
    negated = two_placed (shown a).at sign.NotEqual (shown b).at l3 l4 l4 (core_of operator.NotEqual (core_unequal (all_placed a fits.0).at (all_placed b fits.1).at));
  }

  args_placed : (es : Plains) → AllFit es → AllPlaced es
  args_placed none fits = no_args
  args_placed (more e es) fits = more_args e es (all_placed e fits.0) (args_placed es fits.1)

-- terminals that say the canonical lexemes of an expression spell an expression that says the same
expr_spelled : (e : Plain) → ExprFits e → (ts rest : List Terminal) → Says (show_expr e) ts rest → Derives AnExpr plain e ts rest
unfolding AnExpr
expr_spelled e fits ts rest h =
    let x = (all_placed e fits).at.reads (height e) (omega arith) l0 ts rest h in
    record { raw = placed_at x.kind ts; spelled = whole (suc (height e), nested_is (height e) x.spelled); is = says_placed x.kind _ ∙ x.means }

pub exprs : ShownIsDerived AnExpr plain show_expr ExprFits
exprs = record { holds = expr_spelled }
