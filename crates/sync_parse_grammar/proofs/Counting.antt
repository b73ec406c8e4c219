-- How often `by` stands in a text: once for each of its proofs.
use Rattle.std.proofs.Common.{◌≡◌, ℕ, zero, suc, ◌+◌, ◌<◌, ◌≤◌, Bool, true, false, ◌&&◌, ◌||◌, if◌then◌else◌, List, [], ◌∷◌, length, Option, Some, None, refl, sym, ap, ◌∙◌, arith}
use Rattle.sync_lex.specs.declared.signs.Sign.{Sign}
use Rattle.sync_lex.specs.declared.signs.Sign.TheVariants as sign
use Rattle.sync_lex.specs.contracts.signs.Sign.{the_type}
use Rattle.sync_lex.specs.declared.terminals.Terminal.{Terminal}
use Rattle.sync_lex.specs.Signs.{is_same}
use Rattle.sync_lex.specs.Terminals.{says_sign, is_sign}
use Rattle.sync_parse_exprs.specs.declared.raw_names.RawName.{RawName}
use Rattle.sync_parse_exprs.specs.declared.expressions.RawExpr.{RawExpr}
use Rattle.sync_parse_exprs.specs.declared.expressions.RawExprKind.{RawExprKind}
use Rattle.sync_parse_exprs.specs.declared.expressions.Operator.{Operator}
use Rattle.sync_parse_exprs.specs.Expressions.{special_of, function_of}
use Rattle.sync_parse.specs.declared.scripts.RawBlock.{RawBlock}
use Rattle.sync_parse.specs.declared.scripts.RawStepKind.{RawStepKind}
use Rattle.sync_parse.specs.declared.trees.RawMachine.{RawMachine}
use Rattle.sync_parse.specs.declared.trees.RawProof.{RawProof}
use Rattle.sync_parse.specs.declared.trees.RawPlace.{RawPlace}
use Rattle.sync_parse.specs.declared.trees.RawAct.{RawAct}
use Rattle.sync_parse.specs.Scripts.{bounded_of}
use Rattle.sync_parse_forms.specs.Relations.{Spelled, The, AName, ANumber, AStrategy, OneOf, Yields, Here, Then, Either, the_one, the_other, Closed, Many, nothing, more, Series, Listed, InRound, Names}
use Rattle.sync_parse_grammar.specs.Expressions.{Whole, NoNumber, Operand, Unary, Product, Chain, Chained, Joins, SumSign, Sum, RelationSign, Relation, And, Or, Implied, Nested, AnExpr, Args}
use Rattle.sync_parse_grammar.specs.Scripts as scripts
use Rattle.sync_parse_grammar.specs.Scripts.{ASubject, Hyp, Scaled, Part, As, Same, Inst, Parts, Lookup, Cong, Split, Cut, StepKind, Step, BlockOf, Block, Script}
use Rattle.sync_parse_grammar.specs.Machines.{Pattern, Place, FormulaAct, ValueAct, FieldPlace, PlaceAct, HaveAct, ActKind, Act, Field, Mode, Operation, Invariant, Machine, Claim, Proof, Proofs}
use Rattle.sync_parse_grammar.specs.Texts.{Version, Text, times_said}
use denote.Enum.Bare.{same_true}

abbrev bys : List Terminal → ℕ
bys ts = times_said sign.By ts

-- one number is less than another, or at most that
abbrev pub Shorter : Bool → ℕ → ℕ → Type 0
Shorter true a b = a < b
Shorter false a b = a ≤ b

-- between two places `by` does not stand; if solid, some terminal does
pub record Over (solid : Bool) (ts rest : List Terminal) : Type 0 where
  pub same : bys ts ≡ bys rest
  pub shorter : Shorter solid (length rest) (length ts)

-- `by` does not stand in what is spelled; if solid, that is some terminal
pub record Silent {A : Type 0} (solid : Bool) (m : Spelled A) : Type 0 where
  pub at : (ts rest : List Terminal) (x : A) → m ts rest x → Over solid ts rest

over_none : (ts rest : List Terminal) → ts ≡ rest → Over false ts rest
over_none ts rest e = let same = ap (λ (us : List Terminal). length us) e in record { same = ap (λ us. bys us) e; shorter = omega (arith, same) }

shorter_both : (j k : Bool) (a b c : ℕ) → Shorter j b a → Shorter k c b → Shorter (j || k) c a
shorter_both true true a b c p q = omega arith
shorter_both true false a b c p q = omega arith
shorter_both false true a b c p q = omega arith
shorter_both false false a b c p q = omega arith

over_both : (j k : Bool) (ts us rest : List Terminal) → Over j ts us → Over k us rest → Over (j || k) ts rest
over_both j k ts us rest d e = record { same = d.same ∙ e.same; shorter = shorter_both j k (length ts) (length us) (length rest) d.shorter e.shorter }

over_weaker : (j : Bool) (ts rest : List Terminal) → Over j ts rest → Over false ts rest
over_weaker true ts rest d = let h : length rest < length ts = d.shorter in record { same = d.same; shorter = omega (arith, h) }
over_weaker false ts rest d = d

over_left : (j k : Bool) (ts rest : List Terminal) → Over j ts rest → Over (j && k) ts rest
over_left true true ts rest d = d
over_left true false ts rest d = over_weaker true ts rest d
over_left false k ts rest d = d

over_right : (j k : Bool) (ts rest : List Terminal) → Over k ts rest → Over (j && k) ts rest
over_right true k ts rest d = d
over_right false k ts rest d = over_weaker k ts rest d

-- ---- lexemes

one_terminal : (ts rest : List Terminal) (w : Terminal) → ts ≡ w ∷ rest → is_sign w sign.By ≡ false → Over true ts rest
unfolding times_said
one_terminal ts rest w e apart =
    let cut : bys (w ∷ rest) ≡ 0 + bys rest = ap (λ (c : Bool). (if c then 1 else 0) + bys rest) apart in
    let size : length ts ≡ suc (length rest) = ap (λ (us : List Terminal). length us) e in
    record { same = ap (λ us. bys us) e ∙ cut ∙ omega arith; shorter = omega (arith, size) }

by_terminal : (ts rest : List Terminal) (w : Terminal) → ts ≡ w ∷ rest → is_sign w sign.By ≡ true → bys ts ≡ 1 + bys rest
unfolding times_said
by_terminal ts rest w e is = ap (λ us. bys us) e ∙ ap (λ (c : Bool). (if c then 1 else 0) + bys rest) is

pub silent_the : {s : Sign} → is_same s sign.By ≡ false → Silent true (The s)
silent_the {s = s} apart = record { at = λ ts rest x d. one_terminal ts rest d.terminal d.stands (ap (λ z. says_sign z sign.By) d.is ∙ apart) }

pub silent_name : Silent true AName
silent_name = record { at = λ ts rest x d. one_terminal ts rest d.terminal d.stands (ap (λ z. says_sign z sign.By) d.is) }

pub silent_number : Silent true ANumber
silent_number = record { at = λ ts rest x d. one_terminal ts rest d.terminal d.stands (ap (λ z. says_sign z sign.By) d.is) }

silent_strategy : Silent true AStrategy
silent_strategy = record { at = λ ts rest x d. one_terminal ts rest d.terminal d.stands (ap (λ z. says_sign z sign.By) d.is) }

no_row : {A : Type 0} (table : Sign → Option A) (s : Sign) (x : A) → table sign.By ≡ None → table s ≡ Some x → (c : Bool) → is_same s sign.By ≡ c → c ≡ false
no_row table s x none found false is = refl
no_row table s x none found true is =
    let e : s ≡ sign.By = same_true the_type tt s sign.By is in
    let wrong : ◌≡◌ {A = Option _} None (Some x) = sym none ∙ ap table (sym e) ∙ found in absurd cc

silent_one_of : {A : Type 0} (table : Sign → Option A) → table sign.By ≡ None → Silent true (OneOf table)
silent_one_of table none = record {
  at = λ ts rest x d.
      one_terminal ts rest d.terminal d.stands (ap (λ z. says_sign z sign.By) d.is ∙ no_row table d.sign x.0 none d.found (is_same d.sign sign.By) refl);
}

-- ---- putting together

silent_yields : {A : Type 0} {x : A} → Silent false (Yields x)
silent_yields = record { at = λ ts rest x d. over_none ts rest d.none }

silent_here : Silent false Here
silent_here = record { at = λ ts rest x d. over_none ts rest d.none }

silent_then : {A B : Type 0} {j k : Bool} {m : Spelled A} {g : A → Spelled B} → Silent j m → ((x : A) → Silent k (g x)) → Silent (j || k) (Then m g)
silent_then {j = j} {k = k} s t = record { at = λ ts rest y d. over_both j k ts d.middle rest (s.at ts d.middle d.value d.one) ((t d.value).at d.middle rest y d.next) }

silent_case : {A : Type 0} {j k : Bool} {m n : Spelled A} → Silent j m → Silent k n → (ts rest : List Terminal) (x : A) → Either m n ts rest x → Over (j && k) ts rest
silent_case {j = j} {k = k} s t ts rest x (the_one d) = over_left j k ts rest (s.at ts rest x d)
silent_case {j = j} {k = k} s t ts rest x (the_other d) = over_right j k ts rest (t.at ts rest x d)

silent_or : {A : Type 0} {j k : Bool} {m n : Spelled A} → Silent j m → Silent k n → Silent (j && k) (Either m n)
silent_or s t = record { at = silent_case s t }

silent_many_case : {A : Type 0} {m : Spelled A} → Silent true m → (ts rest : List Terminal) (xs : List A) → Many m ts rest xs → Over false ts rest
silent_many_case s ts rest xs nothing = over_none ts ts refl
silent_many_case s ts rest xs (more {us = us} {x = x} {xs = ys} d ds) = over_weaker true ts rest (over_both true false ts us rest (s.at ts us x d) (silent_many_case s us rest ys ds))

silent_many : {A : Type 0} {m : Spelled A} → Silent true m → Silent false (Many m)
silent_many s = record { at = silent_many_case s }

silent_closed : {A : Type 0} {m : Spelled A} → Silent true m → Silent true (Closed m)
unfolding Closed
silent_closed s = silent_then s λ x. silent_then (silent_the refl) λ l. silent_yields

silent_series : {A : Type 0} {m : Spelled A} → Silent true m → Silent true (Series m)
unfolding Series
silent_series s = silent_then s λ x. silent_then (silent_many (silent_then (silent_the refl) λ l. s)) λ xs. silent_yields

silent_round : {A : Type 0} {m : Spelled A} → Silent true m → Silent true (InRound m)
unfolding InRound Listed
silent_round s = silent_then (silent_the refl) λ o. silent_then (silent_or silent_yields (silent_series s)) λ xs. silent_then (silent_the refl) λ e. silent_yields

silent_names : Silent true Names
unfolding Names
silent_names = silent_round silent_name

-- ---- expressions

silent_whole : {m : Spelled RawExprKind} → Silent true m → Silent true (Whole m)
silent_whole s = silent_then silent_here λ start. silent_then s λ x. silent_yields

silent_operand : {m : Spelled RawExprKind} → Silent true m → Silent true (Operand m)
unfolding Operand NoNumber special_of function_of
silent_operand s =
    silent_or (silent_then silent_number λ n. silent_yields)
    (silent_or (silent_then silent_name λ x. silent_yields)
    (silent_or (silent_then (silent_the refl) λ l. silent_then silent_name λ x. silent_yields)
    (silent_or (silent_then (silent_the refl) λ l. silent_yields)
    (silent_or (silent_then (silent_one_of special_of refl) λ x. silent_yields)
    (silent_or (silent_then (silent_one_of function_of refl) λ f. silent_then (silent_round (silent_whole s)) λ args. silent_yields)
    (silent_then (silent_the refl) λ o. silent_then (silent_whole s) λ x. silent_then (silent_the refl) λ e. silent_yields))))))

silent_bang : Silent true (The sign.Bang)
silent_bang = silent_the refl

silent_minus : Silent true (The sign.Minus)
silent_minus = silent_the refl

silent_unary_case : {m : Spelled RawExprKind} → Silent true m → (ts rest : List Terminal) (x : RawExprKind) → Unary m ts rest x → Over true ts rest
silent_unary_case s ts rest x (Unary.operand d) = (silent_operand s).at ts rest x d
silent_unary_case s ts rest x (Unary.negated {us = us} {line = l} {x = y} p d) = over_both true true ts us rest (silent_bang.at ts us l p) (silent_unary_case s us rest y d)
silent_unary_case s ts rest x (Unary.minus {us = us} {line = l} {x = y} p d) = over_both true true ts us rest (silent_minus.at ts us l p) (silent_unary_case s us rest y d)

silent_unary : {m : Spelled RawExprKind} → Silent true m → Silent true (Unary m)
silent_unary s = record { at = silent_unary_case s }

silent_product : {m : Spelled RawExprKind} → Silent true m → Silent true (Product m)
unfolding Product
silent_product s = silent_or (silent_unary s) (silent_then silent_number λ n. silent_then (silent_the refl) λ l. silent_then (silent_whole (silent_unary s)) λ x. silent_yields)

silent_chain_case : {Op : Spelled Operator} {m : Spelled RawExprKind} {start : List Terminal} → Silent true Op → Silent true m → (held : RawExprKind) (ts rest : List Terminal) (x : RawExprKind) → Chain Op m start held ts rest x → Over false ts rest
silent_chain_case o s held ts rest x Chain.ends = over_none ts ts refl
silent_chain_case o s held ts rest x (Chain.goes_on {us = us} {vs = vs} {o = p} y d e more_d) = over_weaker true ts rest (over_both true true ts us rest (o.at ts us p d) (over_both true false us vs rest ((silent_whole s).at us vs y e) (silent_chain_case o s _ vs rest x more_d)))

silent_chained : {Op : Spelled Operator} {m : Spelled RawExprKind} → Silent true Op → Silent true m → Silent true (Chained Op m)
unfolding Chained
silent_chained o s = silent_then silent_here λ start. silent_then s λ x. record { at = silent_chain_case o s x }

silent_joins : (s : Sign) (o : Operator) → is_same s sign.By ≡ false → Silent true (Joins s o)
silent_joins s o e = silent_then (silent_the e) λ l. silent_yields

silent_sum : {m : Spelled RawExprKind} → Silent true m → Silent true (Sum m)
unfolding Sum SumSign
silent_sum s = silent_chained (silent_or (silent_joins _ _ refl) (silent_joins _ _ refl)) (silent_product s)

silent_relation : {m : Spelled RawExprKind} → Silent true m → Silent true (Relation m)
unfolding Relation RelationSign
silent_relation s = silent_then silent_here λ start. silent_then (silent_sum s) λ x. silent_or silent_yields
    (silent_then (silent_or (silent_joins _ _ refl) (silent_or (silent_joins _ _ refl) (silent_or (silent_joins _ _ refl) (silent_joins _ _ refl))))
    λ o. silent_then (silent_whole (silent_sum s)) λ y. silent_yields)

silent_or_level : {m : Spelled RawExprKind} → Silent true m → Silent true (Or m)
unfolding Or And
silent_or_level s = silent_chained (silent_joins _ _ refl) (silent_chained (silent_joins _ _ refl) (silent_relation s))

silent_implies : Silent true (The sign.Implies)
silent_implies = silent_the refl

silent_implied_case : {m : Spelled RawExprKind} → Silent true m → (ts rest : List Terminal) (x : RawExprKind) → Implied m ts rest x → Over true ts rest
silent_implied_case s ts rest x (Implied.plain d) = (silent_or_level s).at ts rest x d
silent_implied_case s ts rest x (Implied.implies {vs = vs} {y = y} z us l d p e) = over_both true true ts us rest ((silent_or_level s).at ts us z d) (over_both true true us vs rest (silent_implies.at us vs l p) (silent_implied_case s vs rest y e))

pub silent_nested : (depth : ℕ) → Silent true (Nested depth)
unfolding Nested
silent_nested zero = record { at = λ ts rest x d. absurd d }
silent_nested (suc depth) = record { at = silent_implied_case (silent_nested depth) }

pub silent_expr : Silent true AnExpr
unfolding AnExpr
silent_expr = silent_whole (record { at = λ ts rest x d. (silent_nested d.0).at ts rest x d.1 })

pub silent_args : Silent true Args
unfolding Args
silent_args = silent_round silent_expr

-- ---- scripts

silent_subject : Silent true ASubject
unfolding ASubject bounded_of
silent_subject = silent_or (silent_then silent_name λ x. silent_yields) (silent_then (silent_one_of bounded_of refl) λ x. silent_yields)

pub silent_hyp : Silent true Hyp
unfolding Hyp
silent_hyp =
    silent_or (silent_then (silent_the refl) λ l. silent_yields)
    (silent_or (silent_then (silent_the refl) λ l. silent_then silent_number λ n. silent_yields)
    (silent_or (silent_then (silent_the refl) λ l. silent_then silent_subject λ s. silent_yields)
    (silent_or (silent_then (silent_the refl) λ l. silent_then silent_subject λ s. silent_yields)
    (silent_then silent_name λ x. silent_yields))))

silent_scaled : (minus : Bool) → Silent true (Scaled minus)
unfolding Scaled
silent_scaled minus = silent_then silent_number λ n. silent_then silent_hyp λ h. silent_yields

pub silent_part : Silent true Part
unfolding Part
silent_part = silent_or (silent_then (silent_the refl) λ l. silent_scaled true) (silent_scaled false)

silent_as : Silent true As
unfolding As
silent_as = silent_then (silent_the refl) λ l. silent_name

silent_lookup : (opening : Sign) (made : RawExpr → RawExpr → RawName → RawStepKind) → is_same opening sign.By ≡ false → Silent true (Lookup opening made)
unfolding Lookup
silent_lookup opening made apart = silent_then (silent_the apart) λ s. silent_then silent_expr λ m. silent_then (silent_the refl) λ c. silent_then silent_expr λ k. silent_then silent_as λ a.
    silent_then (silent_the refl) λ e. silent_yields

silent_step_kind : {m : Spelled RawBlock} → Silent true m → Silent true (StepKind m)
unfolding StepKind Split Cut Same scripts.Sum Inst Parts Cong
silent_step_kind b =
    silent_or (silent_then (silent_the refl) λ s. silent_then silent_hyp λ h. silent_then silent_as λ a. silent_then b λ x. silent_then b λ y. silent_yields)
    (silent_or (silent_then (silent_the refl) λ s. silent_then silent_expr λ f. silent_then silent_as λ a. silent_then b λ x. silent_yields)
    (silent_or (silent_then (silent_the refl) λ s. silent_then (silent_the refl) λ e. silent_yields)
    (silent_or (silent_then (silent_the refl) λ s. silent_then (silent_series silent_part) λ ps. silent_then (silent_the refl) λ e. silent_yields)
    (silent_or (silent_then (silent_the refl) λ s. silent_then silent_hyp λ h. silent_then silent_args λ args. silent_then silent_as λ a. silent_then (silent_the refl) λ e. silent_yields)
    (silent_or (silent_then (silent_the refl) λ s. silent_then silent_hyp λ h. silent_then silent_as λ a. silent_then (silent_the refl) λ c. silent_then silent_name λ n. silent_then (silent_the refl) λ e. silent_yields)
    (silent_or (silent_lookup _ _ refl) (silent_or (silent_lookup _ _ refl) (silent_or (silent_lookup _ _ refl)
    (silent_then (silent_the refl) λ s. silent_then silent_expr λ m. silent_then (silent_the refl) λ c. silent_then silent_expr λ j. silent_then (silent_the refl) λ d. silent_then silent_expr λ k.
    silent_then silent_as λ a. silent_then (silent_the refl) λ e. silent_yields)))))))))

pub silent_step : {m : Spelled RawBlock} → Silent true m → Silent true (Step m)
unfolding Step
silent_step b = silent_then silent_here λ start. silent_then (silent_step_kind b) λ x. silent_yields

silent_block_of : {m : Spelled RawBlock} → Silent true m → Silent true (BlockOf m)
unfolding BlockOf
silent_block_of b = silent_then (silent_the refl) λ o. silent_then (silent_many (silent_step b)) λ xs. silent_then (silent_the refl) λ e. silent_yields

pub silent_nested_block : (depth : ℕ) → Silent true (scripts.Nested depth)
unfolding scripts.Nested
silent_nested_block zero = record { at = λ ts rest x d. absurd d }
silent_nested_block (suc depth) = silent_block_of (silent_nested_block depth)

pub silent_block : Silent true Block
unfolding Block
silent_block = record { at = λ ts rest x d. (silent_nested_block d.0).at ts rest x d.1 }

-- ---- machines

silent_pattern : Silent true Pattern
unfolding Pattern
silent_pattern = silent_or (silent_then (silent_the refl) λ q. silent_then silent_name λ n. silent_yields) (silent_then silent_expr λ e. silent_yields)

silent_place : Silent true Place
unfolding Place
silent_place = silent_or (silent_then (silent_the refl) λ o. silent_then silent_pattern λ p. silent_then (silent_the refl) λ e. silent_yields)
    (silent_then (silent_the refl) λ o. silent_then silent_expr λ k.
    silent_then (silent_or silent_yields (silent_then (silent_the refl) λ m. silent_then silent_pattern λ p. silent_yields)) λ x. silent_then (silent_the refl) λ e. silent_yields)

silent_formula : (opening : Sign) (made : RawExpr → RawAct) → is_same opening sign.By ≡ false → Silent true (FormulaAct opening made)
unfolding FormulaAct
silent_formula opening made apart = silent_then (silent_the apart) λ w. silent_then (silent_closed silent_expr) λ e. silent_yields

silent_value : (opening : Sign) (made : RawName → RawExpr → RawAct) → is_same opening sign.By ≡ false → Silent true (ValueAct opening made)
unfolding ValueAct
silent_value opening made apart = silent_then (silent_the apart) λ w. silent_then silent_name λ n. silent_then (silent_the refl) λ q. silent_then (silent_closed silent_expr) λ e. silent_yields

silent_place_act : (opening symbol : Sign) (made : RawName → RawPlace → RawAct) → is_same opening sign.By ≡ false → is_same symbol sign.By ≡ false → Silent true (PlaceAct opening symbol made)
unfolding PlaceAct FieldPlace
silent_place_act opening symbol made apart none = silent_then (silent_then (silent_the apart) λ w. silent_then silent_name λ n. silent_then (silent_the none) λ q.
    silent_then (silent_closed silent_place) λ p. silent_yields) λ x. silent_yields

silent_have : Silent true HaveAct
unfolding HaveAct
silent_have = silent_then (silent_the refl) λ w. silent_then silent_name λ n. silent_or (silent_then (silent_the refl) λ s. silent_yields)
    (silent_then (silent_the refl) λ q. silent_then (silent_closed silent_place) λ p. silent_yields)

pub silent_act : Silent true Act
unfolding Act ActKind
silent_act = silent_then silent_here λ start. silent_then
    (silent_or (silent_value _ _ refl) (silent_or (silent_formula _ _ refl) (silent_or (silent_formula _ _ refl) (silent_or (silent_value _ _ refl) (silent_or silent_have
    (silent_or (silent_place_act _ _ _ refl refl) (silent_or (silent_place_act _ _ _ refl refl) (silent_or (silent_place_act _ _ _ refl refl)
    (silent_or (silent_place_act _ _ _ refl refl) (silent_place_act _ _ _ refl refl)))))))))) λ x. silent_yields

pub silent_field : Silent true Field
unfolding Field
silent_field = silent_then (silent_the refl) λ f. silent_then silent_name λ n. silent_then (silent_the refl) λ c. silent_then silent_strategy λ s. silent_then (silent_the refl) λ e. silent_yields

pub silent_operation : Silent true Operation
unfolding Operation Mode
silent_operation = silent_then silent_here λ start.
    silent_then (silent_or (silent_then (silent_the refl) λ l. silent_yields) (silent_or (silent_then (silent_the refl) λ l. silent_yields) (silent_then (silent_the refl) λ l. silent_yields))) λ m.
    silent_then silent_name λ n. silent_then silent_names λ ps. silent_then (silent_the refl) λ o. silent_then (silent_many silent_act) λ xs. silent_then (silent_the refl) λ e. silent_yields

pub silent_invariant : Silent true Invariant
unfolding Invariant
silent_invariant = silent_then (silent_the refl) λ i. silent_then silent_name λ n. silent_then silent_names λ ps. silent_then (silent_the refl) λ c. silent_then (silent_closed silent_expr) λ e. silent_yields

silent_machine : Silent true Machine
unfolding Machine
silent_machine = silent_then (silent_the refl) λ m. silent_then silent_name λ n. silent_then (silent_the refl) λ o. silent_then (silent_many silent_field) λ fs.
    silent_then (silent_many silent_operation) λ ops. silent_then (silent_many silent_invariant) λ is. silent_then (silent_the refl) λ e. silent_yields

pub silent_claim : Silent true Claim
unfolding Claim
silent_claim = silent_or (silent_then (silent_the refl) λ a. silent_then silent_number λ n. silent_yields) (silent_then (silent_the refl) λ k. silent_then silent_name λ n. silent_yields)

-- ---- proofs

-- a script has one `by`
by_script : (ts rest : List Terminal) (x : _) → Script ts rest x → bys ts ≡ 1 + bys rest
unfolding Script
by_script ts rest x d =
    let first = by_terminal ts d.middle d.one.terminal d.one.stands (ap (λ z. says_sign z sign.By) d.one.is) in
    let block = (silent_block.at d.middle d.next.middle d.next.value d.next.one).same in
    let end = ap (λ us. bys us) d.next.next.none in
    first ∙ ap (λ (n : ℕ). 1 + n) (block ∙ end)

by_proof : (ts rest : List Terminal) (x : RawProof) → Proof ts rest x → bys ts ≡ 1 + bys rest
unfolding Proof
by_proof ts rest x d =
    let name = (silent_name.at ts d.middle d.value d.one).same in
    let claim = (silent_claim.at d.middle d.next.middle d.next.value d.next.one).same in
    let script = by_script d.next.middle d.next.next.middle d.next.next.value d.next.next.one in
    let end = ap (λ us. bys us) d.next.next.next.none in
    name ∙ claim ∙ script ∙ ap (λ (n : ℕ). 1 + n) end

by_proofs : (ts rest : List Terminal) (xs : List RawProof) → Many Proof ts rest xs → bys ts ≡ length xs + bys rest
by_proofs ts rest xs nothing = omega arith
by_proofs ts rest xs (more {us = us} {x = x} {xs = ys} d ds) = let one = by_proof ts us x d in let next = by_proofs us rest ys ds in omega (arith, one, next)

by_all : (ts rest : List Terminal) (xs : List RawProof) → Proofs ts rest xs → bys ts ≡ length xs + bys rest
unfolding Proofs
by_all ts rest xs (the_one d) = let e = ap (λ us. bys us) d.none in let none : length xs ≡ 0 = ap (λ (ys : List RawProof). length ys) d.is in omega (arith, e, none)
by_all ts rest xs (the_other d) =
    let proofs = ((silent_the {s = sign.Proofs} refl).at ts d.middle d.value d.one).same in
    let open_ = ((silent_the {s = sign.OpenBrace} refl).at d.middle d.next.middle d.next.value d.next.one).same in
    let many = by_proofs d.next.middle d.next.next.middle d.next.next.value d.next.next.one in
    let close = ((silent_the {s = sign.CloseBrace} refl).at d.next.next.middle d.next.next.next.middle d.next.next.next.value d.next.next.next.one).same in
    let end = ap (λ us. bys us) d.next.next.next.next.none in
    let same : length xs ≡ length d.next.next.value = ap (λ (ys : List RawProof). length ys) d.next.next.next.next.is in
    omega (arith, proofs, open_, many, close, end, same)

-- in a text `by` stands once for each proof
pub by_text : (ts : List Terminal) (x : RawMachine × List RawProof) → Text ts [] x → times_said sign.By ts ≡ length x.1
unfolding Text Version times_said
by_text ts x d =
    let version = ((silent_then (silent_the {s = sign.Version} refl) λ l. silent_then silent_number λ n. silent_yields {x = l}).at ts d.middle d.value d.one).same in
    let semicolon = ((silent_the {s = sign.Semicolon} refl).at d.middle d.next.middle d.next.value d.next.one).same in
    let machine = (silent_machine.at d.next.middle d.next.next.middle d.next.next.value d.next.next.one).same in
    let proofs = by_all d.next.next.middle d.next.next.next.middle d.next.next.next.value d.next.next.next.one in
    let end : bys d.next.next.next.middle ≡ 0 = ap (λ us. bys us) d.next.next.next.next.none in
    let same : length x.1 ≡ length d.next.next.next.value = ap (λ (y : RawMachine × List RawProof). length y.1) d.next.next.next.next.is in
    omega (arith, version, semicolon, machine, proofs, end, same)
