-- The operands of expressions: what each spells.
use Rattle.std.proofs.Common.{◌≡◌, ◌≤◌, ℕ, ℤ, unsigned_abs, List, map, Some, refl, ap, ◌∙◌, arith}
use Rattle.sync_lex.specs.declared.signs.Sign.TheVariants as sign
use Rattle.sync_lex.specs.declared.terminals.Terminal.{Terminal}
use Rattle.sync_base.specs.Limits.{largest}
use Rattle.sync_parse_exprs.specs.declared.expressions.RawExpr.{RawExpr}
use Rattle.sync_parse_exprs.specs.declared.expressions.RawExprKind.{RawExprKind}
use Rattle.sync_parse_exprs.specs.declared.expressions.RawExprKind.TheVariants as kinds
use Rattle.sync_parse_exprs.specs.declared.expressions.Special.{Special}
use Rattle.sync_parse_exprs.specs.declared.expressions.Special.TheVariants as terminal
use Rattle.sync_parse_exprs.specs.declared.expressions.Function.{Function}
use Rattle.sync_parse_exprs.specs.declared.expressions.Function.TheVariants as function
use Rattle.sync_parse_exprs.specs.declared.raw_names.RawName.{RawName}
use Rattle.sync_parse_exprs.specs.Expressions.{signed, special_of, function_of}
use Rattle.sync_parse_forms.specs.Relations.{Spelled, The, AName, ANumber, the_one, the_other, Listed, InRound}
use Rattle.sync_parse_grammar.specs.Expressions.{placed_at, Whole, NoNumber, Operand, Unary, operand, negated, Product}
use Rattle.sync_print.specs.Exprs.{Plain, number, name, param, nil, special, call, negation, times, Plains, plain, plains_of}
use Rattle.sync_print.specs.Lexemes.{one}
use Rattle.sync_print.specs.ShowExprs.{function_sign, special_sign}
use Rattle.sync_print.proofs.Saying.{said-Number, said-Name, said-Param, said-Nil, said-Bracketed, said-Special, said-Call, said-Not, said-Times}
use Rattle.sync_print_spelling.specs.Says.{Says}
use Rattle.sync_print_spelling.proofs.Terminals.{the_sign, yields, seq, whole}
use Rattle.sync_print_spelling.proofs.Levels.{Spelt, says_placed}

-- ---- operands

-- a number that a text can hold is its own value
pub within : (n : ℕ) → n ≤ largest → unsigned_abs (signed n) ≡ n
within n fits = omega arith

pub bracketed : {I : Spelled RawExprKind} {e : Plain} {ts us vs rest : List Terminal} {line line' : ℕ}
    → The sign.OpenRound ts us line → Spelt I e us vs → The sign.CloseRound vs rest line' → Spelt (Unary I) e ts rest
unfolding Operand NoNumber
bracketed {us = us} {vs = vs} {rest = rest} {line = line} {line' = line'} o x c =
    let y = placed_at x.kind us in
    record {
      kind = kinds.Bracketed y;
      spelled = operand (the_other (the_other (the_other (the_other (the_other (the_other (seq line us o (seq y vs (whole x.spelled) (seq line' rest c (yields _))))))))));
      means = said-Bracketed y ∙ (says_placed x.kind _ ∙ x.means);
    }

pub a_name_operand : {I : Spelled RawExprKind} {ts rest : List Terminal} {x line : ℕ} → AName ts rest (record { name = x; line = line }) → Spelt (Unary I) (name x) ts rest
unfolding Operand NoNumber
a_name_operand {rest = rest} {x = x} {line = line} h =
    let named : RawName = record { name = x; line = line } in
    record { kind = kinds.Name named; spelled = operand (the_other (the_one (seq named rest h (yields _)))); means = said-Name named }

pub a_number_operand : {I : Spelled RawExprKind} {ts rest : List Terminal} {n : ℕ} → n ≤ largest → ANumber ts rest n → Spelt (Unary I) (number n) ts rest
unfolding Operand
a_number_operand {rest = rest} {n = n} fits h =
    record { kind = kinds.Number (signed n); spelled = operand (the_one (seq n rest h (yields _))); means = said-Number (signed n) ∙ ap number (within n fits) }

pub a_param_operand : {I : Spelled RawExprKind} {ts us rest : List Terminal} {x line line' : ℕ} → The sign.Dollar ts us line → AName us rest (record { name = x; line = line' }) → Spelt (Unary I) (param x) ts rest
unfolding Operand NoNumber
a_param_operand {us = us} {rest = rest} {x = x} {line = line} {line' = line'} d h =
    let named : RawName = record { name = x; line = line' } in
    record {
      kind = kinds.Param line named;
      spelled = operand (the_other (the_other (the_one (seq line us d (seq named rest h (yields _))))));
      means = said-Param line named;
    }

pub nil_operand : {I : Spelled RawExprKind} {ts rest : List Terminal} {line : ℕ} → The sign.Nil ts rest line → Spelt (Unary I) nil ts rest
unfolding Operand NoNumber
nil_operand {rest = rest} {line = line} h =
    record { kind = kinds.Nil; spelled = operand (the_other (the_other (the_other (the_one (seq line rest h (yields _)))))); means = said-Nil }

pub special_found : (w : Special) → special_of (special_sign w) ≡ Some w
unfolding special_of
special_found terminal.Value = refl
special_found terminal.Index = refl
special_found terminal.Old = refl
special_found terminal.New = refl
special_found terminal.Wrap = refl

pub special_operand : {I : Spelled RawExprKind} {ts rest : List Terminal} (w : Special) → Says (one (special_sign w)) ts rest → Spelt (Unary I) (special w) ts rest
unfolding Operand NoNumber
special_operand {rest = rest} w h =
    let s = the_sign h in
    record {
      kind = kinds.Special w s.0;
      spelled = operand (the_other (the_other (the_other (the_other (the_one
          (seq (w, s.0) rest (record { terminal = s.1.terminal; sign = special_sign w; stands = s.1.stands; is = s.1.is; found = special_found w; line_is = s.1.line_is }) (yields _)))))));
      means = said-Special w s.0;
    }

pub function_found : (f : Function) → function_of (function_sign f) ≡ Some f
unfolding function_of
function_found function.Get = refl
function_found function.Has = refl
function_found function.Size = refl
function_found function.Sum = refl
function_found function.Put = refl
function_found function.Del = refl
function_found function.Bump = refl
function_found function.Held = refl

-- arguments that are spelled
pub record Args (I : Spelled RawExprKind) (es : Plains) (ts rest : List Terminal) : Type 0 where
  pub list : List RawExpr
  pub spelled : Listed (Whole I) ts rest list
  pub means : plains_of (map plain list) ≡ es

pub call_operand : {I : Spelled RawExprKind} {es : Plains} {ts us vs ws rest : List Terminal} {line line' : ℕ} (f : Function)
    → Says (one (function_sign f)) ts us → The sign.OpenRound us vs line → Args I es vs ws → The sign.CloseRound ws rest line' → Spelt (Unary I) (call f es) ts rest
unfolding Operand NoNumber InRound
call_operand {us = us} {vs = vs} {ws = ws} {rest = rest} {line = line} {line' = line'} f h o args c =
    let s = the_sign h in
    record {
      kind = kinds.Call f s.0 args.list;
      spelled = operand (the_other (the_other (the_other (the_other (the_other (the_one
          (seq (f, s.0) us (record { terminal = s.1.terminal; sign = function_sign f; stands = s.1.stands; is = s.1.is; found = function_found f; line_is = s.1.line_is })
          (seq args.list rest (seq line vs o (seq args.list ws args.spelled (seq line' rest c (yields _)))) (yields _)))))))));
      means = said-Call f s.0 args.list ∙ ap (call f) args.means;
    }

pub negations : {I : Spelled RawExprKind} {e : Plain} {ts us rest : List Terminal} {line : ℕ} → The sign.Bang ts us line → Spelt (Unary I) e us rest → Spelt (Unary I) (negation e) ts rest
negations {us = us} b x =
    record {
      kind = kinds.Not (placed_at x.kind us);
      spelled = negated b x.spelled;
      means = said-Not (placed_at x.kind us) ∙ ap negation (says_placed x.kind _ ∙ x.means);
    }

-- a number times something, spelled by a production
pub record Multiple (K : Spelled RawExprKind) (n : ℕ) (e : Plain) (ts rest : List Terminal) : Type 0 where
  pub factor : ℤ
  pub inner : RawExpr
  pub spelled : K ts rest (kinds.Times factor inner)
  pub factor_is : unsigned_abs factor ≡ n
  pub means : plain inner ≡ e

pub products : {I : Spelled RawExprKind} {e : Plain} {ts us vs rest : List Terminal} {n line : ℕ} → n ≤ largest → ANumber ts us n → The sign.Star us vs line → Spelt (Unary I) e vs rest
    → Multiple (Product I) n e ts rest
unfolding Product
products {us = us} {vs = vs} {rest = rest} {n = n} {line = line} fits h s x =
    let y = placed_at x.kind vs in
    record {
      factor = signed n;
      inner = y;
      spelled = the_other (seq n us h (seq line vs s (seq y rest (whole x.spelled) (yields _))));
      factor_is = within n fits;
      means = says_placed x.kind _ ∙ x.means;
    }

pub spelt_times : {K : Spelled RawExprKind} {n : ℕ} {e : Plain} {ts rest : List Terminal} → Multiple K n e ts rest → Spelt K (times n e) ts rest
spelt_times {n = n} {e = e} m = record {
  kind = kinds.Times m.factor m.inner;
  spelled = m.spelled;
  means = said-Times m.factor m.inner ∙ (ap (λ k. times k (plain m.inner)) m.factor_is ∙ ap (times n) m.means);
}
