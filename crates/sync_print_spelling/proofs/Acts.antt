-- The statements of operations: what they spell.
use Rattle.std.proofs.Common.{◌≡◌, ℕ, List, ◌++◌, refl, ap, ◌∙◌}
use Rattle.sync_lex.specs.declared.signs.Sign.{Sign}
use Rattle.sync_lex.specs.declared.signs.Sign.TheVariants as sign
use Rattle.sync_lex.specs.declared.terminals.Terminal.{Terminal}
use Rattle.sync_parse_exprs.specs.declared.raw_names.RawName.{RawName}
use Rattle.sync_parse_exprs.specs.declared.expressions.RawExpr.{RawExpr}
use Rattle.sync_parse_exprs.specs.Terminals.{first_line}
use Rattle.sync_parse.specs.declared.trees.RawAct.{RawAct}
use Rattle.sync_parse.specs.declared.trees.RawAct.TheVariants as raw
use Rattle.sync_parse.specs.declared.trees.RawPlace.{RawPlace}
use Rattle.sync_parse.specs.declared.trees.RawPlace.TheVariants as raw_place
use Rattle.sync_parse.specs.declared.trees.RawPattern.TheVariants as raw_pattern
use Rattle.sync_parse_forms.specs.Relations.{Spelled, the_one, the_other, Closed}
use Rattle.sync_parse_grammar.specs.Machines.{Pattern, Place, FormulaAct, ValueAct, FieldPlace, PlaceAct, HaveAct, ActKind, Act}
use Rattle.sync_print.specs.Exprs.{Plain, plain}
use Rattle.sync_print.specs.Texts.{PlainPattern, bind, term, PlainPlace, value, key, entry, PlainAct, init, require, assert, update, have_variable, have, guard, add, deposit, remove, withdraw, plain_pattern, plain_place, plain_act_kind, plain_act}
use Rattle.sync_print.specs.Lexemes.{one, one_name}
use Rattle.sync_print.specs.ShowExprs.{show_expr}
use Rattle.sync_print.specs.ShowTexts.{show_pattern, show_place, show_formula_act, show_value_act, show_place_act, show_act}
use Rattle.sync_print_spelling.specs.Says.{Says}
use Rattle.sync_print_spelling.specs.Limits.{ExprFits, PatternFits, PlaceFits, ActFits}
use Rattle.sync_print_spelling.specs.Laws.{Derives, ShownIsDerived}
use Rattle.sync_print_spelling.proofs.Terminals.{split as parted, the_sign, the_name, here_is, yields, seq}
use Rattle.sync_print_spelling.proofs.Expressions.{exprs}

pub closed : {A B : Type 0} {M : Spelled A} {says : A → B} {x : B} {ts us rest : List Terminal} → Derives M says x ts us → Says (one sign.Semicolon) us rest → Derives (Closed M) says x ts rest
unfolding Closed
closed {us = us} {rest = rest} x h =
    let e = the_sign h in
    record { raw = x.raw; spelled = seq x.raw us x.spelled (seq e.0 rest e.1 (yields _)); is = x.is }

pattern_spelled : (p : PlainPattern) → PatternFits p → (ts rest : List Terminal) → Says (show_pattern p) ts rest → Derives Pattern plain_pattern p ts rest
unfolding Pattern
pattern_spelled (bind x) fits ts rest h =
    let r = parted (one sign.Question) (one_name x) h in
    let s = the_sign r.1 in
    let n = the_name r.2 in
    let named : RawName = record { name = x; line = n.0 } in
    record { raw = raw_pattern.Bind named; spelled = the_one (seq s.0 r.0 s.1 (seq named rest n.1 (yields _))); is = refl }
pattern_spelled (term e) fits ts rest h =
    let y = exprs.holds e fits ts rest h in
    record { raw = raw_pattern.Term y.raw; spelled = the_other (seq y.raw rest y.spelled (yields _)); is = ap term y.is }

place_spelled : (p : PlainPlace) → PlaceFits p → (ts rest : List Terminal) → Says (show_place p) ts rest → Derives Place plain_place p ts rest
unfolding Place
place_spelled (value p) fits ts rest h =
    let n2 = parted (one sign.OpenRound ++ show_pattern p) (one sign.CloseRound) h in
    let n1 = parted (one sign.OpenRound) (show_pattern p) n2.1 in
    let o = the_sign n1.1 in
    let y = pattern_spelled p fits n1.0 n2.0 n1.2 in
    let c = the_sign n2.2 in
    record {
      raw = raw_place.Value y.raw;
      spelled = the_one (seq o.0 n1.0 o.1 (seq y.raw n2.0 y.spelled (seq c.0 rest c.1 (yields _))));
      is = ap value y.is;
    }
place_spelled (key e) fits ts rest h =
    let n2 = parted (one sign.OpenSquare ++ show_expr e) (one sign.CloseSquare) h in
    let n1 = parted (one sign.OpenSquare) (show_expr e) n2.1 in
    let o = the_sign n1.1 in
    let y = exprs.holds e fits n1.0 n2.0 n1.2 in
    let c = the_sign n2.2 in
    record {
      raw = raw_place.Key y.raw;
      spelled = the_other (seq o.0 n1.0 o.1 (seq y.raw n2.0 y.spelled (seq (raw_place.Key y.raw) n2.0 (the_one (yields _)) (seq c.0 rest c.1 (yields _)))));
      is = ap key y.is;
    }
place_spelled (entry e p) fits ts rest h =
    let n4 = parted (one sign.OpenSquare ++ show_expr e ++ one sign.MapsTo ++ show_pattern p) (one sign.CloseSquare) h in
    let n3 = parted (one sign.OpenSquare ++ show_expr e ++ one sign.MapsTo) (show_pattern p) n4.1 in
    let n2 = parted (one sign.OpenSquare ++ show_expr e) (one sign.MapsTo) n3.1 in
    let n1 = parted (one sign.OpenSquare) (show_expr e) n2.1 in
    let o = the_sign n1.1 in
    let y = exprs.holds e fits.0 n1.0 n2.0 n1.2 in
    let m = the_sign n2.2 in
    let z = pattern_spelled p fits.1 n3.0 n4.0 n3.2 in
    let c = the_sign n4.2 in
    record {
      raw = raw_place.Entry y.raw z.raw;
      spelled = the_other (seq o.0 n1.0 o.1 (seq y.raw n2.0 y.spelled (seq (raw_place.Entry y.raw z.raw) n4.0
          (the_other (seq m.0 n3.0 m.1 (seq z.raw n4.0 z.spelled (yields _)))) (seq c.0 rest c.1 (yields _)))));
      is = ap (λ w. entry w (plain_pattern z.raw)) y.is ∙ ap (entry e) z.is;
    }

formula_spelled : (opening : Sign) (made : RawExpr → RawAct) (what : Plain → PlainAct) → ((e : RawExpr) → plain_act_kind (made e) ≡ what (plain e))
    → (e : Plain) → ExprFits e → (ts rest : List Terminal) → Says (show_formula_act opening e) ts rest → Derives (FormulaAct opening made) plain_act_kind (what e) ts rest
unfolding FormulaAct
formula_spelled opening made what said e fits ts rest h =
    let n2 = parted (one opening ++ show_expr e) (one sign.Semicolon) h in
    let n1 = parted (one opening) (show_expr e) n2.1 in
    let s = the_sign n1.1 in
    let y = closed (exprs.holds e fits n1.0 n2.0 n1.2) n2.2 in
    record { raw = made y.raw; spelled = seq s.0 n1.0 s.1 (seq y.raw rest y.spelled (yields _)); is = said y.raw ∙ ap what y.is }

value_spelled : (opening : Sign) (made : RawName → RawExpr → RawAct) (what : ℕ → Plain → PlainAct) → ((x : RawName) (e : RawExpr) → plain_act_kind (made x e) ≡ what x.name (plain e))
    → (x : ℕ) (e : Plain) → ExprFits e → (ts rest : List Terminal) → Says (show_value_act opening x e) ts rest → Derives (ValueAct opening made) plain_act_kind (what x e) ts rest
unfolding ValueAct
value_spelled opening made what said x e fits ts rest h =
    let n4 = parted (one opening ++ one_name x ++ one sign.Equal ++ show_expr e) (one sign.Semicolon) h in
    let n3 = parted (one opening ++ one_name x ++ one sign.Equal) (show_expr e) n4.1 in
    let n2 = parted (one opening ++ one_name x) (one sign.Equal) n3.1 in
    let n1 = parted (one opening) (one_name x) n2.1 in
    let s = the_sign n1.1 in
    let n = the_name n1.2 in
    let q = the_sign n2.2 in
    let y = closed (exprs.holds e fits n3.0 n4.0 n3.2) n4.2 in
    let named : RawName = record { name = x; line = n.0 } in
    record {
      raw = made named y.raw;
      spelled = seq s.0 n1.0 s.1 (seq named n2.0 n.1 (seq q.0 n3.0 q.1 (seq y.raw rest y.spelled (yields _))));
      is = said named y.raw ∙ ap (what x) y.is;
    }

placed_spelled : (opening symbol : Sign) (made : RawName → RawPlace → RawAct) (what : ℕ → PlainPlace → PlainAct)
    → ((x : RawName) (p : RawPlace) → plain_act_kind (made x p) ≡ what x.name (plain_place p))
    → (x : ℕ) (p : PlainPlace) → PlaceFits p → (ts rest : List Terminal) → Says (show_place_act opening x symbol p) ts rest → Derives (PlaceAct opening symbol made) plain_act_kind (what x p) ts rest
unfolding PlaceAct FieldPlace
placed_spelled opening symbol made what said x p fits ts rest h =
    let n4 = parted (one opening ++ one_name x ++ one symbol ++ show_place p) (one sign.Semicolon) h in
    let n3 = parted (one opening ++ one_name x ++ one symbol) (show_place p) n4.1 in
    let n2 = parted (one opening ++ one_name x) (one symbol) n3.1 in
    let n1 = parted (one opening) (one_name x) n2.1 in
    let s = the_sign n1.1 in
    let n = the_name n1.2 in
    let q = the_sign n2.2 in
    let y = closed (place_spelled p fits n3.0 n4.0 n3.2) n4.2 in
    let named : RawName = record { name = x; line = n.0 } in
    record {
      raw = made named y.raw;
      spelled = seq (named, y.raw) rest (seq s.0 n1.0 s.1 (seq named n2.0 n.1 (seq q.0 n3.0 q.1 (seq y.raw rest y.spelled (yields _))))) (yields _);
      is = said named y.raw ∙ ap (what x) y.is;
    }

have_variable_spelled : (x : ℕ) (ts rest : List Terminal) → Says (one sign.Have ++ one_name x ++ one sign.Semicolon) ts rest → Derives HaveAct plain_act_kind (have_variable x) ts rest
unfolding HaveAct
have_variable_spelled x ts rest h =
    let n2 = parted (one sign.Have ++ one_name x) (one sign.Semicolon) h in
    let n1 = parted (one sign.Have) (one_name x) n2.1 in
    let s = the_sign n1.1 in
    let n = the_name n1.2 in
    let e = the_sign n2.2 in
    let named : RawName = record { name = x; line = n.0 } in
    record {
      raw = raw.HaveVariable named;
      spelled = seq s.0 n1.0 s.1 (seq named n2.0 n.1 (the_one (seq e.0 rest e.1 (yields _))));
      is = refl;
    }

have_spelled : (x : ℕ) (p : PlainPlace) → PlaceFits p → (ts rest : List Terminal) → Says (show_place_act sign.Have x sign.AtLeast p) ts rest → Derives HaveAct plain_act_kind (have x p) ts rest
unfolding HaveAct
have_spelled x p fits ts rest h =
    let n4 = parted (one sign.Have ++ one_name x ++ one sign.AtLeast ++ show_place p) (one sign.Semicolon) h in
    let n3 = parted (one sign.Have ++ one_name x ++ one sign.AtLeast) (show_place p) n4.1 in
    let n2 = parted (one sign.Have ++ one_name x) (one sign.AtLeast) n3.1 in
    let n1 = parted (one sign.Have) (one_name x) n2.1 in
    let s = the_sign n1.1 in
    let n = the_name n1.2 in
    let q = the_sign n2.2 in
    let y = closed (place_spelled p fits n3.0 n4.0 n3.2) n4.2 in
    let named : RawName = record { name = x; line = n.0 } in
    record {
      raw = raw.Have named y.raw;
      spelled = seq s.0 n1.0 s.1 (seq named n2.0 n.1 (the_other (seq q.0 n3.0 q.1 (seq y.raw rest y.spelled (yields _)))));
      is = ap (have x) y.is;
    }

kind_spelled : (a : PlainAct) → ActFits a → (ts rest : List Terminal) → Says (show_act a) ts rest → Derives ActKind plain_act_kind a ts rest
unfolding ActKind
kind_spelled (init x e) fits ts rest h = (let y = value_spelled sign.Init raw.Init init (λ x e. refl) x e fits ts rest h in record { raw = y.raw; spelled = the_one y.spelled; is = y.is })
kind_spelled (require e) fits ts rest h = (let y = formula_spelled sign.Require raw.Require require (λ e. refl) e fits ts rest h in record { raw = y.raw; spelled = the_other (the_one y.spelled); is = y.is })
kind_spelled (assert e) fits ts rest h = (let y = formula_spelled sign.Assert raw.Assert assert (λ e. refl) e fits ts rest h in record { raw = y.raw; spelled = the_other (the_other (the_one y.spelled)); is = y.is })
kind_spelled (update x e) fits ts rest h = (let y = value_spelled sign.Update raw.Update update (λ x e. refl) x e fits ts rest h in record { raw = y.raw; spelled = the_other (the_other (the_other (the_one y.spelled))); is = y.is })
kind_spelled (have_variable x) fits ts rest h = (let y = have_variable_spelled x ts rest h in record { raw = y.raw; spelled = the_other (the_other (the_other (the_other (the_one y.spelled)))); is = y.is })
kind_spelled (have x p) fits ts rest h = (let y = have_spelled x p fits ts rest h in record { raw = y.raw; spelled = the_other (the_other (the_other (the_other (the_one y.spelled)))); is = y.is })
kind_spelled (guard x p) fits ts rest h = (let y = placed_spelled sign.Guard sign.AtLeast raw.Guard guard (λ x p. refl) x p fits ts rest h in record { raw = y.raw; spelled = the_other (the_other (the_other (the_other (the_other (the_one y.spelled))))); is = y.is })
kind_spelled (add x p) fits ts rest h = (let y = placed_spelled sign.Add sign.PlusEqual raw.Add add (λ x p. refl) x p fits ts rest h in record { raw = y.raw; spelled = the_other (the_other (the_other (the_other (the_other (the_other (the_one y.spelled)))))); is = y.is })
kind_spelled (deposit x p) fits ts rest h = (let y = placed_spelled sign.Deposit sign.PlusEqual raw.Deposit deposit (λ x p. refl) x p fits ts rest h in record { raw = y.raw; spelled = the_other (the_other (the_other (the_other (the_other (the_other (the_other (the_one y.spelled))))))); is = y.is })
kind_spelled (remove x p) fits ts rest h = (let y = placed_spelled sign.Remove sign.MinusEqual raw.Remove remove (λ x p. refl) x p fits ts rest h in record { raw = y.raw; spelled = the_other (the_other (the_other (the_other (the_other (the_other (the_other (the_other (the_one y.spelled)))))))); is = y.is })
kind_spelled (withdraw x p) fits ts rest h = (let y = placed_spelled sign.Withdraw sign.MinusEqual raw.Withdraw withdraw (λ x p. refl) x p fits ts rest h in record { raw = y.raw; spelled = the_other (the_other (the_other (the_other (the_other (the_other (the_other (the_other (the_other (y.spelled))))))))); is = y.is })

act_spelled : (a : PlainAct) → ActFits a → (ts rest : List Terminal) → Says (show_act a) ts rest → Derives Act plain_act a ts rest
unfolding Act
act_spelled a fits ts rest h =
    let y = kind_spelled a fits ts rest h in
    record { raw = record { what = y.raw; line = first_line ts }; spelled = seq ts ts here_is (seq y.raw rest y.spelled (yields _)); is = y.is }

pub acts : ShownIsDerived Act plain_act show_act ActFits
acts = record { holds = act_spelled }
