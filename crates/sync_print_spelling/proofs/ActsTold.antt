-- What is read as a statement of an operation is within the limits, and its terminals name what is shown of it.
use Rattle.std.proofs.Common.{List, [], sym, subst}
use Rattle.sync_base.specs.declared.names.NameList.{NameList}
use Rattle.sync_lex.specs.declared.signs.Sign.{Sign}
use Rattle.sync_lex.specs.declared.signs.Sign.TheVariants as sign
use Rattle.sync_lex.specs.declared.terminals.Terminal.{Terminal}
use Rattle.sync_parse_exprs.specs.declared.raw_names.RawName.{RawName}
use Rattle.sync_parse_exprs.specs.declared.expressions.RawExpr.{RawExpr}
use Rattle.sync_parse.specs.declared.trees.RawStep.{RawStep}
use Rattle.sync_parse.specs.declared.trees.RawAct.{RawAct}
use Rattle.sync_parse.specs.declared.trees.RawAct.TheVariants as raw
use Rattle.sync_parse.specs.declared.trees.RawPlace.{RawPlace}
use Rattle.sync_parse.specs.declared.trees.RawPlace.TheVariants as raw_place
use Rattle.sync_parse.specs.declared.trees.RawPattern.{RawPattern}
use Rattle.sync_parse_forms.specs.Relations.{Yields, Either, The, ◌>>=◌, ◌>>◌, Closed, the_one, the_other}
use Rattle.sync_parse_grammar.specs.Machines.{Pattern, Place, FormulaAct, ValueAct, FieldPlace, PlaceAct, HaveAct, ActKind, Act}
use Rattle.sync_print.specs.Exprs.{plain}
use Rattle.sync_print.specs.Texts.{PlainAct, plain_pattern, plain_place, plain_act_kind, plain_act}
use Rattle.sync_print.specs.ShowExprs.{show_expr}
use Rattle.sync_print.specs.ShowTexts.{show_pattern, show_place, show_formula_act, show_value_act, show_place_act, show_act}
use Rattle.sync_print_spelling.specs.Limits.{ExprFits, PatternFits, PlaceFits, ActFits}
use Rattle.sync_print_spelling.proofs.Told.{Tells, both, nothing, silent, sign_read, sign_told, name_told, none_read}
use Rattle.sync_print_spelling.proofs.ListsTold.{Read, Reads, ended, closed}
use Rattle.sync_print_spelling.proofs.ExpressionsTold.{exprs_told}

-- ---- patterns and places

abbrev OfPattern : NameList → RawPattern → List Terminal → List Terminal → Type 0
OfPattern names x ts rest = Read names (PatternFits (plain_pattern x)) (show_pattern (plain_pattern x)) ts rest

pattern_told : {names : NameList} (ts rest : List Terminal) (x : RawPattern) → Pattern ts rest x → OfPattern names x ts rest
unfolding Pattern
pattern_told {names = names} ts rest x (the_one d) =
    let n = d.next in
    ended (OfPattern names) n.next (record { fits = tt; tells = both (sign_told sign.Question d.one) (name_told n.one) })
pattern_told {names = names} ts rest x (the_other d) =
    let y = exprs_told.at ts d.middle d.value d.one in
    ended (OfPattern names) d.next (record { fits = y.fits; tells = y.tells })

abbrev OfPlace : NameList → RawPlace → List Terminal → List Terminal → Type 0
OfPlace names x ts rest = Read names (PlaceFits (plain_place x)) (show_place (plain_place x)) ts rest

-- what may stand behind a key, with the bracket behind it
key_told : {names : NameList} (key : RawExpr) (from us vs rest : List Terminal) (x : RawPlace) → Read names (ExprFits (plain key)) (show_expr (plain key)) from us
    → Either (Yields (raw_place.Key key)) (The sign.MapsTo >> (Pattern >>= λ p. Yields (raw_place.Entry key p))) us vs x → Tells names [] vs rest → OfPlace names x from rest
key_told {names = names} key from us vs rest x y (the_one d) end =
    let here : OfPlace names (raw_place.Key key) from rest
    = record { fits = y.fits; tells = both (both (silent sign.OpenSquare) y.tells) (both (none_read d) (both end (silent sign.CloseSquare))) } in
    subst (λ z. OfPlace names z from rest) (sym d.is) here
key_told {names = names} key from us vs rest x y (the_other d) end =
    let p = d.next in
    let q = pattern_told d.middle p.middle p.value p.one in
    let here : OfPlace names (raw_place.Entry key p.value) from rest
    = record {
      fits = (y.fits, q.fits);
      tells = both (both (both (both (silent sign.OpenSquare) y.tells) (sign_told sign.MapsTo d.one)) q.tells) (both (none_read p.next) (both end (silent sign.CloseSquare)));
    } in
    subst (λ z. OfPlace names z from rest) (sym p.next.is) here

place_told : {names : NameList} (ts rest : List Terminal) (x : RawPlace) → Place ts rest x → OfPlace names x ts rest
unfolding Place
place_told {names = names} ts rest x (the_one d) =
    let p = d.next in
    let e = p.next in
    let q = pattern_told d.middle p.middle p.value p.one in
    ended (OfPlace names) e.next (record { fits = q.fits; tells = both (both (sign_told sign.OpenRound d.one) q.tells) (sign_told sign.CloseRound e.one) })
place_told {names = names} ts rest x (the_other d) =
    let k = d.next in
    let p = k.next in
    let e = p.next in
    let y = exprs_told.at d.middle k.middle k.value k.one in
    let front : Read names (ExprFits (plain k.value)) (show_expr (plain k.value)) ts k.middle = record { fits = y.fits; tells = both (sign_read d.one) y.tells } in
    ended (OfPlace names) e.next (key_told k.value ts k.middle p.middle e.middle p.value front p.one (sign_read e.one))

places_told : {names : NameList} → Reads names Place plain_place show_place PlaceFits
places_told = record { at = place_told }

-- ---- statements

abbrev OfAct : NameList → PlainAct → List Terminal → List Terminal → Type 0
OfAct names a ts rest = Read names (ActFits a) (show_act a) ts rest

-- a statement that a production ends with
act_end : {names : NameList} {x y : RawAct} {ts us rest : List Terminal} → Yields x us rest y → OfAct names (plain_act_kind x) ts us → OfAct names (plain_act_kind y) ts rest
act_end {names = names} d r = ended (λ z us vs. OfAct names (plain_act_kind z) us vs) d r

formula_told : {names : NameList} (opening : Sign) (made : RawExpr → RawAct)
    → ((e : RawExpr) (ts rest : List Terminal) → ExprFits (plain e) → Tells names (show_formula_act opening (plain e)) ts rest → OfAct names (plain_act_kind (made e)) ts rest)
    → (ts rest : List Terminal) (x : RawAct) → FormulaAct opening made ts rest x → OfAct names (plain_act_kind x) ts rest
unfolding FormulaAct
formula_told opening made of_made ts rest x d =
    let e = d.next in
    let y = (closed exprs_told).at d.middle e.middle e.value e.one in
    act_end e.next (of_made e.value ts e.middle y.fits (both (both (sign_told opening d.one) y.tells) (silent sign.Semicolon)))

value_told : {names : NameList} (opening : Sign) (made : RawName → RawExpr → RawAct)
    → ((n : RawName) (e : RawExpr) (ts rest : List Terminal) → ExprFits (plain e) → Tells names (show_value_act opening n.name (plain e)) ts rest → OfAct names (plain_act_kind (made n e)) ts rest)
    → (ts rest : List Terminal) (x : RawAct) → ValueAct opening made ts rest x → OfAct names (plain_act_kind x) ts rest
unfolding ValueAct
value_told opening made of_made ts rest x d =
    let n = d.next in
    let q = n.next in
    let e = q.next in
    let y = (closed exprs_told).at q.middle e.middle e.value e.one in
    act_end e.next (of_made n.value e.value ts e.middle y.fits (both (both (both (both (sign_told opening d.one) (name_told n.one)) (sign_told sign.Equal q.one)) y.tells) (silent sign.Semicolon)))

place_act_told : {names : NameList} (opening symbol : Sign) (made : RawName → RawPlace → RawAct)
    → ((n : RawName) (p : RawPlace) (ts rest : List Terminal) → PlaceFits (plain_place p) → Tells names (show_place_act opening n.name symbol (plain_place p)) ts rest
    → OfAct names (plain_act_kind (made n p)) ts rest)
    → (ts rest : List Terminal) (x : RawAct) → PlaceAct opening symbol made ts rest x → OfAct names (plain_act_kind x) ts rest
unfolding PlaceAct FieldPlace
place_act_told {names = names} opening symbol made of_made ts rest x d =
    let f = d.one in
    let n = f.next in
    let q = n.next in
    let p = q.next in
    let y = (closed places_told).at q.middle p.middle p.value p.one in
    let here : OfAct names (plain_act_kind (made n.value p.value)) ts p.middle
    = of_made n.value p.value ts p.middle y.fits (both (both (both (both (sign_told opening f.one) (name_told n.one)) (sign_told symbol q.one)) y.tells) (silent sign.Semicolon)) in
    act_end d.next (ended (λ z us vs. OfAct names (plain_act_kind (made z.0 z.1)) us vs) p.next here)

have_told : {names : NameList} (ts rest : List Terminal) (x : RawAct) → HaveAct ts rest x → OfAct names (plain_act_kind x) ts rest
unfolding HaveAct
have_told {names = names} ts rest x d = go d.next.next
  where
    go : Either (The sign.Semicolon >> Yields (raw.HaveVariable d.next.value)) (The sign.AtLeast >> (Closed Place >>= λ p. Yields (raw.Have d.next.value p))) d.next.middle rest x
        → OfAct names (plain_act_kind x) ts rest
    go (the_one e) = act_end e.next (record { fits = tt; tells = both (both (sign_told sign.Have d.one) (name_told d.next.one)) (sign_told sign.Semicolon e.one) })
    go (the_other q) =
        let p = q.next in
        let y = (closed places_told).at q.middle p.middle p.value p.one in
        act_end p.next (record { fits = y.fits; tells = both (both (both (both (sign_told sign.Have d.one) (name_told d.next.one)) (sign_told sign.AtLeast q.one)) y.tells) (silent sign.Semicolon) })

kind_told : {names : NameList} (ts rest : List Terminal) (x : RawAct) → ActKind ts rest x → OfAct names (plain_act_kind x) ts rest
unfolding ActKind
kind_told ts rest x (the_one d) = value_told sign.Init raw.Init (λ n e us vs p q. record { fits = p; tells = q }) ts rest x d
kind_told ts rest x (the_other (the_one d)) = formula_told sign.Require raw.Require (λ e us vs p q. record { fits = p; tells = q }) ts rest x d
kind_told ts rest x (the_other (the_other (the_one d))) = formula_told sign.Assert raw.Assert (λ e us vs p q. record { fits = p; tells = q }) ts rest x d
kind_told ts rest x (the_other (the_other (the_other (the_one d)))) = value_told sign.Update raw.Update (λ n e us vs p q. record { fits = p; tells = q }) ts rest x d
kind_told ts rest x (the_other (the_other (the_other (the_other (the_one d))))) = have_told ts rest x d
kind_told ts rest x (the_other (the_other (the_other (the_other (the_other (the_one d)))))) = place_act_told sign.Guard sign.AtLeast raw.Guard (λ n e us vs p q. record { fits = p; tells = q }) ts rest x d
kind_told ts rest x (the_other (the_other (the_other (the_other (the_other (the_other (the_one d))))))) = place_act_told sign.Add sign.PlusEqual raw.Add (λ n e us vs p q. record { fits = p; tells = q }) ts rest x d
kind_told ts rest x (the_other (the_other (the_other (the_other (the_other (the_other (the_other (the_one d)))))))) = place_act_told sign.Deposit sign.PlusEqual raw.Deposit (λ n e us vs p q. record { fits = p; tells = q }) ts rest x d
kind_told ts rest x (the_other (the_other (the_other (the_other (the_other (the_other (the_other (the_other (the_one d))))))))) = place_act_told sign.Remove sign.MinusEqual raw.Remove (λ n e us vs p q. record { fits = p; tells = q }) ts rest x d
kind_told ts rest x (the_other (the_other (the_other (the_other (the_other (the_other (the_other (the_other (the_other d))))))))) = place_act_told sign.Withdraw sign.MinusEqual raw.Withdraw (λ n e us vs p q. record { fits = p; tells = q }) ts rest x d

act_told : {names : NameList} (ts rest : List Terminal) (x : RawStep) → Act ts rest x → OfAct names (plain_act x) ts rest
unfolding Act
act_told {names = names} ts rest x d =
    let k = d.next in
    let y = kind_told d.middle k.middle k.value k.one in
    ended (λ (z : RawStep) us vs. OfAct names (plain_act z) us vs) k.next (record { fits = y.fits; tells = both (nothing d.one.none) y.tells })

pub acts_told : {names : NameList} → Reads names Act plain_act show_act ActFits
acts_told = record { at = act_told }
