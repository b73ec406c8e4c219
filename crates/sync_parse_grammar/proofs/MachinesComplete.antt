-- What is spelled as a machine, as proofs and as a whole text is read exactly where it is shallow, and is else refused for depth.
use Rattle.std.proofs.Common.{◌≡◌, ℕ, ◌-◌, ◌<◌, ◌≤◌, ◌==◌, Bool, true, false, ◌||◌, if◌then◌else◌, List, [], ◌∷◌, length, map, Result, Ok, Err, Some, None, is_some, ◌⊎◌, inl, inr, IfOk, IfErr, refl, sym, ap, ◌∙◌, subst, arith}
use Rattle.std.proofs.lemmas.Bool.{eqb-true}
use Rattle.sync_base.proofs.Basics.{not_true}
use Rattle.sync_base.specs.Outcome as outcome
use Rattle.sync_base.specs.Outcome.{Gives}
use Rattle.sync_base.specs.declared.stops.Refusal.{Refusal}
use Rattle.sync_base.specs.declared.stops.Stop.{Stop}
use Rattle.sync_base.specs.declared.stops.Stop.TheVariants as stop
use Rattle.sync_base.specs.declared.stops.Rule.TheVariants as rule
use Rattle.sync_base.specs.declared.strategies.OpMode.{OpMode}
use Rattle.sync_base.specs.declared.strategies.OpMode.TheVariants as mode
use Rattle.sync_lex.specs.declared.signs.Sign.{Sign}
use Rattle.sync_lex.specs.declared.signs.Sign.TheVariants as sign
use Rattle.sync_lex.specs.declared.terminals.TerminalKind.TheVariants as what
use Rattle.sync_lex.specs.declared.terminals.Terminal.{Terminal}
use Rattle.sync_lex.specs.declared.terminals.Terminals.{Terminals}
use Rattle.sync_lex.specs.Terminals.{is_sign, terminals_in}
use Rattle.sync_parse_exprs.specs.declared.faults.Fault.{Fault}
use Rattle.sync_parse_exprs.specs.declared.faults.Fault.TheVariants as fault
use Rattle.sync_parse_exprs.specs.declared.raw_names.RawName.{RawName}
use Rattle.sync_parse_exprs.specs.declared.expressions.RawExpr.{RawExpr}
use Rattle.sync_parse.specs.declared.trees.RawText.{RawText}
use Rattle.sync_parse.specs.declared.trees.RawMachine.{RawMachine}
use Rattle.sync_parse.specs.declared.trees.RawProof.{RawProof}
use Rattle.sync_parse.specs.declared.trees.RawAct.{RawAct}
use Rattle.sync_parse.specs.declared.trees.RawAct.TheVariants as act
use Rattle.sync_parse.specs.declared.trees.RawPlace.{RawPlace}
use Rattle.sync_parse.specs.declared.trees.RawPlace.TheVariants as place
use Rattle.sync_parse.specs.declared.trees.RawPattern.{RawPattern}
use Rattle.sync_parse.specs.declared.trees.RawStep.{RawStep}
use Rattle.sync_parse.specs.declared.trees.RawOperation.{RawOperation}
use Rattle.sync_parse.specs.declared.trees.RawInvariant.{RawInvariant}
use Rattle.sync_parse_exprs.specs.Terminals.{Read, Reader, begins_with, sign_at, number_at}
use Rattle.sync_parse.specs.Faults.{refusal_of, refused}
use Rattle.sync_parse.specs.Machines.{pattern_at, keyed, place_at, closed_expr, closed_place, formula_act, value_act, field_place, place_act, have_act, act_kind, act_at, acts, field_at, fields, mode_of, mode_said, mode_at, operation_at, begins_operation, operations, invariant_at, invariants, machine_at, claim_at, proof_at, proof_row, proofs_at, version_at, at_end, text_of, parsed}
use Rattle.sync_parse_forms.specs.Relations.{Spelled, The, ANumber, Yields, Then, ◌>>=◌, Either, the_one, the_other, Closed}
use Rattle.sync_parse_grammar.specs.Expressions.{AnExpr}
use Rattle.sync_parse_grammar.specs.Scripts.{Script}
use Rattle.sync_parse_grammar.specs.Machines.{Pattern, Place, FormulaAct, ValueAct, FieldPlace, PlaceAct, HaveAct, ActKind, Act, Field, Mode, Operation, Invariant, Machine, Claim, Proof, Proofs}
use Rattle.sync_parse_grammar.specs.Texts.{Version, Text, IsVersionOne, Spells, MayRefuse, IsOfVersionOne, MayRefuseVersionOne}
use Rattle.sync_parse_forms.specs.Fronts.{code, front, Set, any, only, among, others}
use Rattle.sync_parse_forms.proofs.Clears.{In, only_in, among_in, same_in, Starts, Follows, starts_then, starts_or, starts_the, follows_starts, follows_then, follows_yields, follows_or, tail_is, follows_any}
use Rattle.sync_parse_grammar.proofs.ExpressionsClear.{operators, operands, starts_expr}
use Rattle.sync_parse_grammar.proofs.MachinesSound.{text_sound, read_terminals}
use Rattle.sync_parse_grammar.proofs.MachinesClear.{formula_fork, value_fork, place_fork, have_fork, starts_act, field_fork, modes, operation_fork, invariant_fork, proof_fork, behind_operations, behind_fields, invariants_follow, operations_follow, terminals_are, weaker}
use Rattle.sync_parse_grammar.proofs.Counting.{silent_act, silent_field, silent_operation, silent_invariant, silent_claim, silent_block}
use Rattle.sync_parse_grammar.specs.Shallow.{Depth, flat, with_both, with_all, in_brackets, expr_depth, pattern_depth, place_depth, act_depth, statement_depth, operation_depth, invariant_depth, machine_depth, proof_depth, IsShallow}
use Rattle.sync_parse_grammar.proofs.Depths.{Fits, fits_room, fits_flat, fits_both, both_first, both_second, fits_within, within_fits, fits_is, each_fits, fits_each, FitsExpr}
use Rattle.sync_parse_forms.proofs.Counting.{one_shorter}
use Rattle.sync_parse_forms.proofs.Completes.{Excused, Shrinks, says, begins_is, begins_not, front_case}
use Rattle.sync_parse_grammar.proofs.Completes.{Met, gives, Complete, Free, Shows, shows_then, shows_yields, Row, braced, complete_yields, complete_then, complete_part, complete_next, complete_opening, complete_here, complete_if, complete_last, complete_optional, complete_row, each_free, met_if, met_within, complete_the, complete_name, complete_number, complete_strategy, complete_names}
use Rattle.sync_parse_grammar.proofs.ExpressionsComplete.{complete_expr, if_yes, if_no, sign_yes, sign_not}
use Rattle.sync_parse_grammar.proofs.ScriptsComplete.{union_in, expr_next, complete_script}

-- ---- statements

abbrev FitsPattern : ℕ → RawPattern → Type 0
FitsPattern left p = Fits left (pattern_depth p)

abbrev FitsPlace : ℕ → RawPlace → Type 0
FitsPlace left p = Fits left (place_depth p)

abbrev FitsAct : ℕ → RawAct → Type 0
FitsAct left x = Fits left (act_depth x)

complete_pattern : (left : ℕ) (ts : List Terminal) → Complete (others operators) Pattern (FitsPattern left) ts (pattern_at left ts)
unfolding pattern_at Pattern
complete_pattern left ts = complete_if sign.Question (starts_then starts_the) (starts_then starts_expr) (among_in (code sign.Bang ∷ code sign.Minus ∷ operands) refl)
    (complete_opening left sign.Question (λ p fits. fits_room fits) λ q room. complete_next (complete_name left room q.1) λ n. complete_yields (fits_flat left room))
    (complete_then (others operators) (complete_expr left ts) (λ e fits. complete_yields fits) (λ e. follows_yields same_in) (λ e. shows_yields λ fits. fits))

-- a key, with what may stand behind it, in square brackets
keyed_complete : (left : ℕ) (key : RawExpr) → FitsExpr (left - 1) key → (ts : List Terminal)
    → Complete (only (code sign.CloseSquare)) (Either (Yields (place.Key key)) (The sign.MapsTo >>= λ m. Pattern >>= λ p. Yields (place.Entry key p))) (FitsPlace left) ts (keyed (left - 1) key ts)
unfolding keyed
keyed_complete left key first ts = complete_optional sign.MapsTo (starts_then starts_the) (only_in _ refl) (fits_within left (expr_depth key) first)
    (complete_next (complete_the (left - 1) (fits_room first) sign.MapsTo ts) λ m. complete_then (others operators) (complete_pattern (left - 1) m.1)
    (λ p second. complete_yields (fits_within left (with_both (expr_depth key) (pattern_depth p.0)) (fits_both (left - 1) (expr_depth key) (pattern_depth p.0) first second))) (λ p. follows_yields (only_in _ refl))
    (λ p. shows_yields λ fits. both_second (left - 1) (expr_depth key) (pattern_depth p) (within_fits left (with_both (expr_depth key) (pattern_depth p)) fits)))

complete_place : {q : Set} (left : ℕ) (ts : List Terminal) → Complete q Place (FitsPlace left) ts (place_at left ts)
unfolding place_at Place
complete_place left ts = complete_if sign.OpenRound (starts_then starts_the) (starts_then (starts_the {s = sign.OpenSquare})) (only_in _ refl)
    (complete_opening left sign.OpenRound (λ p fits. fits_room fits) λ o room. complete_then (others operators) (complete_pattern (left - 1) o.1)
    (λ p fits. complete_next (complete_the (left - 1) (fits_room fits) sign.CloseRound p.1) λ e. complete_yields (fits_within left (pattern_depth p.0) fits)) (λ p. follows_starts (starts_then starts_the) (only_in _ refl))
    (λ p. shows_then λ e. shows_yields λ fits. within_fits left (pattern_depth p) fits))
    (complete_opening left sign.OpenSquare (λ p fits. fits_room fits) λ o room. complete_then (others operators) (complete_expr (left - 1) o.1)
    (λ k first. complete_then (only (code sign.CloseSquare)) (keyed_complete left k.0 first k.1) (λ p fits. complete_next (complete_the (left - 1) (fits_room first) sign.CloseSquare p.1) λ e. complete_yields fits)
    (λ p. follows_starts (starts_then starts_the) same_in) (λ p. shows_then λ e. shows_yields λ fits. fits))
    (λ k. follows_then (only (code sign.CloseSquare)) (follows_or (follows_yields (only_in _ refl)) (follows_starts (starts_then (starts_the {s = sign.MapsTo})) (only_in _ refl)))
    (λ x. follows_starts (starts_then starts_the) same_in))
    (λ k. record { at = λ us rest y d fits. key_fits k us d.middle d.value d.one (subst (FitsPlace left) d.next.next.is fits) }))
  where
    key_fits : (key : RawExpr) (us rest : List Terminal) (p : RawPlace) → Either (Yields (place.Key key)) (The sign.MapsTo >>= λ m. Pattern >>= λ p. Yields (place.Entry key p)) us rest p → FitsPlace left p → FitsExpr (left - 1) key
    key_fits key us rest p (the_one d) fits = within_fits left (expr_depth key) (subst (FitsPlace left) d.is fits)
    key_fits key us rest p (the_other d) fits =
        let h = within_fits left (with_both (expr_depth key) (pattern_depth d.next.value)) (subst (FitsPlace left) d.next.next.is fits) in
        both_first (left - 1) (expr_depth key) (pattern_depth d.next.value) h

complete_closed_expr : (left : ℕ) (ts : List Terminal) → Complete any (Closed AnExpr) (FitsExpr left) ts (closed_expr left ts)
unfolding closed_expr Closed
complete_closed_expr left ts =
    expr_next left (λ e fits. complete_next (complete_the left (fits_room fits) sign.Semicolon e.1) λ s. complete_yields fits) (λ e. starts_then starts_the) (only_in _ refl) (λ e. shows_then λ s. shows_yields λ fits. fits)

complete_closed_place : (left : ℕ) (ts : List Terminal) → Complete any (Closed Place) (FitsPlace left) ts (closed_place left ts)
unfolding closed_place Closed
complete_closed_place left ts =
    complete_part (complete_place left ts) (λ p fits. complete_next (complete_the left (fits_room fits) sign.Semicolon p.1) λ s. complete_yields fits) (λ p. shows_then λ s. shows_yields λ fits. fits)

act_room : (left : ℕ) (x : RawAct) → FitsAct left x → 0 < left
act_room left x fits = fits_room fits

-- an act that goes as deep as its expression
record OfExpr (made : RawExpr → RawAct) : Type 0 where
  is : (e : RawExpr) → act_depth (made e) ≡ expr_depth e

complete_formula : {q : Set} (opening : Sign) (made : RawExpr → RawAct) → OfExpr made → (left : ℕ) (ts : List Terminal) → Complete q (FormulaAct opening made) (FitsAct left) ts (formula_act opening made left ts)
unfolding formula_act FormulaAct
complete_formula opening made of left ts = complete_opening left opening (act_room left) λ w room.
    complete_part (complete_closed_expr left w.1) (λ e fits. complete_yields (fits_is left (of.is e.0) fits)) (λ e. shows_yields λ fits. fits_is left (sym (of.is e)) fits)

complete_value : {q : Set} (opening : Sign) (made : RawName → RawExpr → RawAct) → ((x : RawName) → OfExpr (made x)) → (left : ℕ) (ts : List Terminal) → Complete q (ValueAct opening made) (FitsAct left) ts (value_act opening made left ts)
unfolding value_act ValueAct
complete_value opening made of left ts = complete_opening left opening (act_room left) λ w room. complete_next (complete_name left room w.1) λ n. complete_next (complete_the left room sign.Equal n.1) λ q.
    complete_part (complete_closed_expr left q.1) (λ e fits. complete_yields (fits_is left ((of n.0).is e.0) fits)) (λ e. shows_yields λ fits. fits_is left (sym ((of n.0).is e)) fits)

complete_field_place : (opening symbol : Sign) (left : ℕ) (ts : List Terminal) → Complete any (FieldPlace opening symbol) (λ x. FitsPlace left x.1) ts (field_place opening symbol left ts)
unfolding field_place FieldPlace
complete_field_place opening symbol left ts = complete_opening left opening (λ x fits. fits_room fits) λ w room. complete_next (complete_name left room w.1) λ n. complete_next (complete_the left room symbol n.1) λ q.
    complete_part (complete_closed_place left q.1) (λ p fits. complete_yields fits) (λ p. shows_yields λ fits. fits)

-- an act that goes as deep as its place
record OfPlace (made : RawName → RawPlace → RawAct) : Type 0 where
  is : (x : RawName) (p : RawPlace) → act_depth (made x p) ≡ place_depth p

complete_place_act : {q : Set} (opening symbol : Sign) (made : RawName → RawPlace → RawAct) → OfPlace made → (left : ℕ) (ts : List Terminal) → Complete q (PlaceAct opening symbol made) (FitsAct left) ts (place_act opening symbol made left ts)
unfolding place_act PlaceAct
complete_place_act opening symbol made of left ts = complete_part (complete_field_place opening symbol left ts)
    (λ x fits. complete_yields (fits_is left (of.is x.0.0 x.0.1) fits)) (λ x. shows_yields λ fits. fits_is left (sym (of.is x.0 x.1)) fits)

complete_have : {q : Set} (left : ℕ) (ts : List Terminal) → Complete q HaveAct (FitsAct left) ts (have_act left ts)
unfolding have_act HaveAct
complete_have left ts = complete_opening left sign.Have (act_room left) λ w room. complete_next (complete_name left room w.1) λ n.
    complete_if sign.Semicolon (starts_then starts_the) (starts_then (starts_the {s = sign.AtLeast})) (only_in _ refl)
    (complete_next (complete_the left room sign.Semicolon n.1) λ s. complete_yields (fits_flat left room))
    (complete_next (complete_the left room sign.AtLeast n.1) λ q. complete_part (complete_closed_place left q.1) (λ p fits. complete_yields fits) (λ p. shows_yields λ fits. fits))

abbrev deposit_codes : List ℕ
deposit_codes = code sign.Remove ∷ code sign.Withdraw ∷ []

abbrev guard_codes : List ℕ
guard_codes = code sign.Add ∷ code sign.Deposit ∷ deposit_codes

abbrev update_codes : List ℕ
update_codes = code sign.Have ∷ code sign.Guard ∷ guard_codes

complete_act_kind : {q : Set} (left : ℕ) (ts : List Terminal) → Complete q ActKind (FitsAct left) ts (act_kind left ts)
unfolding act_kind ActKind
complete_act_kind left ts =
    let s10 = (place_fork {q = any} sign.Withdraw sign.MinusEqual act.Withdraw).left in
    let s9 = starts_or (place_fork {q = any} sign.Remove sign.MinusEqual act.Remove).left s10 in
    let s8 = starts_or (place_fork {q = any} sign.Deposit sign.PlusEqual act.Deposit).left s9 in
    let s7 = starts_or (place_fork {q = any} sign.Add sign.PlusEqual act.Add).left s8 in
    let s6 = starts_or (place_fork {q = any} sign.Guard sign.AtLeast act.Guard).left s7 in
    let s5 = starts_or (have_fork {q = any}).left s6 in
    let s4 = starts_or (value_fork {q = any} sign.Update act.Update).left s5 in
    let s3 = starts_or (formula_fork {q = any} sign.Assert act.Assert).left s4 in
    let s2 = starts_or (formula_fork {q = any} sign.Require act.Require).left s3 in
    complete_if sign.Init (value_fork {q = any} sign.Init act.Init).left s2 (union_in (code sign.Require ∷ code sign.Assert ∷ code sign.Update ∷ update_codes) refl) (complete_value sign.Init act.Init (λ x. record { is = λ e. refl }) left ts)
    (complete_if sign.Require (formula_fork {q = any} sign.Require act.Require).left s3 (union_in (code sign.Assert ∷ code sign.Update ∷ update_codes) refl) (complete_formula sign.Require act.Require (record { is = λ e. refl }) left ts)
    (complete_if sign.Assert (formula_fork {q = any} sign.Assert act.Assert).left s4 (union_in (code sign.Update ∷ update_codes) refl) (complete_formula sign.Assert act.Assert (record { is = λ e. refl }) left ts)
    (complete_if sign.Update (value_fork {q = any} sign.Update act.Update).left s5 (union_in update_codes refl) (complete_value sign.Update act.Update (λ x. record { is = λ e. refl }) left ts)
    (complete_if sign.Have (have_fork {q = any}).left s6 (union_in (code sign.Guard ∷ guard_codes) refl) (complete_have left ts)
    (complete_if sign.Guard (place_fork {q = any} sign.Guard sign.AtLeast act.Guard).left s7 (union_in guard_codes refl) (complete_place_act sign.Guard sign.AtLeast act.Guard (record { is = λ x p. refl }) left ts)
    (complete_if sign.Add (place_fork {q = any} sign.Add sign.PlusEqual act.Add).left s8 (union_in (code sign.Deposit ∷ deposit_codes) refl) (complete_place_act sign.Add sign.PlusEqual act.Add (record { is = λ x p. refl }) left ts)
    (complete_if sign.Deposit (place_fork {q = any} sign.Deposit sign.PlusEqual act.Deposit).left s9 (union_in deposit_codes refl) (complete_place_act sign.Deposit sign.PlusEqual act.Deposit (record { is = λ x p. refl }) left ts)
    (complete_if sign.Remove (place_fork {q = any} sign.Remove sign.MinusEqual act.Remove).left s10 (only_in _ refl) (complete_place_act sign.Remove sign.MinusEqual act.Remove (record { is = λ x p. refl }) left ts)
    (complete_last _ sign.Withdraw s10 (complete_place_act sign.Withdraw sign.MinusEqual act.Withdraw (record { is = λ x p. refl }) left ts))))))))))

abbrev FitsStatement : ℕ → RawStep → Type 0
FitsStatement left a = Fits left (statement_depth a)

complete_act : {q : Set} (left : ℕ) (ts : List Terminal) → Complete q Act (FitsStatement left) ts (act_at left ts)
unfolding act_at Act
complete_act left ts = complete_here (complete_part (complete_act_kind left ts) (λ x fits. complete_yields fits) (λ x. shows_yields λ fits. fits))

-- ---- machines

complete_field : {q : Set} (left : ℕ) → 0 < left → (ts : List Terminal) → Complete q Field Free ts (field_at left ts)
unfolding field_at Field
complete_field left room ts = complete_next (complete_the left room sign.Field ts) λ f. complete_next (complete_name left room f.1) λ n. complete_next (complete_the left room sign.Colon n.1) λ c.
    complete_next (complete_strategy left room c.1) λ s. complete_next (complete_the left room sign.Semicolon s.1) λ e. complete_yields tt

-- a row of items that begin with this sign
headed : {A : Type 0} {q : Set} {m : Spelled A} {S : A → Type 0} {item : Reader A} (s : Sign) → ((ts : List Terminal) → Complete any m S ts (item ts)) → Shrinks m → Starts m (only (code s)) → In q (others (only (code s)))
    → Row q any m S (begins_with s) item
headed s c k t i = record {
  complete = c;
  shrinks = k;
  begin = λ ts rest x d. begins_is s ts ∙ t.at ts rest x d;
  stop = λ ts e. begins_not s ts (i.at (front ts) e);
  follows = record { at = λ ts rest xs d e. refl };
}

some_mode : (a b c : Bool) → is_some (if a then Some mode.Init else if b then Some mode.Transition else if c then Some mode.Property else None) ≡ (a || (b || c))
some_mode true b c = refl
some_mode false true c = refl
some_mode false false true = refl
some_mode false false false = refl

modes_are : (ts : List Terminal) → begins_operation ts ≡ modes (front ts)
unfolding mode_of
modes_are [] = refl
modes_are (w ∷ ws) = some_mode (is_sign w sign.Init) (is_sign w sign.Transition) (is_sign w sign.Property)
    ∙ (λ i. front_case sign.Init w.what i || (front_case sign.Transition w.what i || front_case sign.Property w.what i))

mode_terminal : (left : ℕ) → 0 < left → (w v : Terminal) (ws vs : List Terminal) (m x : OpMode) (rest : List Terminal) → ◌≡◌ {A = List Terminal} (w ∷ ws) (v ∷ vs) → mode_of w ≡ Some m → x ≡ m → vs ≡ rest → Met (mode_said left w ws (mode_of w)) (x, rest) (Unit {0})
mode_terminal left room w v ws vs m x rest e is value end = subst (λ z. Met (mode_said left w ws z) (x, rest) (Unit {0})) (sym is) (met_within left w.line (λ s. room) λ above. gives (sym value) (tail_is w v ws vs e ∙ end) tt)

mode_case : (left : ℕ) → 0 < left → (ts : List Terminal) (x : OpMode) (rest : List Terminal) → Mode ts rest x → Met (mode_at left ts) (x, rest) (Unit {0})
unfolding mode_at mode_of Mode
mode_case left room [] x rest (the_one d) = let e : ◌≡◌ {A = List Terminal} [] (d.one.terminal ∷ d.middle) = d.one.stands in absurd cc
mode_case left room [] x rest (the_other (the_one d)) = let e : ◌≡◌ {A = List Terminal} [] (d.one.terminal ∷ d.middle) = d.one.stands in absurd cc
mode_case left room [] x rest (the_other (the_other d)) = let e : ◌≡◌ {A = List Terminal} [] (d.one.terminal ∷ d.middle) = d.one.stands in absurd cc
mode_case left room (w ∷ ws) x rest (the_one d) =
    let is = says w d.one.terminal ws d.middle (what.Sign sign.Init) d.one.stands d.one.is in
    mode_terminal left room w d.one.terminal ws d.middle mode.Init x rest d.one.stands (if_yes _ (is_sign w sign.Init) (sign_yes w sign.Init sign.Init is refl)) d.next.is d.next.none
mode_case left room (w ∷ ws) x rest (the_other (the_one d)) =
    let is = says w d.one.terminal ws d.middle (what.Sign sign.Transition) d.one.stands d.one.is in
    mode_terminal left room w d.one.terminal ws d.middle mode.Transition x rest d.one.stands
    (if_no _ (is_sign w sign.Init) (sign_not w sign.Transition sign.Init is refl) ∙ if_yes _ (is_sign w sign.Transition) (sign_yes w sign.Transition sign.Transition is refl)) d.next.is d.next.none
mode_case left room (w ∷ ws) x rest (the_other (the_other d)) =
    let is = says w d.one.terminal ws d.middle (what.Sign sign.Property) d.one.stands d.one.is in
    mode_terminal left room w d.one.terminal ws d.middle mode.Property x rest d.one.stands
    (if_no _ (is_sign w sign.Init) (sign_not w sign.Property sign.Init is refl) ∙ if_no _ (is_sign w sign.Transition) (sign_not w sign.Property sign.Transition is refl)
    ∙ if_yes _ (is_sign w sign.Property) (sign_yes w sign.Property sign.Property is refl)) d.next.is d.next.none

abbrev FitsOperation : ℕ → RawOperation → Type 0
FitsOperation left o = Fits left (operation_depth o)

complete_operation : {q : Set} (left : ℕ) → 0 < left - 1 → (ts : List Terminal) → Complete q Operation (FitsOperation left) ts (operation_at left ts)
unfolding operation_at Operation acts
complete_operation left within ts = complete_here (
    complete_next (record { at = λ x rest d e. mode_case left room ts x rest d }) λ m. complete_next (complete_name left room m.1) λ n. complete_next (complete_names left within n.1) λ ps.
    complete_next (complete_the left room sign.OpenBrace ps.1) λ o.
    complete_then (only (code sign.CloseBrace))
    (complete_row (braced (complete_act (left - 1)) (record { at = λ ts rest x d. (silent_act.at ts rest x d).shorter }) starts_act
    (union_in (code sign.Init ∷ code sign.Require ∷ code sign.Assert ∷ code sign.Update ∷ update_codes) refl)) o.1)
    (λ xs each. complete_next (complete_the (left - 1) within sign.CloseBrace xs.1) λ e. complete_yields (fits_within left (with_all (map statement_depth xs.0)) (each_fits (left - 1) statement_depth xs.0 within each)))
    (λ xs. follows_starts (starts_then starts_the) same_in)
    (λ xs. shows_then λ e. shows_yields λ fits. fits_each (left - 1) statement_depth xs (within_fits left (with_all (map statement_depth xs)) fits)))
  where
    room : 0 < left
    room = omega (arith, within)

abbrev FitsInvariant : ℕ → RawInvariant → Type 0
FitsInvariant left i = Fits left (invariant_depth i)

complete_invariant : {q : Set} (left : ℕ) → 0 < left - 1 → (ts : List Terminal) → Complete q Invariant (FitsInvariant left) ts (invariant_at left ts)
unfolding invariant_at Invariant
complete_invariant left within ts = complete_next (complete_the left room sign.Invariant ts) λ i. complete_next (complete_name left room i.1) λ n. complete_next (complete_names left within n.1) λ ps.
    complete_next (complete_the left room sign.Colon ps.1) λ c.
    complete_part (complete_closed_expr left c.1) (λ e fits. complete_yields (fits_both left (in_brackets flat) (expr_depth e.0) (fits_within left flat (fits_flat (left - 1) within)) fits))
    (λ e. shows_yields λ fits. both_second left (in_brackets flat) (expr_depth e) fits)
  where
    room : 0 < left
    room = omega (arith, within)

abbrev pub FitsMachine : ℕ → RawMachine → Type 0
FitsMachine left m = Fits left (machine_depth m)

-- what stands in the braces of a machine
abbrev inside_machine : List RawOperation → List RawInvariant → Depth
inside_machine ops is = with_both (with_all (map operation_depth ops)) (with_all (map invariant_depth is))

pub complete_machine : {q : Set} (left : ℕ) → 0 < left - 1 - 1 → (ts : List Terminal) → Complete q Machine (FitsMachine left) ts (machine_at left ts)
unfolding machine_at Machine fields operations invariants
complete_machine left within ts =
    complete_next (complete_the left room sign.Machine ts) λ m. complete_next (complete_name left room m.1) λ n. complete_next (complete_the left room sign.OpenBrace n.1) λ o.
    complete_then (among behind_fields)
    (complete_row (headed sign.Field (complete_field (left - 1) inner) (record { at = λ ts rest x d. (silent_field.at ts rest x d).shorter }) (field_fork {q = any}).left (among_in behind_fields refl)) o.1)
    (λ fs free. complete_then (among behind_operations)
    (complete_row {p = any} (record {
      complete = complete_operation (left - 1) within;
      shrinks = record { at = λ ts rest x d. (silent_operation.at ts rest x d).shorter };
      begin = λ ts rest x d. modes_are ts ∙ (operation_fork {q = any}).left.at ts rest x d;
      stop = λ ts e. modes_are ts ∙ not_true (modes (front ts)) ((among_in {q = others modes} behind_operations refl).at (front ts) e);
      follows = record { at = λ ts rest xs d e. refl };
    }) fs.1)
    (λ ops first. complete_then (only (code sign.CloseBrace))
    (complete_row (headed sign.Invariant (complete_invariant (left - 1) within) (record { at = λ ts rest x d. (silent_invariant.at ts rest x d).shorter }) (invariant_fork {q = any}).left (only_in _ refl)) ops.1)
    (λ is second. complete_next (complete_the (left - 1) inner sign.CloseBrace is.1) λ e. complete_yields (fits_within left (inside_machine ops.0 is.0)
    (fits_both (left - 1) (with_all (map operation_depth ops.0)) (with_all (map invariant_depth is.0)) (each_fits (left - 1) operation_depth ops.0 inner first) (each_fits (left - 1) invariant_depth is.0 inner second))))
    (λ is. follows_starts (starts_then starts_the) same_in)
    (λ is. shows_then λ e. shows_yields λ fits. fits_each (left - 1) invariant_depth is
    (both_second (left - 1) (with_all (map operation_depth ops.0)) (with_all (map invariant_depth is)) (within_fits left (inside_machine ops.0 is) fits))))
    (λ ops. weaker (invariants_follow _ (λ is. starts_then starts_the)))
    (λ ops. shows_then λ is. shows_then λ e. shows_yields λ fits. fits_each (left - 1) operation_depth ops
    (both_first (left - 1) (with_all (map operation_depth ops)) (with_all (map invariant_depth is)) (within_fits left (inside_machine ops is) fits))))
    (λ fs. weaker (operations_follow _ (λ ops. invariants_follow _ (λ is. starts_then starts_the))))
    (λ fs. record { at = λ us rest y d fits. each_free fs })
  where
    inner : 0 < left - 1
    inner = omega (arith, within)

    room : 0 < left
    room = omega (arith, within)

-- ---- proofs

complete_claim : {q : Set} (left : ℕ) → 0 < left → (ts : List Terminal) → Complete q Claim Free ts (claim_at left ts)
unfolding claim_at Claim
complete_claim left room ts = complete_if sign.At (starts_then starts_the) (starts_then (starts_the {s = sign.Keeps})) (only_in _ refl)
    (complete_next (complete_the left room sign.At ts) λ a. complete_next (complete_number left room a.1) λ n. complete_yields tt)
    (complete_next (complete_the left room sign.Keeps ts) λ k. complete_next (complete_name left room k.1) λ n. complete_yields tt)

abbrev FitsProof : ℕ → RawProof → Type 0
FitsProof left p = Fits left (proof_depth p)

complete_proof : {q : Set} (left : ℕ) → 0 < left → (ts : List Terminal) → Complete q Proof (FitsProof left) ts (proof_at left ts)
unfolding proof_at Proof
complete_proof left room ts = complete_next (complete_name left room ts) λ n. complete_next (complete_claim left room n.1) λ c.
    complete_part (complete_script left c.1) (λ s fits. complete_yields fits) (λ s. shows_yields λ fits. fits)

shrinks_proof : Shrinks Proof
unfolding Proof Script
shrinks_proof = record {
  at = λ ts rest x d.
      let name = one_shorter ts d.middle d.one.terminal d.one.stands in
      let claim : length d.next.middle < length d.middle = (silent_claim.at d.middle d.next.middle d.next.value d.next.one).shorter in
      let script = d.next.next.one in
      let by = one_shorter d.next.middle script.middle script.one.terminal script.one.stands in
      let block : length script.next.middle < length script.middle = (silent_block.at script.middle script.next.middle script.next.value script.next.one).shorter in
      let end : length script.next.middle ≡ length d.next.next.middle = ap (λ (us : List Terminal). length us) script.next.next.none in
      let last : length d.next.next.middle ≡ length rest = ap (λ (us : List Terminal). length us) d.next.next.next.none in
      omega (arith, name, claim, by, block, end, last);
}

-- braces with proofs in them
abbrev pub FitsProofs : ℕ → List RawProof → Type 0
FitsProofs left ps = Fits left (in_brackets (with_all (map proof_depth ps)))

-- the proofs, where no others follow them
pub complete_proofs : {q : Set} → In q (others (only (code sign.Proofs))) → (left : ℕ) → 0 < left - 1 → (ts : List Terminal) → Complete q Proofs (FitsProofs left) ts (proofs_at left ts)
unfolding proofs_at Proofs proof_row
complete_proofs behind left within ts = complete_optional sign.Proofs (starts_then starts_the) behind (fits_within left flat (fits_flat (left - 1) within))
    (complete_next (complete_the left room sign.Proofs ts) λ p. complete_next (complete_the left room sign.OpenBrace p.1) λ o.
    complete_then (only (code sign.CloseBrace)) (complete_row (braced (complete_proof (left - 1) within) shrinks_proof (proof_fork {q = any}).left (only_in _ refl)) o.1)
    (λ xs each. complete_next (complete_the (left - 1) within sign.CloseBrace xs.1) λ e. complete_yields (fits_within left (with_all (map proof_depth xs.0)) (each_fits (left - 1) proof_depth xs.0 within each)))
    (λ xs. follows_starts (starts_then starts_the) same_in)
    (λ xs. shows_then λ e. shows_yields λ fits. fits_each (left - 1) proof_depth xs (within_fits left (with_all (map proof_depth xs)) fits)))
  where
    room : 0 < left
    room = omega (arith, within)

-- ---- texts

-- a line, where the number is 1
record LineOfOne (n line : ℕ) (ts rest : List Terminal) (x : ℕ) : Type 0 where
  is_one : n ≡ 1
  yields : Yields line ts rest x

-- "version" 1
abbrev VersionOne : Spelled ℕ
VersionOne = The sign.Version >>= λ line. ANumber >>= λ n. LineOfOne n line

one_is_read : {q : Set} {n line : ℕ} {ts : List Terminal} (at_line : ℕ) → Complete q (LineOfOne n line) Free ts (if n == 1 then Ok (line, ts) else Err (fault.Version at_line))
one_is_read {q = q} {n = n} {line = line} {ts = ts} at_line = record {
  at = λ x rest d e. met_if _ (n == 1) (ap (λ m. m == 1) d.is_one) ((complete_yields {q = q} {x = line} {S = Free} {ts = ts} tt).at x rest d.yields e);
}

complete_version : {q : Set} (left : ℕ) → 0 < left → (ts : List Terminal) → Complete q VersionOne Free ts (version_at left ts)
unfolding version_at
complete_version left room ts = complete_next (complete_the left room sign.Version ts) λ v. complete_next (complete_number left room v.1) λ n. one_is_read _

-- what all of these terminals spell is read exactly where S holds of it
pub record Ends {A : Type 0} (m : Spelled A) (S : A → Type 0) (ts : List Terminal) (r : Result A Fault) : Type 0 where
  pub at : (x : A) → m ts [] x → Met r x (S x)

ends_case : {A B : Type 0} {p : Set} {m : Spelled A} {S : A → Type 0} {T : B → Type 0} {ts : List Terminal} {g : A → Spelled B} {f : A × List Terminal → Result B Fault} (r : Read A)
    → Complete p m S ts r → ((v : A × List Terminal) → S v.0 → Ends (g v.0) T v.1 (f v)) → ((x : A) → Follows (only 0) p (g x)) → ((x : A) → Shows (g x) (λ y. T y → S x)) → (y : B) → Then m g ts [] y
    → Met (outcome.◌>>=◌ r f) y (T y)
ends_case {S = S} {g = g} (Ok v) one next follows back y d =
    let h = (one.at d.value d.middle d.one ((follows d.value).at d.middle [] y d.next refl)).is in
    (next v (subst (λ z. S z.0) (sym h.0) h.1)).at y (subst (λ z. g z.0 z.1 [] y) (sym h.0) d.next)
ends_case (Err f) one next follows back y d =
    let h = (one.at d.value d.middle d.one ((follows d.value).at d.middle [] y d.next refl)).is in
    record { is = (h.0, λ t. h.1 ((back d.value).at d.middle [] y d.next t)) }

pub ends_then : {A B : Type 0} {m : Spelled A} {S : A → Type 0} {T : B → Type 0} {ts : List Terminal} {r : Read A} {g : A → Spelled B} {f : A × List Terminal → Result B Fault} (p : Set)
    → Complete p m S ts r → ((v : A × List Terminal) → S v.0 → Ends (g v.0) T v.1 (f v)) → ((x : A) → Follows (only 0) p (g x)) → ((x : A) → Shows (g x) (λ y. T y → S x)) → Ends (Then m g) T ts (outcome.◌>>=◌ r f)
ends_then {r = r} p one next follows back = record { at = ends_case r one next follows back }

ends_next : {A B : Type 0} {m : Spelled A} {T : B → Type 0} {ts : List Terminal} {r : Read A} {g : A → Spelled B} {f : A × List Terminal → Result B Fault}
    → Complete any m Free ts r → ((v : A × List Terminal) → Ends (g v.0) T v.1 (f v)) → Ends (Then m g) T ts (outcome.◌>>=◌ r f)
ends_next one next = ends_then any one (λ v s. next v) (λ x. follows_any) (λ x. record { at = λ ts rest y d t. tt })

ends_all : {A : Type 0} {S : A → Type 0} (x : A) → S x → (ts : List Terminal) → Ends (Yields x) S ts (at_end x ts)
ends_all {S = S} x s [] = record { at = λ y d. record { is = (sym d.is, subst S (sym d.is) s) } }
ends_all x s (w ∷ ws) = record { at = λ y d. let e : ◌≡◌ {A = List Terminal} (w ∷ ws) [] = d.none in absurd cc }

-- what fits a whole text
abbrev FitsText : RawMachine × List RawProof → Type 0
FitsText x = FitsMachine 65 x.0 × FitsProofs 65 x.1

-- the number that a version spells is 1, where the second terminal says 1
version_one : (ts rest : List Terminal) (x : ℕ) → (d : The sign.Version ts rest x) → (us : List Terminal) (n : ℕ) → ANumber rest us n → IsVersionOne ts → n ≡ 1
version_one [] rest x d us n number one = absurd one
version_one (w ∷ []) rest x d us n number one = absurd one
version_one (w ∷ v ∷ vs) rest x d us n number one =
    let tail : ◌≡◌ {A = List Terminal} (v ∷ vs) rest = tail_is w d.terminal (v ∷ vs) rest d.stands in
    let is : v.what ≡ what.Number n = says v number.terminal vs us (what.Number n) (tail ∙ number.stands) number.is in
    number_is (sym is ∙ one)
  where
    number_is : {n m : ℕ} → what.Number n ≡ what.Number m → n ≡ m
    number_is e = cc

-- ---- texts of other versions

-- too deep, or of another version
abbrev pub Stops : Fault → Type 0
Stops (fault.Deep line) = Unit {0}
Stops (fault.Version line) = Unit {0}
Stops fault.Ended = ⊥
Stops (fault.Wanted line) = ⊥
Stops (fault.Unbuilt line) = ⊥

abbrev pub IsStopped : {A : Type 0} → Result A Fault → Type 0
IsStopped (Ok x) = ⊥
IsStopped (Err f) = Stops f

-- the same as one fact
pub record Stopped {A : Type 0} (r : Result A Fault) : Type 0 where
  pub is : IsStopped r

deep_stops : (f : Fault) → Excused f → Stops f
deep_stops (fault.Deep line) e = tt
deep_stops (fault.Version line) e = absurd e
deep_stops fault.Ended e = absurd e
deep_stops (fault.Wanted line) e = absurd e
deep_stops (fault.Unbuilt line) e = absurd e

-- what stops stops what goes on with it
stopped_then : {A B : Type 0} (f : A → Result B Fault) (r : Result A Fault) → Stopped r → Stopped (outcome.◌>>=◌ r f)
stopped_then f (Ok x) s = absurd (s.is)
stopped_then f (Err e) s = record { is = s.is }

-- what goes on with what is read stops
then_stopped : {A B : Type 0} {x : A} {us : List Terminal} {S : Type 0} (f : A × List Terminal → Result B Fault) (r : Read A) → Met r (x, us) S → Stopped (f (x, us)) → Stopped (outcome.◌>>=◌ r f)
then_stopped f (Ok v) met s = subst (λ z. Stopped (f z)) (sym met.is.0) s
then_stopped f (Err e) met s = record { is = deep_stops e met.is.0 }

other_stops : {A : Type 0} (x : A) (line : ℕ) (c : Bool) → c ≡ false → Stopped (if c then Ok x else Err (fault.Version line))
other_stops x line true e = absurd cc
other_stops x line false e = record { is = tt }

version_stops : (ts us vs : List Terminal) (line n : ℕ) → The sign.Version ts us line → ANumber us vs n → (n == 1) ≡ false → Stopped (version_at 65 ts)
unfolding version_at
version_stops ts us vs line n w number other =
    then_stopped _ (sign_at 65 sign.Version ts) ((complete_the 65 (omega arith) sign.Version ts).at line us w refl)
    (then_stopped _ (number_at 65 us) ((complete_number 65 (omega arith) us).at n vs number refl) (other_stops _ _ (n == 1) other))

-- what goes on behind the version is read exactly where it fits; or the version is another than 1
pub read_behind : {A : Type 0} {m : Spelled A} {S : A → Type 0} {f : ℕ × List Terminal → Result A Fault} → ((v : ℕ × List Terminal) → Ends m S v.1 (f v)) → (ts : List Terminal) (x : A)
    → Then Version (λ v. m) ts [] x → Met (outcome.◌>>=◌ (version_at 65 ts) f) x (S x) ⊎ ((IsVersionOne ts → ⊥) × Stopped (outcome.◌>>=◌ (version_at 65 ts) f))
unfolding Version
read_behind {S = S} {f = f} behind ts x d = go (n.value == 1) refl
  where
    n : Then ANumber (λ m. Yields d.one.value) d.one.middle d.middle d.value
    n = d.one.next

    go : (c : Bool) → (n.value == 1) ≡ c → Met (outcome.◌>>=◌ (version_at 65 ts) f) x (S x) ⊎ ((IsVersionOne ts → ⊥) × Stopped (outcome.◌>>=◌ (version_at 65 ts) f))
    go true e =
        let line : LineOfOne n.value d.one.value n.middle d.middle d.value = record { is_one = eqb-true n.value 1 e; yields = n.next } in
        let version : VersionOne ts d.middle d.value = record { value = d.one.value; middle = d.one.middle; one = d.one.one; next = record { value = n.value; middle = n.middle; one = n.one; next = line } } in
        inl ((ends_next (complete_version 65 (omega arith) ts) behind).at x (record { value = d.value; middle = d.middle; one = version; next = d.next }))
    go false e =
        inr (
          (λ one. is_other n.value e (version_one ts d.one.middle d.one.value d.one.one n.middle n.value n.one one)),
          stopped_then _ (version_at 65 ts) (version_stops ts d.one.middle n.middle d.one.value n.value d.one.one n.one e),
        )
      where
        is_other : (m : ℕ) → (m == 1) ≡ false → m ≡ 1 → ⊥
        is_other m f one = let same : (m == 1) ≡ true = ap (λ z. z == 1) one in absurd cc

-- a text is read exactly where it fits; or it is of another version than 1
text_read : (ts : List Terminal) (x : RawMachine × List RawProof) → Text ts [] x → Met (text_of ts) x (FitsText x) ⊎ ((IsVersionOne ts → ⊥) × Stopped (text_of ts))
unfolding text_of Text
text_read ts x d =
    read_behind {S = FitsText} (λ v. ends_next (complete_the 65 (omega arith) sign.Semicolon v.1) λ s. ends_then any (complete_machine 65 (omega arith) s.1)
    (λ m first. ends_then (only 0) (complete_proofs (only_in _ refl) 65 (omega arith) m.1) (λ ps second. ends_all (m.0, ps.0) (first, second) ps.1) (λ ps. follows_yields same_in) (λ ps. shows_yields λ fits. fits.1)) (λ m. follows_any)
    (λ m. shows_then λ ps. shows_yields λ fits. fits.0)) ts x d

-- ---- what refuses

pub deep_is : (line : ℕ) (f : Fault) → Excused f → (refusal_of line f).rule ≡ rule.G3
unfolding refusal_of
deep_is line (fault.Deep l) e = refl
deep_is line (fault.Version l) e = absurd e
deep_is line fault.Ended e = absurd e
deep_is line (fault.Wanted l) e = absurd e
deep_is line (fault.Unbuilt l) e = absurd e

-- a fault of depth or version breaks its rule
pub stops_is : (line : ℕ) (f : Fault) → Stops f → ((refusal_of line f).rule ≡ rule.G3) ⊎ ((refusal_of line f).rule ≡ rule.G4)
unfolding refusal_of
stops_is line (fault.Deep l) e = inl refl
stops_is line (fault.Version l) e = inr refl
stops_is line fault.Ended e = absurd e
stops_is line (fault.Wanted l) e = absurd e
stops_is line (fault.Unbuilt l) e = absurd e

err_is : {x y : Refusal} → ◌≡◌ {A = Result RawText Refusal} (Err x) (Err y) → x ≡ y
err_is e = cc

-- the fault for which terminals are refused
record Faulted (ws : Terminals) (r : Refusal) : Type 0 where
  fault : Fault
  stands : text_of ws.list ≡ Err fault
  refuses : refusal_of ws.last_line fault ≡ r

faulted : (text : List ℕ) (ws : Terminals) (r : Refusal) → terminals_in text ≡ Ok ws → parsed text ≡ Err r → Faulted ws r
unfolding parsed
faulted text ws r is e = read (text_of ws.list) refl (ap next (sym is) ∙ e)
  where
    next : Result Terminals Refusal → Result RawText Refusal
    next w = outcome.◌>>=◌ w (λ us. outcome.◌>>=◌ {B = RawText} (refused us.last_line (text_of us.list)) (λ t. Ok (record { machine = t.0; proofs = t.1; names = us.names })))

    read : (t : Result (RawMachine × List RawProof) Fault) → text_of ws.list ≡ t
        → outcome.◌>>=◌ {B = RawText} (refused ws.last_line t) (λ t. Ok (record { machine = t.0; proofs = t.1; names = ws.names })) ≡ Err r → Faulted ws r
    read (Ok t) same h = absurd cc
    read (Err f) same h = record { fault = f; stands = same; refuses = err_is h }

refused_read : (ws : Terminals) (x : RawMachine × List RawProof) (r : Refusal) → Faulted ws r → Met (text_of ws.list) x (FitsText x) → (r.rule ≡ rule.G3) × (FitsText x → ⊥)
refused_read ws x r f met =
    let deep : Met {A = RawMachine × List RawProof} (Err f.fault) x (FitsText x) = subst (λ t. Met t x (FitsText x)) f.stands met in
    (subst (λ (z : Refusal). z.rule ≡ rule.G3) f.refuses (deep_is ws.last_line f.fault deep.is.0), deep.is.1)

refused_stopped : (ws : Terminals) (r : Refusal) → Faulted ws r → Stopped (text_of ws.list) → (r.rule ≡ rule.G3) ⊎ (r.rule ≡ rule.G4)
refused_stopped ws r f stopped =
    let stops : Stopped {A = RawMachine × List RawProof} (Err f.fault) = subst (λ t. Stopped t) f.stands stopped in
    subst (λ (z : Refusal). (z.rule ≡ rule.G3) ⊎ (z.rule ≡ rule.G4)) f.refuses (stops_is ws.last_line f.fault stops.is)

-- a text that is spelled by a tree and is refused is too deep, or of another version than 1
pub refused_is : (text : List ℕ) (raw : RawText) (r : Refusal) → Spells text raw → parsed text ≡ Err r → (r.rule ≡ rule.G3) ⊎ (r.rule ≡ rule.G4)
refused_is text raw r d e = go (text_read d.0.list (raw.machine, raw.proofs) d.2)
  where
    go : Met (text_of d.0.list) (raw.machine, raw.proofs) (FitsText (raw.machine, raw.proofs)) ⊎ ((IsVersionOne d.0.list → ⊥) × Stopped (text_of d.0.list)) → (r.rule ≡ rule.G3) ⊎ (r.rule ≡ rule.G4)
    go (inl met) = inl (refused_read d.0 (raw.machine, raw.proofs) r (faulted text d.0 r d.1 e) met).0
    go (inr other) = refused_stopped d.0 r (faulted text d.0 r d.1 e) other.1

-- ---- shallow trees

fits_shallow : (raw : RawText) → IsShallow raw → FitsText (raw.machine, raw.proofs)
fits_shallow raw shallow =
    let m = machine_depth raw.machine in
    let ps = in_brackets (with_all (map proof_depth raw.proofs)) in
    let all : Fits 65 (with_both m ps) = shallow_fits (with_both m ps) shallow in
    (both_first 65 m ps all, both_second 65 m ps all)
  where
    shallow_fits : (d : Depth) → (d.brackets ≤ 64) × (d.longest ≤ 64) → Fits 65 d
    shallow_fits d h = let few : d.brackets ≤ 64 = h.0 in record { brackets = omega (arith, few); longest = h.1 }

shallow_fits : (raw : RawText) → FitsText (raw.machine, raw.proofs) → IsShallow raw
shallow_fits raw fits =
    let m = machine_depth raw.machine in
    let ps = in_brackets (with_all (map proof_depth raw.proofs)) in
    let all : Fits 65 (with_both m ps) = fits_both 65 m ps fits.0 fits.1 in
    let few : (with_both m ps).brackets < 65 = all.brackets in
    (omega (arith, few), all.longest)

-- a text of version 1 that is spelled by a tree and is refused is too deep, and its tree is not shallow
deep_text : (text : List ℕ) (ws : Terminals) (raw : RawText) (r : Refusal) → terminals_in text ≡ Ok ws → IsVersionOne ws.list → Spells text raw → parsed text ≡ Err r → (r.rule ≡ rule.G3) × (IsShallow raw → ⊥)
deep_text text ws raw r is one d e = go (text_read d.0.list (raw.machine, raw.proofs) d.2)
  where
    own : d.0 ≡ ws
    own = terminals_are (sym d.1 ∙ is)

    go : Met (text_of d.0.list) (raw.machine, raw.proofs) (FitsText (raw.machine, raw.proofs)) ⊎ ((IsVersionOne d.0.list → ⊥) × Stopped (text_of d.0.list)) → (r.rule ≡ rule.G3) × (IsShallow raw → ⊥)
    go (inl met) = let h = refused_read d.0 (raw.machine, raw.proofs) r (faulted text d.0 r d.1 e) met in (h.0, λ shallow. h.1 (fits_shallow raw shallow))
    go (inr other) = absurd (other.0 (subst (λ (us : Terminals). IsVersionOne us.list) (sym own) one))

pub refused_deep : (text : List ℕ) (ws : Terminals) (raw : RawText) (r : Refusal) → terminals_in text ≡ Ok ws → IsVersionOne ws.list → Spells text raw → parsed text ≡ Err r → r.rule ≡ rule.G3
refused_deep text ws raw r is one d e = (deep_text text ws raw r is one d e).0

-- what terminals are read as fits
fitted : (ws : List Terminal) (x : RawMachine × List RawProof) → text_of ws ≡ Ok x → Met (text_of ws) x (FitsText x) ⊎ ((IsVersionOne ws → ⊥) × Stopped (text_of ws)) → FitsText x
fitted ws x e (inl met) = let m : Met {A = RawMachine × List RawProof} (Ok x) x (FitsText x) = subst (λ t. Met t x (FitsText x)) e met in m.is.1
fitted ws x e (inr other) = let s : Stopped {A = RawMachine × List RawProof} (Ok x) = subst (λ t. Stopped t) e other.1 in absurd (s.is)

-- what is read is shallow
read_shallow : (text : List ℕ) (raw : RawText) → parsed text ≡ Ok raw → IsShallow raw
read_shallow text raw e =
    let d = read_terminals text raw e in
    let x : RawMachine × List RawProof = (raw.machine, raw.proofs) in
    shallow_fits raw (fitted d.terminals.list x d.read (text_read d.terminals.list x (text_sound d.terminals.list x d.read)))

pub answer_refuses : (text : List ℕ) (r : Result RawText Stop) → Gives (λ t. t) r (parsed text) → IfErr r (λ s. (tree : RawText) → Spells text tree → MayRefuse s)
answer_refuses text (Ok t) e = tt
answer_refuses text (Err stop.Memory) e = λ tree d. tt
answer_refuses text (Err (stop.Refused r)) e = λ tree d. refused_is text tree r d e

-- a text of version 1 that is spelled by a tree is refused for depth alone, where the tree is not shallow
pub answer_deep : (text : List ℕ) (r : Result RawText Stop) → Gives (λ t. t) r (parsed text)
    → IfErr r (λ s. IsOfVersionOne text → (tree : RawText) → Spells text tree → MayRefuseVersionOne tree s)
answer_deep text (Ok t) e = tt
answer_deep text (Err stop.Memory) e = λ one tree d. tt
answer_deep text (Err (stop.Refused r)) e = λ one tree d. deep_text text one.0 tree r one.1 one.2 d e

pub answer_shallow : (text : List ℕ) (r : Result RawText Stop) → Gives (λ t. t) r (parsed text) → IfOk r (λ (t : RawText). IsShallow t)
answer_shallow text (Ok t) e = read_shallow text t e
answer_shallow text (Err s) e = tt
