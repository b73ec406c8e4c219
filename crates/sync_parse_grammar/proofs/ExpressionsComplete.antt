-- What is spelled as an expression is read exactly where it fits its place, and is else refused for depth.
use Rattle.std.proofs.Common.{◌≡◌, ℕ, zero, suc, ◌+◌, ◌-◌, ◌<◌, ◌≤◌, ◌==◌, ◌||◌, Bool, true, false, if◌then◌else◌, List, [], ◌∷◌, map, Ok, Err, Option, Some, None, is_some, refl, sym, ap, ◌∙◌, subst, arith}
use Rattle.std.proofs.lemmas.Bool.{eqb-true}
use Rattle.sync_base.proofs.Basics.{some_is, not_true}
use Rattle.sync_base.specs.Outcome as outcome
use Rattle.sync_lex.specs.declared.signs.Sign.{Sign}
use Rattle.sync_lex.specs.declared.signs.Sign.TheVariants as sign
use Rattle.sync_lex.specs.contracts.signs.Sign.{the_type}
use denote.Enum.Bare.{same_true}
use Rattle.sync_lex.specs.declared.terminals.TerminalKind.{TerminalKind}
use Rattle.sync_lex.specs.declared.terminals.TerminalKind.TheVariants as what
use Rattle.sync_lex.specs.declared.terminals.Terminal.{Terminal}
use Rattle.sync_lex.specs.Signs.{is_same}
use Rattle.sync_lex.specs.Terminals.{says_sign, is_sign}
use Rattle.sync_parse_exprs.specs.declared.faults.Fault.TheVariants as fault
use Rattle.sync_parse_exprs.specs.declared.expressions.RawExpr.{RawExpr}
use Rattle.sync_parse_exprs.specs.declared.expressions.RawExprKind.{RawExprKind}
use Rattle.sync_parse_exprs.specs.declared.expressions.RawExprKind.TheVariants as kind
use Rattle.sync_parse_exprs.specs.declared.expressions.Special.{Special}
use Rattle.sync_parse_exprs.specs.declared.expressions.Special.TheVariants as special
use Rattle.sync_parse_exprs.specs.declared.expressions.Function.{Function}
use Rattle.sync_parse_exprs.specs.declared.expressions.Function.TheVariants as function
use Rattle.sync_parse_exprs.specs.declared.expressions.Operator.{Operator}
use Rattle.sync_parse_exprs.specs.declared.expressions.Operator.TheVariants as operator
use Rattle.sync_parse_exprs.specs.Terminals.{Read, Reader, first_line, listed, in_round}
use Rattle.sync_parse_exprs.specs.Expressions.{signed, placed, whole, special_of, function_of, relation_of, sum_of, and_of, or_of, factor_of, factor_said, begins_operand, sign_operand, operand_said, operand, prefixed, unary_with, unary, times, product, chain, chained, sums, related, relation, ands, ors, implied, implies, inside, expr_at, exprs_at}
use Rattle.sync_parse_forms.specs.Relations.{Spelled, The, AName, ANumber, Yields, ◌>>=◌, Either, the_one, the_other, InRound}
use Rattle.sync_parse_grammar.specs.Expressions.{placed_at, Whole, NoNumber, Operand, Unary, Product, Chain, Chained, Joins, SumSign, Sum, RelationSign, Relation, And, Or, Implied, Nested, AnExpr, Args}
use Rattle.sync_parse_forms.specs.Fronts.{code, front, front_of, Set, any, only, both, others}
use Rattle.sync_parse_forms.proofs.Clears.{In, only_in, among_in, both_in, others_in, others_first, not_both, Starts, starts_then, starts_the, follows_starts, follows_yields, follows_or, head_is, tail_is}
use Rattle.sync_parse_grammar.proofs.ExpressionsSound.{Table, whole_is, or_table, and_table, sum_table, relation_table}
use Rattle.sync_parse_grammar.proofs.ExpressionsClear.{Inner, operands, begins, times_sign, sum_signs, relation_signs, and_signs, or_signs, operators, relations, relations_in, starts_operand, starts_whole, number_alone, nested_inner, starts_nested, sum_fork, relation_fork, joins_fork, no_operator, implies_follows, follows_chain_case}
use Rattle.sync_parse_grammar.proofs.Counting.{silent_nested, silent_expr}
use Rattle.sync_parse_grammar.specs.Shallow.{flat, with_all, in_brackets, Run, signs, implications, extent, expr_depth}
use Rattle.sync_parse_grammar.specs.Shallow as shallow
use Rattle.sync_parse_grammar.proofs.Depths.{Fits, fits_room, fits_flat, fits_both, both_first, both_second, fits_within, within_fits, each_fits, fits_each, FitsKind, FitsExpr, fits_placed, placed_fits, IsSingle, IsLonger, of_number, of_name, of_param, of_nil, of_special, of_bracketed, of_call, of_not, of_minus, of_times, single_fits, fits_single, run_of, run_placed}
use Rattle.sync_parse_grammar.proofs.Runs.{operand_run, own_run, product_run, Links, sum_links, and_links, or_links, relation_two, relation_run, and_run, or_run, fits_longer, longer_fits, signs_small, of_implies, implications_small, linked_fits, fits_behind, linked_run, linked_small, chain_back}
use Rattle.sync_parse_forms.proofs.Completes.{Shrinks, says, is_it, front_case, pair_is}
use Rattle.sync_parse_grammar.proofs.Completes.{Met, gives, met_as, too_deep, Complete, shows_then, shows_yields, complete_yields, complete_spelled, complete_then, complete_part, complete_next, complete_here, met_if, met_else, met_within, complete_the, complete_name, complete_factor, Round, complete_round}

-- ---- whole expressions

whole_case : {m : Spelled RawExprKind} (left : ℕ) {ts rest : List Terminal} {e : RawExpr} (r : Read RawExprKind) → Whole m ts rest e → ((x : RawExprKind) → m ts rest x → Met r (x, rest) (FitsKind left x))
    → Met {A = RawExpr × List Terminal} (outcome.◌>>=◌ r (λ x. Ok (placed x.0 (first_line ts), x.1))) (e, rest) (FitsExpr left e)
whole_case left {ts = ts} (Ok v) d met =
    let x = whole_is d in
    let h = (met x.0 x.1).is in
    gives (ap (λ z. placed z.0 (first_line ts)) h.0 ∙ sym x.2) (ap (λ z. z.1) h.0) (subst (FitsExpr left) (sym x.2) (fits_placed left x.0 (first_line ts) h.1))
whole_case left {ts = ts} (Err f) d met =
    let x = whole_is d in
    let h = (met x.0 x.1).is in
    record { is = (h.0, λ fits. h.1 (placed_fits left x.0 (first_line ts) (subst (FitsExpr left) x.2 fits))) }

pub complete_whole : {q : Set} {m : Spelled RawExprKind} {read : Reader RawExprKind} (left : ℕ) → ((ts : List Terminal) → Complete q m (FitsKind left) ts (read ts)) → (ts : List Terminal)
    → Complete q (Whole m) (FitsExpr left) ts (whole read ts)
complete_whole {read = read} left c ts = record { at = λ e rest d after. whole_case left (read ts) d (λ x k. (c ts).at x rest k after) }

-- ---- operands

-- what is known of what stands in brackets, read one level deeper, where there is a level left
pub record Inside (m : Spelled RawExprKind) (left : ℕ) (inner : Reader RawExprKind) : Type 0 where
  pub known : Inner m m
  pub shrinks : Shrinks m
  pub complete : 0 < left → (ts : List Terminal) → Complete (others operators) m (FitsKind (left - 1)) ts (inner ts)

shrinks_whole : {m : Spelled RawExprKind} → Shrinks m → Shrinks (Whole m)
shrinks_whole s = record { at = λ ts rest e d. let x = whole_is d in s.at ts rest x.0 x.1 }

-- an operand of one lexeme fits where there is a level left
lexeme_fits : (left : ℕ) (x : RawExprKind) → IsSingle x flat → 0 < left → FitsKind left x
lexeme_fits left x i room = single_fits left x flat i (fits_flat left room)

pub round_fits : (left : ℕ) (args : List RawExpr) → Round left (FitsExpr (left - 1)) args → Fits left (in_brackets (with_all (map expr_depth args)))
round_fits left args r = fits_within left (with_all (map expr_depth args)) (each_fits (left - 1) expr_depth args r.0 r.1)

pub fits_round : (left : ℕ) (args : List RawExpr) → Fits left (in_brackets (with_all (map expr_depth args))) → Round left (FitsExpr (left - 1)) args
fits_round left args fits = let h = within_fits left (with_all (map expr_depth args)) fits in (fits_room h, fits_each (left - 1) expr_depth args h)

call_fits : (left : ℕ) (f : Function) (line : ℕ) (args : List RawExpr) → Round left (FitsExpr (left - 1)) args → FitsKind left (kind.Call f line args)
call_fits left f line args r = single_fits left (kind.Call f line args) _ (of_call f line args) (round_fits left args r)

fits_call : (left : ℕ) (f : Function) (line : ℕ) (args : List RawExpr) → FitsKind left (kind.Call f line args) → Round left (FitsExpr (left - 1)) args
fits_call left f line args fits = fits_round left args (fits_single left (kind.Call f line args) _ (of_call f line args) fits)

call_read : {m : Spelled RawExprKind} {left : ℕ} {inner : Reader RawExprKind} → Inside m left inner → (f : Function) (line : ℕ) (ws : List Terminal) (args : List RawExpr) (rest : List Terminal) → InRound (Whole m) ws rest args
    → Met {A = RawExprKind × List Terminal} (outcome.◌>>=◌ (in_round left (listed (whole inner) sign.CloseRound) ws) (λ x. Ok (kind.Call f line x.0, x.1))) (kind.Call f line args, rest) (FitsKind left (kind.Call f line args))
call_read {left = left} {inner = inner} i f line ws args rest d =
    go (in_round left (listed (whole inner) sign.CloseRound) ws)
    ((complete_round {q = any} left (whole inner) (λ room. record {
      complete = complete_whole (left - 1) (i.complete room);
      shrinks = shrinks_whole i.shrinks;
      comma = refl;
      end = only_in _ refl;
      apart = only_in _ refl;
    })
    (starts_whole i.known.left) (among_in {q = others (only (code sign.CloseRound))} (code sign.Bang ∷ code sign.Minus ∷ operands) refl) ws).at args rest d refl)
  where
    go : (r : Read (List RawExpr)) → Met r (args, rest) (Round left (FitsExpr (left - 1)) args)
        → Met {A = RawExprKind × List Terminal} (outcome.◌>>=◌ r (λ x. Ok (kind.Call f line x.0, x.1))) (kind.Call f line args, rest) (FitsKind left (kind.Call f line args))
    go (Ok v) met = gives (ap (λ z. kind.Call f line z.0) met.is.0) (ap (λ z. z.1) met.is.0) (call_fits left f line args met.is.1)
    go (Err g) met = record { is = (met.is.0, λ fits. met.is.1 (fits_call left f line args fits)) }

-- one of the terminals of a table
special_cases : (P : Sign → Type 0) → P sign.Value → P sign.Index → P sign.Old → P sign.New → P sign.Wrap → (s : Sign) (x : Special) → special_of s ≡ Some x → P s
unfolding special_of
special_cases P a b c d e s x found =
    pick sign.Value special.Value _ found a λ found.
    pick sign.Index special.Index _ found b λ found.
    pick sign.Old special.Old _ found c λ found.
    pick sign.New special.New _ found d λ found.
    pick sign.Wrap special.Wrap _ found e λ found. absurd cc
  where
    pick_case : (t : Sign) (y : Special) (other : Option Special) (c : Bool) → is_same s t ≡ c → (if c then Some y else other) ≡ Some x → P t → (other ≡ Some x → P s) → P s
    pick_case t y other true is found here more = subst P (sym (same_true the_type tt s t is)) here
    pick_case t y other false is found here more = more found

    pick : (t : Sign) (y : Special) (other : Option Special) → (if is_same s t then Some y else other) ≡ Some x → P t → (other ≡ Some x → P s) → P s
    pick t y other = pick_case t y other (is_same s t) refl

function_cases : (P : Sign → Type 0) → P sign.Get → P sign.Has → P sign.Size → P sign.Sum → P sign.Put → P sign.Del → P sign.Bump → P sign.Held → (s : Sign) (x : Function) → function_of s ≡ Some x → P s
unfolding function_of
function_cases P a b c d e f g h s x found =
    pick sign.Get function.Get _ found a λ found.
    pick sign.Has function.Has _ found b λ found.
    pick sign.Size function.Size _ found c λ found.
    pick sign.Sum function.Sum _ found d λ found.
    pick sign.Put function.Put _ found e λ found.
    pick sign.Del function.Del _ found f λ found.
    pick sign.Bump function.Bump _ found g λ found.
    pick sign.Held function.Held _ found h λ found. absurd cc
  where
    pick_case : (t : Sign) (y : Function) (other : Option Function) (c : Bool) → is_same s t ≡ c → (if c then Some y else other) ≡ Some x → P t → (other ≡ Some x → P s) → P s
    pick_case t y other true is found here more = subst P (sym (same_true the_type tt s t is)) here
    pick_case t y other false is found here more = more found

    pick : (t : Sign) (y : Function) (other : Option Function) → (if is_same s t then Some y else other) ≡ Some x → P t → (other ≡ Some x → P s) → P s
    pick t y other = pick_case t y other (is_same s t) refl

special_read : (inner : Reader RawExprKind) (left line : ℕ) (ws : List Terminal) (s : Sign) (x : Special) → special_of s ≡ Some x
    → Met (sign_operand inner left s line ws) (kind.Special x line, ws) (FitsKind left (kind.Special x line))
unfolding sign_operand begins_operand special_of function_of
special_read inner left line ws s x found =
    special_cases (λ t. (y : Special) → special_of t ≡ Some y → Met (sign_operand inner left t line ws) (kind.Special y line, ws) (FitsKind left (kind.Special y line)))
    (λ y e. met_within left line fits_room λ room. gives (ap (λ z. kind.Special z line) (some_is e)) refl (lexeme_fits left _ (of_special y line) room))
    (λ y e. met_within left line fits_room λ room. gives (ap (λ z. kind.Special z line) (some_is e)) refl (lexeme_fits left _ (of_special y line) room))
    (λ y e. met_within left line fits_room λ room. gives (ap (λ z. kind.Special z line) (some_is e)) refl (lexeme_fits left _ (of_special y line) room))
    (λ y e. met_within left line fits_room λ room. gives (ap (λ z. kind.Special z line) (some_is e)) refl (lexeme_fits left _ (of_special y line) room))
    (λ y e. met_within left line fits_room λ room. gives (ap (λ z. kind.Special z line) (some_is e)) refl (lexeme_fits left _ (of_special y line) room))
    s x found x found

-- the same, where the function is known by its sign
call_as : {m : Spelled RawExprKind} {left : ℕ} {inner : Reader RawExprKind} → Inside m left inner → (line : ℕ) (ws : List Terminal) (args : List RawExpr) (rest : List Terminal) → InRound (Whole m) ws rest args
    → (f g : Function) → f ≡ g → Met {A = RawExprKind × List Terminal} (outcome.◌>>=◌ (in_round left (listed (whole inner) sign.CloseRound) ws) (λ x. Ok (kind.Call f line x.0, x.1))) (kind.Call g line args, rest) (FitsKind left (kind.Call g line args))
call_as {left = left} {inner = inner} i line ws args rest d f g e =
    subst (λ z. Met {A = RawExprKind × List Terminal} (outcome.◌>>=◌ (in_round left (listed (whole inner) sign.CloseRound) ws) (λ x. Ok (kind.Call f line x.0, x.1))) (kind.Call z line args, rest) (FitsKind left (kind.Call z line args)))
    e (call_read i f line ws args rest d)

function_read : {m : Spelled RawExprKind} {left : ℕ} (inner : Reader RawExprKind) → Inside m left inner → (line : ℕ) (ws : List Terminal) (args : List RawExpr) (rest : List Terminal) → InRound (Whole m) ws rest args
    → (s : Sign) (x : Function) → function_of s ≡ Some x → Met (sign_operand inner left s line ws) (kind.Call x line args, rest) (FitsKind left (kind.Call x line args))
unfolding sign_operand begins_operand special_of function_of
function_read {left = left} inner i line ws args rest d s x found =
    function_cases (λ t. (y : Function) → function_of t ≡ Some y → Met (sign_operand inner left t line ws) (kind.Call y line args, rest) (FitsKind left (kind.Call y line args)))
    (λ y e. met_within left line fits_room λ room. call_as i line ws args rest d function.Get y (some_is e))
    (λ y e. met_within left line fits_room λ room. call_as i line ws args rest d function.Has y (some_is e))
    (λ y e. met_within left line fits_room λ room. call_as i line ws args rest d function.Size y (some_is e))
    (λ y e. met_within left line fits_room λ room. call_as i line ws args rest d function.Sum y (some_is e))
    (λ y e. met_within left line fits_room λ room. call_as i line ws args rest d function.Put y (some_is e))
    (λ y e. met_within left line fits_room λ room. call_as i line ws args rest d function.Del y (some_is e))
    (λ y e. met_within left line fits_room λ room. call_as i line ws args rest d function.Bump y (some_is e))
    (λ y e. met_within left line fits_room λ room. call_as i line ws args rest d function.Held y (some_is e))
    s x found x found

param_read : (inner : Reader RawExprKind) (left line : ℕ) (ws : List Terminal) (x : RawExprKind) (rest : List Terminal) → (AName >>= λ y. Yields (kind.Param line y)) ws rest x
    → Met (sign_operand inner left sign.Dollar line ws) (x, rest) (FitsKind left x)
unfolding sign_operand begins_operand special_of function_of
param_read inner left line ws x rest d = met_within left line fits_room λ room.
    (complete_next {q = any} {T = FitsKind left} (complete_name left room ws) λ v. complete_yields (lexeme_fits left _ (of_param line v.0) room)).at x rest d refl

nil_read : (inner : Reader RawExprKind) (left line : ℕ) (ws : List Terminal) → Met (sign_operand inner left sign.Nil line ws) (kind.Nil, ws) (FitsKind left kind.Nil)
unfolding sign_operand begins_operand special_of function_of
nil_read inner left line ws = met_within left line fits_room λ room. gives refl refl (lexeme_fits left _ of_nil room)

starts_close : Starts (The sign.CloseRound) (only (code sign.CloseRound))
starts_close = starts_the

bracket_read : {m : Spelled RawExprKind} {left : ℕ} (inner : Reader RawExprKind) → Inside m left inner → (line : ℕ) (ws : List Terminal) (x : RawExprKind) (rest : List Terminal)
    → (Whole m >>= λ y. The sign.CloseRound >>= λ e. Yields (kind.Bracketed y)) ws rest x → Met (sign_operand inner left sign.OpenRound line ws) (x, rest) (FitsKind left x)
unfolding sign_operand begins_operand special_of function_of
bracket_read {left = left} inner i line ws x rest d = met_within left line fits_room λ room.
    (complete_then {q = any} {S = FitsExpr (left - 1)} {T = FitsKind left} (others operators) (complete_whole (left - 1) (i.complete room) ws)
    (λ v fits. complete_next (complete_the (left - 1) (fits_room fits) sign.CloseRound v.1) λ c. complete_yields (single_fits left _ _ (of_bracketed v.0) (fits_within left (expr_depth v.0) fits)))
    (λ y. follows_starts (starts_then starts_close) (only_in _ refl))
    (λ y. shows_then λ c. shows_yields λ fits. within_fits left (expr_depth y) (fits_single left _ _ (of_bracketed y) fits))).at x rest d refl

-- the derivation's first terminal is the terminal that is read
moved : {S : Type 0} (inner : Reader RawExprKind) (left : ℕ) (w v : Terminal) (ws vs : List Terminal) (s : Sign) (x : RawExprKind) (rest : List Terminal) → ◌≡◌ {A = List Terminal} (w ∷ ws) (v ∷ vs) → v.what ≡ what.Sign s
    → Met (sign_operand inner left s w.line ws) (x, rest) S → Met (operand_said inner left w.line ws w.what) (x, rest) S
moved {S = S} inner left w v ws vs s x rest e is met = subst (λ z. Met (operand_said inner left w.line ws z) (x, rest) S) (sym (says w v ws vs (what.Sign s) e is)) met

operand_case : {m : Spelled RawExprKind} (left : ℕ) (inner : Reader RawExprKind) → Inside m left inner → (w : Terminal) (ws : List Terminal) (x : RawExprKind) (rest : List Terminal) → NoNumber m (w ∷ ws) rest x
    → Met (operand_said inner left w.line ws w.what) (x, rest) (FitsKind left x)
unfolding NoNumber
operand_case left inner i w ws x rest (the_one d) =
    let e : ◌≡◌ {A = List Terminal} (w ∷ ws) (d.one.terminal ∷ d.middle) = d.one.stands in
    let line = ap (λ (z : Terminal). z.line) (head_is w d.one.terminal ws d.middle e) in
    let value : kind.Name (record { name = d.one.number; line = w.line }) ≡ x = (λ k. kind.Name (record { name = d.one.number; line = line k })) ∙ ap kind.Name (sym d.one.name_is) ∙ sym d.next.is in
    subst (λ z. Met (operand_said inner left w.line ws z) (x, rest) (FitsKind left x)) (sym (says w d.one.terminal ws d.middle (what.Name d.one.number d.one.strategy) e d.one.is))
    (met_within left w.line fits_room λ room. gives value (tail_is w d.one.terminal ws d.middle e ∙ d.next.none) (subst (FitsKind left) value (lexeme_fits left _ (of_name _) room)))
operand_case left inner i w ws x rest (the_other (the_one d)) =
    let e : ◌≡◌ {A = List Terminal} (w ∷ ws) (d.one.terminal ∷ d.middle) = d.one.stands in
    let line : d.value ≡ w.line = d.one.line_is ∙ ap (λ (z : Terminal). z.line) (sym (head_is w d.one.terminal ws d.middle e)) in
    let next = subst (λ us. (AName >>= λ y. Yields (kind.Param w.line y)) us rest x) (sym (tail_is w d.one.terminal ws d.middle e))
    (subst (λ l. (AName >>= λ y. Yields (kind.Param l y)) d.middle rest x) line d.next) in
    moved inner left w d.one.terminal ws d.middle sign.Dollar x rest e d.one.is (param_read inner left w.line ws x rest next)
operand_case left inner i w ws x rest (the_other (the_other (the_one d))) =
    let e : ◌≡◌ {A = List Terminal} (w ∷ ws) (d.one.terminal ∷ d.middle) = d.one.stands in
    let met = subst (λ z. Met (sign_operand inner left sign.Nil w.line ws) z (FitsKind left z.0)) (pair_is (sym d.next.is) (tail_is w d.one.terminal ws d.middle e ∙ d.next.none)) (nil_read inner left w.line ws) in
    moved inner left w d.one.terminal ws d.middle sign.Nil x rest e d.one.is met
operand_case left inner i w ws x rest (the_other (the_other (the_other (the_one d)))) =
    let e : ◌≡◌ {A = List Terminal} (w ∷ ws) (d.one.terminal ∷ d.middle) = d.one.stands in
    let line : w.line ≡ d.value.1 = ap (λ (z : Terminal). z.line) (head_is w d.one.terminal ws d.middle e) ∙ sym d.one.line_is in
    let value : kind.Special d.value.0 w.line ≡ x = ap (kind.Special d.value.0) line ∙ sym d.next.is in
    let met = subst (λ z. Met (sign_operand inner left d.one.sign w.line ws) z (FitsKind left z.0)) (pair_is value (tail_is w d.one.terminal ws d.middle e ∙ d.next.none))
    (special_read inner left w.line ws d.one.sign d.value.0 d.one.found) in
    moved inner left w d.one.terminal ws d.middle d.one.sign x rest e d.one.is met
operand_case {m = m} left inner i w ws x rest (the_other (the_other (the_other (the_other (the_one d))))) =
    let e : ◌≡◌ {A = List Terminal} (w ∷ ws) (d.one.terminal ∷ d.middle) = d.one.stands in
    let line : w.line ≡ d.value.1 = ap (λ (z : Terminal). z.line) (head_is w d.one.terminal ws d.middle e) ∙ sym d.one.line_is in
    let value : kind.Call d.value.0 w.line d.next.value ≡ x = ap (λ l. kind.Call d.value.0 l d.next.value) line ∙ sym d.next.next.is in
    let args = subst (λ us. InRound (Whole m) us d.next.middle d.next.value) (sym (tail_is w d.one.terminal ws d.middle e)) d.next.one in
    let met = subst (λ z. Met (sign_operand inner left d.one.sign w.line ws) z (FitsKind left z.0)) (pair_is value d.next.next.none)
    (function_read inner i w.line ws d.next.value d.next.middle args d.one.sign d.value.0 d.one.found) in
    moved inner left w d.one.terminal ws d.middle d.one.sign x rest e d.one.is met
operand_case {m = m} left inner i w ws x rest (the_other (the_other (the_other (the_other (the_other d))))) =
    let e : ◌≡◌ {A = List Terminal} (w ∷ ws) (d.one.terminal ∷ d.middle) = d.one.stands in
    let next = subst (λ us. (Whole m >>= λ y. The sign.CloseRound >>= λ e. Yields (kind.Bracketed y)) us rest x) (sym (tail_is w d.one.terminal ws d.middle e)) d.next in
    moved inner left w d.one.terminal ws d.middle sign.OpenRound x rest e d.one.is (bracket_read inner i w.line ws x rest next)

complete_operand_case : {m : Spelled RawExprKind} (left : ℕ) (inner : Reader RawExprKind) → Inside m left inner → (ts : List Terminal) (x : RawExprKind) (rest : List Terminal) → Operand m ts rest x
    → Met (operand inner left ts) (x, rest) (FitsKind left x)
unfolding operand Operand
complete_operand_case left inner i [] x rest d = let h = (among_in {q = others (only 0)} operands refl).at 0 ((starts_operand i.known).at [] rest x d) in absurd cc
complete_operand_case left inner i (w ∷ ws) x rest (the_one d) =
    let e : ◌≡◌ {A = List Terminal} (w ∷ ws) (d.one.terminal ∷ d.middle) = d.one.stands in
    subst (λ z. Met (operand_said inner left w.line ws z) (x, rest) (FitsKind left x)) (sym (says w d.one.terminal ws d.middle (what.Number d.value) e d.one.is))
    (met_within left w.line fits_room λ room. gives (sym d.next.is) (tail_is w d.one.terminal ws d.middle e ∙ d.next.none) (subst (FitsKind left) (sym d.next.is) (lexeme_fits left _ (of_number _) room)))
complete_operand_case left inner i (w ∷ ws) x rest (the_other d) = operand_case left inner i w ws x rest d

pub complete_operand : {m : Spelled RawExprKind} (left : ℕ) (inner : Reader RawExprKind) → Inside m left inner → (ts : List Terminal) → Complete any (Operand m) (FitsKind left) ts (operand inner left ts)
complete_operand left inner i ts = record { at = λ x rest d e. complete_operand_case left inner i ts x rest d }

-- ---- prefix signs

sign_no : (w : Terminal) (s : Sign) → others (only (code s)) (front_of w.what) ≡ true → is_sign w s ≡ false
sign_no w s e = front_case s w.what ∙ not_true (only (code s) (front_of w.what)) e

-- S holds of what stands behind a prefix sign exactly where T holds of the whole, unless it is one sign too many
prefix_read : {S T : Type 0} (left : ℕ) (many : Bool) (again : Reader RawExprKind) (make : RawExpr → RawExprKind) (line : ℕ) (us : List Terminal) (x : RawExprKind) (rest : List Terminal)
    → (T → 0 < left) → (T → many ≡ false) → (many ≡ false → S → T) → (many ≡ false → T → S) → (many ≡ false → Met (again us) (x, rest) S) → Met (prefixed left many again make line us) (make (placed_at x us), rest) T
prefix_read {S = S} {T = T} left many again make line us x rest room few to from met = go (left == 0) many refl few to from met
  where
    read : (S → T) → (T → S) → (r : Read RawExprKind) → Met r (x, rest) S
        → Met {A = RawExprKind × List Terminal} (outcome.◌>>=◌ {A = RawExpr × List Terminal} (outcome.◌>>=◌ r (λ y. Ok (placed y.0 (first_line us), y.1))) (λ y. Ok (make y.0, y.1))) (make (placed_at x us), rest) T
    read to from (Ok v) h = gives (ap (λ z. make (placed z.0 (first_line us))) h.is.0) (ap (λ z. z.1) h.is.0) (to h.is.1)
    read to from (Err f) h = record { is = (h.is.0, λ t. h.is.1 (from t)) }

    none : left ≡ 0 → T → ⊥
    none e t = let k : 0 < left = room t in omega (arith, k, e)

    go : (c many : Bool) → (left == 0) ≡ c → (T → many ≡ false) → (many ≡ false → S → T) → (many ≡ false → T → S) → (many ≡ false → Met (again us) (x, rest) S)
        → Met {A = RawExprKind × List Terminal} (if c || many then Err (fault.Deep line) else outcome.◌>>=◌ (whole again us) (λ y. Ok (make y.0, y.1))) (make (placed_at x us), rest) T
    go true many e few to from met = too_deep (none (eqb-true left 0 e))
    go false true e few to from met = too_deep (λ t. let k : true ≡ false = few t in absurd cc)
    go false false e few to from met = read (to refl) (from refl) (again us) (met refl)

-- what fits a place with so many prefix signs left
abbrev FitsRun : ℕ → ℕ → RawExprKind → Type 0
FitsRun left run x = (run_of signs x ≤ run) × FitsKind left x

-- what makes an expression of a prefix sign and what stands behind it
record Prefix (make : RawExpr → RawExprKind) : Type 0 where
  is : (a : RawExpr) → IsLonger (make a) signs (extent a) (expr_depth a)

prefix_signs : (make : RawExpr → RawExprKind) → Prefix make → (x : RawExprKind) (line : ℕ) → run_of signs (make (placed x line)) ≡ suc (run_of signs x)
prefix_signs make p x line = own_run signs _ _ _ (p.is (placed x line)) ∙ ap suc (run_placed signs x line)

-- a prefix sign before what fits
prefix_fits : (left run below : ℕ) (make : RawExpr → RawExprKind) → Prefix make → (x : RawExprKind) (line : ℕ) → run ≤ 64 → run ≡ suc below → FitsRun left below x → FitsRun left run (make (placed x line))
prefix_fits left run below make p x line small is fits =
    let few : run_of signs x ≤ below = fits.0 in
    let e : run_of signs (make (placed x line)) ≡ suc (run_of signs x) = prefix_signs make p x line in
    let own : (extent (placed x line)).run signs ≡ run_of signs x = run_placed signs x line in
    (omega (arith, few, e, is), fits_longer left signs _ _ _ (p.is (placed x line)) (omega (arith, few, own, is, small)) (fits_placed left x line fits.1))

fits_behind_sign : (left run below : ℕ) (make : RawExpr → RawExprKind) → Prefix make → (x : RawExprKind) (line : ℕ) → run ≡ suc below → FitsRun left run (make (placed x line)) → FitsRun left below x
fits_behind_sign left run below make p x line is fits =
    let few : run_of signs (make (placed x line)) ≤ run = fits.0 in
    let e : run_of signs (make (placed x line)) ≡ suc (run_of signs x) = prefix_signs make p x line in
    (omega (arith, few, e, is), placed_fits left x line (longer_fits left signs _ _ _ (p.is (placed x line)) fits.1))

-- where a run of so many signs goes on
record Going (run below : ℕ) (many : Bool) : Type 0 where
  small : run ≤ 64
  less : many ≡ false → run ≡ suc below
  few : 0 < run → many ≡ false

sign_read : (left run below : ℕ) (many : Bool) → Going run below many → (again : Reader RawExprKind) (make : RawExpr → RawExprKind) → Prefix make → (line : ℕ) (us : List Terminal) (x : RawExprKind) (rest : List Terminal)
    → (many ≡ false → Met (again us) (x, rest) (FitsRun left below x)) → Met (prefixed left many again make line us) (make (placed_at x us), rest) (FitsRun left run (make (placed_at x us)))
sign_read left run below many go again make p line us x rest met = prefix_read left many again make line us x rest (λ fits. fits_room fits.1) few
    (λ free fits. prefix_fits left run below make p x (first_line us) go.small (go.less free) fits) (λ free fits. fits_behind_sign left run below make p x (first_line us) (go.less free) fits) met
  where
    few : FitsRun left run (make (placed_at x us)) → many ≡ false
    few fits =
        let most : run_of signs (make (placed_at x us)) ≤ run = fits.0 in
        let e : run_of signs (make (placed_at x us)) ≡ suc (run_of signs x) = prefix_signs make p x (first_line us) in
        go.few (omega (arith, most, e))

-- a run's first sign, or its operand
unary_read : {m : Spelled RawExprKind} (left : ℕ) (inner : Reader RawExprKind) → Inside m left inner → (run below : ℕ) (many : Bool) → Going run below many → (again : Reader RawExprKind)
    → ((ts : List Terminal) (x : RawExprKind) (rest : List Terminal) → many ≡ false → Unary m ts rest x → Met (again ts) (x, rest) (FitsRun left below x))
    → (ts : List Terminal) (x : RawExprKind) (rest : List Terminal) → Unary m ts rest x → Met (unary_with inner left many again ts) (x, rest) (FitsRun left run x)
unary_read left inner i run below many go again more [] x rest (Unary.operand d) = let h = (among_in {q = others (only 0)} operands refl).at 0 ((starts_operand i.known).at [] rest x d) in absurd cc
unary_read left inner i run below many go again more [] x rest (Unary.negated p d) = let h : ◌≡◌ {A = List Terminal} [] _ = p.stands in absurd cc
unary_read left inner i run below many go again more [] x rest (Unary.minus p d) = let h : ◌≡◌ {A = List Terminal} [] _ = p.stands in absurd cc
unary_read {m = m} left inner i run below many go again more (w ∷ ws) x rest (Unary.operand d) =
    let at = (starts_operand i.known).at (w ∷ ws) rest x d in
    let none : run_of signs x ≡ 0 = operand_run m signs (w ∷ ws) rest x d in
    met_else _ (is_sign w sign.Bang) (sign_no w sign.Bang ((among_in {q = others (only (code sign.Bang))} operands refl).at (front_of w.what) at))
    (met_else _ (is_sign w sign.Minus) (sign_no w sign.Minus ((among_in {q = others (only (code sign.Minus))} operands refl).at (front_of w.what) at))
    (met_as (operand inner left (w ∷ ws)) (λ fits. (omega (arith, none), fits)) (λ fits. fits.1) (complete_operand_case left inner i (w ∷ ws) x rest d)))
unary_read left inner i run below many go again more (w ∷ ws) x rest (Unary.negated {us = us} {x = y} p d) =
    let e : ◌≡◌ {A = List Terminal} (w ∷ ws) (p.terminal ∷ us) = p.stands in
    let tail = tail_is w p.terminal ws us e in
    met_if _ (is_sign w sign.Bang) (is_it w sign.Bang (says w p.terminal ws us (what.Sign sign.Bang) e p.is))
    (subst (λ vs. Met (prefixed left many again kind.Not w.line vs) (kind.Not (placed_at y us), rest) (FitsRun left run (kind.Not (placed_at y us)))) (sym tail)
    (sign_read left run below many go again kind.Not (record { is = of_not }) w.line us y rest (λ few. more us y rest few d)))
unary_read left inner i run below many go again more (w ∷ ws) x rest (Unary.minus {us = us} {x = y} p d) =
    let e : ◌≡◌ {A = List Terminal} (w ∷ ws) (p.terminal ∷ us) = p.stands in
    let tail = tail_is w p.terminal ws us e in
    let is = says w p.terminal ws us (what.Sign sign.Minus) e p.is in
    met_else _ (is_sign w sign.Bang) (sign_no w sign.Bang (ap (λ z. others (only (code sign.Bang)) (front_of z)) is))
    (met_if _ (is_sign w sign.Minus) (is_it w sign.Minus is)
    (subst (λ vs. Met (prefixed left many again kind.Minus w.line vs) (kind.Minus (placed_at y us), rest) (FitsRun left run (kind.Minus (placed_at y us)))) (sym tail)
    (sign_read left run below many go again kind.Minus (record { is = of_minus }) w.line us y rest (λ few. more us y rest few d))))

last_sign : Going 0 0 true
last_sign = record { small = omega arith; less = λ e. absurd cc; few = λ e. absurd (omega (arith, e)) }

more_signs : (run : ℕ) → suc run ≤ 64 → Going (suc run) run false
more_signs run small = record { small = small; less = λ e. refl; few = λ e. refl }

unary_run : {m : Spelled RawExprKind} (left : ℕ) (inner : Reader RawExprKind) → Inside m left inner → (run : ℕ) → run ≤ 64 → (ts : List Terminal) (x : RawExprKind) (rest : List Terminal) → Unary m ts rest x
    → Met (unary inner left run ts) (x, rest) (FitsRun left run x)
unfolding unary
unary_run left inner i zero small ts x rest d = unary_read left inner i 0 0 true last_sign (λ ws. Err fault.Ended) (λ ts x rest few d. absurd cc) ts x rest d
unary_run left inner i (suc run) small ts x rest d =
    unary_read left inner i (suc run) run false (more_signs run small) (unary inner left run) (λ ts x rest few d. unary_run left inner i run (omega (arith, small)) ts x rest d) ts x rest d

pub complete_unary : {m : Spelled RawExprKind} (left : ℕ) (inner : Reader RawExprKind) → Inside m left inner → (ts : List Terminal) → Complete any (Unary m) (FitsKind left) ts (unary inner left 64 ts)
complete_unary left inner i ts = record {
  at = λ x rest d e.
      met_as (unary inner left 64 ts) (λ fits. fits.1) (λ fits. (signs_small left ts rest x d fits, fits)) (unary_run left inner i 64 (omega arith) ts x rest d);
}

-- ---- products

factor_case : {m : Spelled RawExprKind} → Inner m m → (ts : List Terminal) (x : RawExprKind) (rest : List Terminal) → Unary m ts rest x → others times_sign (front rest) ≡ true → factor_of ts ≡ None
unfolding factor_of
factor_case i [] x rest d e = refl
factor_case i (w ∷ []) x rest d e = refl
factor_case {m = m} i (w ∷ star ∷ ws) x rest d e = go (is_sign star sign.Star) refl
  where
    said : (z : TerminalKind) → w.what ≡ z → is_sign star sign.Star ≡ true → factor_said z ≡ None
    said (what.Name n strategy) is h = refl
    said (what.Sign s) is h = refl
    said (what.Number n) is h =
        let end : rest ≡ star ∷ ws = number_alone i (w ∷ star ∷ ws) (w ∷ star ∷ ws) rest (star ∷ ws) x n d (record { terminal = w; stands = refl; is = is }) refl in
        let on : times_sign (front rest) ≡ true = ap (λ us. times_sign (front us)) end ∙ sym (front_case sign.Star star.what) ∙ h in
        not_both (times_sign (front rest)) on e

    go : (c : Bool) → is_sign star sign.Star ≡ c → (if c then factor_said w.what else None) ≡ None
    go true h = said w.what refl h
    go false h = refl

-- where a number and `*` stand
factor_there : (ts us vs : List Terminal) (n line : ℕ) → ANumber ts us n → The sign.Star us vs line → factor_of ts ≡ Some n
unfolding factor_of
factor_there [] us vs n line d p = let h : ◌≡◌ {A = List Terminal} [] (d.terminal ∷ us) = d.stands in absurd cc
factor_there (w ∷ []) us vs n line d p =
    let h = tail_is w d.terminal [] us d.stands in
    let k : ◌≡◌ {A = List Terminal} [] (p.terminal ∷ vs) = h ∙ p.stands in absurd cc
factor_there (w ∷ star ∷ ws) us vs n line d p =
    let h : ◌≡◌ {A = List Terminal} (star ∷ ws) (p.terminal ∷ vs) = tail_is w d.terminal (star ∷ ws) us d.stands ∙ p.stands in
    go (is_sign star sign.Star) (is_it star sign.Star (says star p.terminal ws vs (what.Sign sign.Star) h p.is)) (ap factor_said (says w d.terminal (star ∷ ws) us (what.Number n) d.stands d.is))
  where
    go : (c : Bool) → c ≡ true → factor_said w.what ≡ Some n → (if c then factor_said w.what else None) ≡ Some n
    go true e f = f
    go false e f = absurd cc

product_case : {m : Spelled RawExprKind} (left : ℕ) (inner : Reader RawExprKind) → Inside m left inner → (ts : List Terminal) (x : RawExprKind) (rest : List Terminal) → Product m ts rest x → others times_sign (front rest) ≡ true
    → Met (product inner left ts) (x, rest) (FitsKind left x)
unfolding product Product
product_case left inner i ts x rest (the_one d) e = subst (λ f. Met (times inner left f ts) (x, rest) (FitsKind left x)) (sym (factor_case i.known ts x rest d e)) ((complete_unary left inner i ts).at x rest d refl)
product_case left inner i ts x rest (the_other d) e =
    subst (λ f. Met (times inner left f ts) (x, rest) (FitsKind left x)) (sym (factor_there ts d.middle d.next.middle d.value d.next.value d.one d.next.one))
    ((complete_part {q = any} {T = FitsKind left} (complete_factor left ts)
    (λ n room. complete_next (complete_the left room sign.Star n.1) λ star.
    complete_part (complete_whole left (complete_unary left inner i) star.1) (λ y fits. complete_yields (single_fits left _ _ (of_times (signed n.0) y.0) fits)) (λ y. shows_yields λ fits. fits_single left _ _ (of_times (signed n.0) y) fits))
    (λ n. shows_then λ star. shows_then λ y. shows_yields λ fits. fits_room fits)).at x rest d refl)

pub complete_product : {m : Spelled RawExprKind} (left : ℕ) (inner : Reader RawExprKind) → Inside m left inner → (ts : List Terminal) → Complete (others times_sign) (Product m) (FitsKind left) ts (product inner left ts)
complete_product left inner i ts = record { at = λ x rest d e. product_case left inner i ts x rest d e }

-- ---- chains

-- the operators of a table and their signs, both ways
record Operators (Op : Spelled Operator) (op : Terminal → Option Operator) (r : Set) : Type 0 where
  table : Table Op op
  starts : Starts Op r
  finds : (ts us : List Terminal) (o : Operator) → Op ts us o → (w : Terminal) × (ts ≡ w ∷ us) × (op w ≡ Some o)

-- no operator of the table stands here
none_here : {Op : Spelled Operator} {op : Terminal → Option Operator} {r : Set} → Operators Op op r → (w : Terminal) (ws : List Terminal) → others r (front (w ∷ ws)) ≡ true → (x : Option Operator) → op w ≡ x → op w ≡ None
none_here k w ws e None is = is
none_here {r = r} k w ws e (Some o) is = not_both (r (front (w ∷ ws))) (k.starts.at (w ∷ ws) ws o (k.table.has w ws o is)) e

whole_bind : {B : Type 0} {x : B × List Terminal} {S T : Type 0} (f : RawExpr × List Terminal → Read B) (r : Read RawExpr) (y : RawExpr) (vs : List Terminal) → Met r (y, vs) S → (T → S) → (S → Met (f (y, vs)) x T)
    → Met (outcome.◌>>=◌ r f) x T
whole_bind {x = x} {T = T} f (Ok v) y vs met back next = subst (λ z. Met (f z) x T) (sym met.is.0) (next met.is.1)
whole_bind f (Err g) y vs met back next = record { is = (met.is.0, λ t. met.is.1 (back t)) }

-- a chain of this kind goes on behind what is held, which fits, and is as long as all operators that have come
chain_case : {q p r : Set} {Op : Spelled Operator} {m : Spelled RawExprKind} (left : ℕ) (s : Run) → Links Op s → (op : Terminal → Option Operator) (item : Reader RawExprKind) → Operators Op op r
    → ((ts : List Terminal) → Complete p m (FitsKind left) ts (item ts)) → In r p → In q p → In q (others r)
    → (start : List Terminal) (count : ℕ) (held : RawExprKind) → FitsKind left held → run_of s held + count ≡ 64 → (ts : List Terminal) (x : RawExprKind) (rest : List Terminal) → Chain Op m start held ts rest x → q (front rest) ≡ true
    → Met (chain op item (first_line start) count held ts) (x, rest) (FitsKind left x)
unfolding chain
chain_case left s links op item k c i j l start count held fits long [] x rest Chain.ends e = gives refl refl fits
chain_case left s links op item k c i j l start zero held fits long (w ∷ ws) x rest Chain.ends e =
    subst (λ z. Met {A = RawExprKind × List Terminal} (if is_some z then Err (fault.Deep w.line) else Ok (held, w ∷ ws)) (held, w ∷ ws) (FitsKind left held)) (sym (none_here k w ws (l.at (front (w ∷ ws)) e) (op w) refl)) (gives refl refl fits)
chain_case left s links op item k c i j l start (suc count) held fits long (w ∷ ws) x rest Chain.ends e =
    subst (λ z. Met {A = RawExprKind × List Terminal} (elim z [
      | None ↦ Ok (held, w ∷ ws)
      | Some o ↦ outcome.◌>>=◌ (whole item ws) (λ x. chain op item (first_line start) count (kind.Two o (placed held (first_line start)) x.0) x.1)
    ]) (held, w ∷ ws) (FitsKind left held))
    (sym (none_here k w ws (l.at (front (w ∷ ws)) e) (op w) refl)) (gives refl refl fits)
chain_case left s links op item k c i j l start count held fits long [] x rest (Chain.goes_on {us = us} {o = o} y d f more_d) e = let h : ◌≡◌ {A = List Terminal} [] ((k.finds [] us o d).0 ∷ us) = (k.finds [] us o d).1 in absurd cc
chain_case left s links op item k c i j l start zero held fits long (w ∷ ws) x rest (Chain.goes_on {us = us} {vs = vs} {o = o} y d f more_d) e =
    let h = k.finds (w ∷ ws) us o d in
    let found : op w ≡ Some o = ap op (head_is w h.0 ws us h.1) ∙ h.2 in
    let full : FitsKind left x → ⊥ = λ whole_fits.
    let small : run_of s held < 64 = linked_small left s links start (w ∷ ws) us o d held y (chain_back left s links start (kind.Two o (placed_at held start) y) vs rest x more_d whole_fits) in
    omega (arith, small, long) in
    subst (λ z. Met {A = RawExprKind × List Terminal} (if is_some z then Err (fault.Deep w.line) else Ok (held, w ∷ ws)) (x, rest) (FitsKind left x)) (sym found) (too_deep full)
chain_case left s links op item k c i j l start (suc count) held fits long (w ∷ ws) x rest (Chain.goes_on {us = us} {vs = vs} {o = o} y d f more_d) e =
    let h = k.finds (w ∷ ws) us o d in
    let found : op w ≡ Some o = ap op (head_is w h.0 ws us h.1) ∙ h.2 in
    let tail = tail_is w h.0 ws us h.1 in
    let more = kind.Two o (placed_at held start) y in
    let one = (complete_whole left c us).at y vs f (follows_chain_case k.starts i j more vs rest x more_d e) in
    let read = subst (λ zs. Met (whole item zs) (y, vs) (FitsExpr left y)) (sym tail) one in
    let longer : run_of s more ≡ suc (run_of s held) = linked_run s links start (w ∷ ws) us o d held y in
    let next : FitsExpr left y → Met (chain op item (first_line start) count more vs) (x, rest) (FitsKind left x) = λ behind.
    chain_case left s links op item k c i j l start count more (linked_fits left s links start (w ∷ ws) us o d held y (omega (arith, long)) fits behind) (omega (arith, long, longer)) vs x rest more_d e in
    subst (λ z. Met {A = RawExprKind × List Terminal} (elim z [
      | None ↦ Ok (held, w ∷ ws)
      | Some o ↦ outcome.◌>>=◌ (whole item ws) (λ x. chain op item (first_line start) count (kind.Two o (placed held (first_line start)) x.0) x.1)
    ]) (x, rest) (FitsKind left x))
    (sym found) (whole_bind _ (whole item ws) y vs read (λ whole_fits. fits_behind left s links start (w ∷ ws) us o d held y (chain_back left s links start more vs rest x more_d whole_fits)) next)

complete_chained : {q p r : Set} {Op : Spelled Operator} {m : Spelled RawExprKind} (left : ℕ) (s : Run) → Links Op s → ((ts rest : List Terminal) (x : RawExprKind) → m ts rest x → run_of s x ≡ 0)
    → (op : Terminal → Option Operator) (item : Reader RawExprKind) → Operators Op op r → ((ts : List Terminal) → Complete p m (FitsKind left) ts (item ts))
    → In r p → In q p → In q (others r) → (ts : List Terminal) → Complete q (Chained Op m) (FitsKind left) ts (chained op item ts)
unfolding Chained
complete_chained {p = p} left s links none op item k c i j l ts = complete_here (complete_spelled p (c ts)
    (λ v spelled fits. record { at = λ x rest d e. chain_case left s links op item k c i j l ts 64 v.0 fits (ap (λ n. n + 64) (none ts v.1 v.0 spelled)) v.1 x rest d e })
    (λ x. record { at = λ us rest y d e. follows_chain_case k.starts i j x us rest y d e })
    (λ x. record { at = λ us rest y d fits. chain_back left s links ts x us rest y d fits }))

-- ---- tables of operators

pub joined_terminal : (s : Sign) (o p : Operator) (ts us : List Terminal) → Joins s o ts us p → (w : Terminal) × (ts ≡ w ∷ us) × (w.what ≡ what.Sign s) × (p ≡ o)
joined_terminal s o p ts us d = (d.one.terminal, d.one.stands ∙ ap (λ (zs : List Terminal). d.one.terminal ∷ zs) d.next.none, d.one.is, d.next.is)

pub sign_yes : (w : Terminal) (s t : Sign) → w.what ≡ what.Sign s → is_same s t ≡ true → is_sign w t ≡ true
sign_yes w s t is e = ap (λ z. says_sign z t) is ∙ e

pub sign_not : (w : Terminal) (s t : Sign) → w.what ≡ what.Sign s → is_same s t ≡ false → is_sign w t ≡ false
sign_not w s t is e = ap (λ z. says_sign z t) is ∙ e

pub if_yes : {A : Type 0} {x : A} (y : A) (c : Bool) → c ≡ true → (if c then x else y) ≡ x
if_yes y true e = refl
if_yes y false e = absurd cc

pub if_no : {A : Type 0} {y : A} (x : A) (c : Bool) → c ≡ false → (if c then x else y) ≡ y
if_no x true e = absurd cc
if_no x false e = refl

or_operators : Operators (Joins sign.Or operator.Or) or_of (only (code sign.Or))
or_operators = record {
  table = or_table;
  starts = (joins_fork {q = any} sign.Or operator.Or).left;
  finds = λ ts us o d.
      let h = joined_terminal sign.Or operator.Or o ts us d in (h.0, h.1, if_yes _ (is_sign h.0 sign.Or) (sign_yes h.0 sign.Or sign.Or h.2 refl) ∙ ap Some (sym h.3));
}

and_operators : Operators (Joins sign.And operator.And) and_of (only (code sign.And))
and_operators = record {
  table = and_table;
  starts = (joins_fork {q = any} sign.And operator.And).left;
  finds = λ ts us o d.
      let h = joined_terminal sign.And operator.And o ts us d in (h.0, h.1, if_yes _ (is_sign h.0 sign.And) (sign_yes h.0 sign.And sign.And h.2 refl) ∙ ap Some (sym h.3));
}

sum_finds : (ts us : List Terminal) (o : Operator) → SumSign ts us o → (w : Terminal) × (ts ≡ w ∷ us) × (sum_of w ≡ Some o)
unfolding sum_of SumSign
sum_finds ts us o (the_one d) = let h = joined_terminal sign.Plus operator.Plus o ts us d in (h.0, h.1, if_yes _ (is_sign h.0 sign.Plus) (sign_yes h.0 sign.Plus sign.Plus h.2 refl) ∙ ap Some (sym h.3))
sum_finds ts us o (the_other d) = let h = joined_terminal sign.Minus operator.Minus o ts us d in
    (h.0, h.1, if_no _ (is_sign h.0 sign.Plus) (sign_not h.0 sign.Minus sign.Plus h.2 refl) ∙ if_yes _ (is_sign h.0 sign.Minus) (sign_yes h.0 sign.Minus sign.Minus h.2 refl) ∙ ap Some (sym h.3))

sum_operators : Operators SumSign sum_of (both (only (code sign.Plus)) (only (code sign.Minus)))
sum_operators = record { table = sum_table; starts = (sum_fork {q = any}).left; finds = sum_finds }

relation_finds : (ts us : List Terminal) (o : Operator) → RelationSign ts us o → (w : Terminal) × (ts ≡ w ∷ us) × (relation_of w ≡ Some o)
unfolding relation_of RelationSign
relation_finds ts us o (the_one d) = let h = joined_terminal sign.Equal operator.Equal o ts us d in (h.0, h.1, if_yes _ (is_sign h.0 sign.Equal) (sign_yes h.0 sign.Equal sign.Equal h.2 refl) ∙ ap Some (sym h.3))
relation_finds ts us o (the_other (the_one d)) = let h = joined_terminal sign.NotEqual operator.NotEqual o ts us d in
    (h.0, h.1, if_no _ (is_sign h.0 sign.Equal) (sign_not h.0 sign.NotEqual sign.Equal h.2 refl) ∙ if_yes _ (is_sign h.0 sign.NotEqual) (sign_yes h.0 sign.NotEqual sign.NotEqual h.2 refl) ∙ ap Some (sym h.3))
relation_finds ts us o (the_other (the_other (the_one d))) = let h = joined_terminal sign.AtMost operator.AtMost o ts us d in (
  h.0,
  h.1,
  if_no _ (is_sign h.0 sign.Equal) (sign_not h.0 sign.AtMost sign.Equal h.2 refl) ∙ if_no _ (is_sign h.0 sign.NotEqual) (sign_not h.0 sign.AtMost sign.NotEqual h.2 refl)
      ∙ if_yes _ (is_sign h.0 sign.AtMost) (sign_yes h.0 sign.AtMost sign.AtMost h.2 refl) ∙ ap Some (sym h.3),
)
relation_finds ts us o (the_other (the_other (the_other d))) = let h = joined_terminal sign.Below operator.Below o ts us d in (
  h.0,
  h.1,
  if_no _ (is_sign h.0 sign.Equal) (sign_not h.0 sign.Below sign.Equal h.2 refl) ∙ if_no _ (is_sign h.0 sign.NotEqual) (sign_not h.0 sign.Below sign.NotEqual h.2 refl)
      ∙ if_no _ (is_sign h.0 sign.AtMost) (sign_not h.0 sign.Below sign.AtMost h.2 refl) ∙ if_yes _ (is_sign h.0 sign.Below) (sign_yes h.0 sign.Below sign.Below h.2 refl) ∙ ap Some (sym h.3),
)

relation_operators : Operators RelationSign relation_of relations
relation_operators = record { table = relation_table; starts = (relation_fork {q = any}).left; finds = relation_finds }

-- ---- the levels

complete_sum : {m : Spelled RawExprKind} (left : ℕ) (inner : Reader RawExprKind) → Inside m left inner → (ts : List Terminal) → Complete (others sum_signs) (Sum m) (FitsKind left) ts (sums inner left ts)
unfolding sums Sum
complete_sum {m = m} left inner i ts =
    complete_chained left shallow.sums sum_links (product_run m shallow.sums (λ n. refl)) sum_of (product inner left) sum_operators (complete_product left inner i) (both_in (only_in _ refl) (only_in _ refl)) (others_in _ _) (others_first _ _) ts

abbrev Related : Spelled RawExprKind → RawExprKind → List Terminal → Spelled RawExprKind
Related m held start = Either (Yields held) (RelationSign >>= λ o. Whole (Sum m) >>= λ y. Yields (kind.Two o (placed_at held start) y))

-- a relation fits where both sides do
relation_fits : (left : ℕ) (start ts us : List Terminal) (o : Operator) → RelationSign ts us o → (held : RawExprKind) (y : RawExpr) → FitsKind left held → FitsExpr left y → FitsKind left (kind.Two o (placed_at held start) y)
relation_fits left start ts us o d held y f g =
    let a = placed_at held start in single_fits left _ _ (relation_two ts us o d a y) (fits_both left (expr_depth a) (expr_depth y) (fits_placed left held _ f) g)

fits_side : (left : ℕ) (start ts us : List Terminal) (o : Operator) → RelationSign ts us o → (held : RawExprKind) (y : RawExpr) → FitsKind left (kind.Two o (placed_at held start) y) → FitsKind left held
fits_side left start ts us o d held y f =
    let a = placed_at held start in placed_fits left held _ (both_first left (expr_depth a) (expr_depth y) (fits_single left _ _ (relation_two ts us o d a y) f))

fits_other_side : (left : ℕ) (start ts us : List Terminal) (o : Operator) → RelationSign ts us o → (held : RawExprKind) (y : RawExpr) → FitsKind left (kind.Two o (placed_at held start) y) → FitsExpr left y
fits_other_side left start ts us o d held y f = let a = placed_at held start in both_second left (expr_depth a) (expr_depth y) (fits_single left _ _ (relation_two ts us o d a y) f)

related_back : (m : Spelled RawExprKind) (left : ℕ) (start : List Terminal) (held : RawExprKind) (us rest : List Terminal) (x : RawExprKind) → Related m held start us rest x → FitsKind left x → FitsKind left held
related_back m left start held us rest x (the_one d) fits = subst (FitsKind left) d.is fits
related_back m left start held us rest x (the_other d) fits = fits_side left start us d.middle d.value d.one held d.next.value (subst (FitsKind left) d.next.next.is fits)

related_case : {m : Spelled RawExprKind} (left : ℕ) (inner : Reader RawExprKind) → Inside m left inner → (start : List Terminal) (held : RawExprKind) → FitsKind left held → (us : List Terminal) (x : RawExprKind) (rest : List Terminal)
    → Related m held start us rest x → others relation_signs (front rest) ≡ true → Met (related (sums inner left) (first_line start) held us) (x, rest) (FitsKind left x)
related_case left inner i start held fits [] x rest (the_one d) e = gives (sym d.is) d.none (subst (FitsKind left) (sym d.is) fits)
related_case left inner i start held fits (w ∷ ws) x rest (the_one d) e =
    let free = subst (λ zs. others relation_signs (front zs) ≡ true) (sym d.none) e in
    subst (λ z. Met {A = RawExprKind × List Terminal} (elim z [ None ↦ Ok (held, w ∷ ws) | Some o ↦ outcome.◌>>=◌ (whole (sums inner left) ws) (λ x. Ok (kind.Two o (placed held (first_line start)) x.0, x.1)) ]) (x, rest) (FitsKind left x))
    (sym (none_here relation_operators w ws ((others_first relations sum_signs).at (front (w ∷ ws)) free) (relation_of w) refl)) (gives (sym d.is) d.none (subst (FitsKind left) (sym d.is) fits))
related_case left inner i start held fits [] x rest (the_other d) e =
    let h = relation_operators.finds [] d.middle d.value d.one in let k : ◌≡◌ {A = List Terminal} [] (h.0 ∷ d.middle) = h.1 in absurd cc
related_case left inner i start held fits (w ∷ ws) x rest (the_other d) e =
    let h = relation_operators.finds (w ∷ ws) d.middle d.value d.one in
    let found : relation_of w ≡ Some d.value = ap relation_of (head_is w h.0 ws d.middle h.1) ∙ h.2 in
    let tail = tail_is w h.0 ws d.middle h.1 in
    let end = subst (λ zs. others relation_signs (front zs) ≡ true) (sym d.next.next.none) e in
    let one = (complete_whole left (complete_sum left inner i) d.middle).at d.next.value d.next.middle d.next.one ((others_in relations sum_signs).at (front d.next.middle) end) in
    let read = subst (λ zs. Met (whole (sums inner left) zs) (d.next.value, d.next.middle) (FitsExpr left d.next.value)) (sym tail) one in
    subst (λ z. Met {A = RawExprKind × List Terminal} (elim z [ None ↦ Ok (held, w ∷ ws) | Some o ↦ outcome.◌>>=◌ (whole (sums inner left) ws) (λ x. Ok (kind.Two o (placed held (first_line start)) x.0, x.1)) ]) (x, rest) (FitsKind left x))
    (sym found) (whole_bind _ (whole (sums inner left) ws) d.next.value d.next.middle read
    (λ all. fits_other_side left start (w ∷ ws) d.middle d.value d.one held d.next.value (subst (FitsKind left) d.next.next.is all))
    (λ side. gives (sym d.next.next.is) d.next.next.none (subst (FitsKind left) (sym d.next.next.is) (relation_fits left start (w ∷ ws) d.middle d.value d.one held d.next.value fits side))))

complete_relation : {m : Spelled RawExprKind} (left : ℕ) (inner : Reader RawExprKind) → Inside m left inner → (ts : List Terminal) → Complete (others relation_signs) (Relation m) (FitsKind left) ts (relation inner left ts)
unfolding relation Relation
complete_relation {m = m} left inner i ts = complete_here (complete_then (others sum_signs) (complete_sum left inner i ts)
    (λ v fits. record { at = λ x rest d e. related_case left inner i ts v.0 fits v.1 x rest d e })
    (λ x. follows_or (follows_yields (others_in _ _)) (follows_starts (starts_then relation_operators.starts) (relations_in refl refl refl refl)))
    (λ x. record { at = λ us rest y d fits. related_back m left ts x us rest y d fits }))

complete_and : {m : Spelled RawExprKind} (left : ℕ) (inner : Reader RawExprKind) → Inside m left inner → (ts : List Terminal) → Complete (others and_signs) (And m) (FitsKind left) ts (ands inner left ts)
unfolding ands And
complete_and {m = m} left inner i ts =
    complete_chained left shallow.ands and_links (relation_run m shallow.ands (λ n. refl) (λ n. refl)) and_of (relation inner left) and_operators (complete_relation left inner i) (only_in _ refl) (others_in _ _) (others_first _ _) ts

complete_or : {m : Spelled RawExprKind} (left : ℕ) (inner : Reader RawExprKind) → Inside m left inner → (ts : List Terminal) → Complete (others or_signs) (Or m) (FitsKind left) ts (ors inner left ts)
unfolding ors Or
complete_or {m = m} left inner i ts =
    complete_chained left shallow.ors or_links (and_run m shallow.ors (λ n. refl) (λ n. refl) (λ n. refl)) or_of (ands inner left) or_operators (complete_and left inner i) (only_in _ refl) (others_in _ _) (others_first _ _) ts

-- where the first side was read
side_read : {x : RawExprKind × List Terminal} {S T : Type 0} (f : RawExprKind × List Terminal → Read RawExprKind) (r : Read RawExprKind) (y : RawExprKind) (us : List Terminal) → Met r (y, us) S → (T → S) → (S → Met (f (y, us)) x T)
    → Met (outcome.◌>>=◌ r f) x T
side_read {x = x} {T = T} f (Ok v) y us met back next = subst (λ z. Met (f z) x T) (sym met.is.0) (next met.is.1)
side_read f (Err g) y us met back next = record { is = (met.is.0, λ t. met.is.1 (back t)) }

implied_ends : {S : Type 0} (many : Bool) (right : Reader RawExprKind) (line : ℕ) (held : RawExprKind) (rest : List Terminal) → others operators (front rest) ≡ true → S → Met (implied many right line held rest) (held, rest) S
implied_ends many right line held [] e s = gives refl refl s
implied_ends many right line held (w ∷ ws) e s = met_else _ (is_sign w sign.Implies) (sign_no w sign.Implies ((others_first (only (code sign.Implies)) or_signs).at (front (w ∷ ws)) e)) (gives refl refl s)

-- S holds of what follows exactly where T holds of the whole, unless it is one `==>` too many
implied_goes : {S T : Type 0} (many : Bool) (right : Reader RawExprKind) (start : List Terminal) (held : RawExprKind) (us vs : List Terminal) (line : ℕ) (y : RawExprKind) (rest : List Terminal) → The sign.Implies us vs line
    → (T → many ≡ false) → (many ≡ false → S → T) → (many ≡ false → T → S) → (many ≡ false → Met (right vs) (y, rest) S)
    → Met (implied many right (first_line start) held us) (kind.Two operator.Implies (placed_at held start) (placed_at y vs), rest) T
implied_goes many right start held [] vs line y rest p few to from met = let k : ◌≡◌ {A = List Terminal} [] (p.terminal ∷ vs) = p.stands in absurd cc
implied_goes {S = S} {T = T} many right start held (w ∷ ws) vs line y rest p few to from met =
    let e : ◌≡◌ {A = List Terminal} (w ∷ ws) (p.terminal ∷ vs) = p.stands in
    met_if _ (is_sign w sign.Implies) (is_it w sign.Implies (says w p.terminal ws vs (what.Sign sign.Implies) e p.is)) (go many few to from met (tail_is w p.terminal ws vs e))
  where
    read : (S → T) → (T → S) → (zs : List Terminal) → zs ≡ vs → (r : Read RawExprKind) → Met r (y, rest) S
        → Met {A = RawExprKind × List Terminal} (outcome.◌>>=◌ {A = RawExpr × List Terminal} (outcome.◌>>=◌ r (λ x. Ok (placed x.0 (first_line zs), x.1))) (λ x. Ok (kind.Two operator.Implies (placed held (first_line start)) x.0, x.1)))
        (kind.Two operator.Implies (placed_at held start) (placed_at y vs), rest) T
    read to from zs same (Ok v) h = gives (λ k. kind.Two operator.Implies (placed held (first_line start)) (placed (h.is.0 k).0 (first_line (same k)))) (ap (λ z. z.1) h.is.0) (to h.is.1)
    read to from zs same (Err f) h = record { is = (h.is.0, λ t. h.is.1 (from t)) }

    go : (many : Bool) → (T → many ≡ false) → (many ≡ false → S → T) → (many ≡ false → T → S) → (many ≡ false → Met (right vs) (y, rest) S) → ws ≡ vs
        → Met {A = RawExprKind × List Terminal} (if many then Err (fault.Deep w.line) else outcome.◌>>=◌ (whole right ws) (λ x. Ok (kind.Two operator.Implies (placed held (first_line start)) x.0, x.1)))
        (kind.Two operator.Implies (placed_at held start) (placed_at y vs), rest) T
    go true few to from met same = too_deep (λ t. let k : true ≡ false = few t in absurd cc)
    go false few to from met same = read (to refl) (from refl) ws same (right ws) (subst (λ zs. Met (right zs) (y, rest) S) (sym same) (met refl))

-- what fits a place with so many `==>` left
abbrev FitsImplied : ℕ → ℕ → RawExprKind → Type 0
FitsImplied left run x = (run_of implications x ≤ run) × FitsKind left x

implication_run : (z y : RawExprKind) (line other : ℕ) → run_of implications (kind.Two operator.Implies (placed z line) (placed y other)) ≡ suc (run_of implications y)
implication_run z y line other = own_run implications _ _ _ (of_implies (placed z line) (placed y other)) ∙ ap suc (run_placed implications y other)

implies_fits : (left run below : ℕ) (z y : RawExprKind) (line other : ℕ) → run ≤ 64 → run ≡ suc below → FitsKind left z → FitsImplied left below y → FitsImplied left run (kind.Two operator.Implies (placed z line) (placed y other))
implies_fits left run below z y line other small is f fits =
    let few : run_of implications y ≤ below = fits.0 in
    let e = implication_run z y line other in
    let own : (extent (placed y other)).run implications ≡ run_of implications y = run_placed implications y other in (
      omega (arith, few, e, is),
      fits_longer left implications _ _ _ (of_implies (placed z line) (placed y other)) (omega (arith, few, own, is, small))
          (fits_both left (expr_depth (placed z line)) (expr_depth (placed y other)) (fits_placed left z line f) (fits_placed left y other fits.1)),
    )

fits_first_side : (left : ℕ) (z y : RawExprKind) (line other : ℕ) → FitsKind left (kind.Two operator.Implies (placed z line) (placed y other)) → FitsKind left z
fits_first_side left z y line other f =
    placed_fits left z line (both_first left (expr_depth (placed z line)) (expr_depth (placed y other)) (longer_fits left implications _ _ _ (of_implies (placed z line) (placed y other)) f))

fits_implied : (left run below : ℕ) (z y : RawExprKind) (line other : ℕ) → run ≡ suc below → FitsImplied left run (kind.Two operator.Implies (placed z line) (placed y other)) → FitsImplied left below y
fits_implied left run below z y line other is fits =
    let few : run_of implications (kind.Two operator.Implies (placed z line) (placed y other)) ≤ run = fits.0 in
    let e = implication_run z y line other in (
      omega (arith, few, e, is),
      placed_fits left y other (both_second left (expr_depth (placed z line)) (expr_depth (placed y other)) (longer_fits left implications _ _ _ (of_implies (placed z line) (placed y other)) fits.1)),
    )

implies_read : {m : Spelled RawExprKind} (left : ℕ) (inner : Reader RawExprKind) → Inside m left inner → (run below : ℕ) (many : Bool) → Going run below many → (right : Reader RawExprKind)
    → ((ts : List Terminal) (x : RawExprKind) (rest : List Terminal) → many ≡ false → Implied m ts rest x → others operators (front rest) ≡ true → Met (right ts) (x, rest) (FitsImplied left below x))
    → (ts : List Terminal) (x : RawExprKind) (rest : List Terminal) → Implied m ts rest x → others operators (front rest) ≡ true
    → Met (outcome.◌>>=◌ (ors inner left ts) (λ x. implied many right (first_line ts) x.0 x.1)) (x, rest) (FitsImplied left run x)
implies_read {m = m} left inner i run below many go right again ts x rest (Implied.plain d) e =
    let none : run_of implications x ≡ 0 = or_run m ts rest x d in
    side_read _ (ors inner left ts) x rest ((complete_or left inner i ts).at x rest d (no_operator rest e)) (λ fits. fits.1)
    (λ fits. implied_ends many right (first_line ts) x rest e (omega (arith, none), fits))
implies_read left inner i run below many go right again ts x rest (Implied.implies {vs = vs} {y = y} z us line d p f) e =
    side_read _ (ors inner left ts) z us ((complete_or left inner i ts).at z us d (implies_follows us vs line p)) (λ fits. fits_first_side left z y (first_line ts) (first_line vs) fits.1)
    (λ first. implied_goes many right ts z us vs line y rest p few (λ free fits. implies_fits left run below z y (first_line ts) (first_line vs) go.small (go.less free) first fits)
    (λ free fits. fits_implied left run below z y (first_line ts) (first_line vs) (go.less free) fits) (λ few. again vs y rest few f e))
  where
    few : FitsImplied left run (kind.Two operator.Implies (placed_at z ts) (placed_at y vs)) → many ≡ false
    few fits =
        let most : run_of implications (kind.Two operator.Implies (placed_at z ts) (placed_at y vs)) ≤ run = fits.0 in
        let e = implication_run z y (first_line ts) (first_line vs) in
        go.few (omega (arith, most, e))

implies_run : {m : Spelled RawExprKind} (left : ℕ) (inner : Reader RawExprKind) → Inside m left inner → (run : ℕ) → run ≤ 64 → (ts : List Terminal) (x : RawExprKind) (rest : List Terminal) → Implied m ts rest x → others operators (front rest) ≡ true
    → Met (implies inner left run ts) (x, rest) (FitsImplied left run x)
unfolding implies
implies_run left inner i zero small ts x rest d e = implies_read left inner i 0 0 true last_sign (λ ws. Err fault.Ended) (λ ts x rest few d e. absurd cc) ts x rest d e
implies_run left inner i (suc run) small ts x rest d e =
    implies_read left inner i (suc run) run false (more_signs run small) (implies inner left run) (λ ts x rest few d e. implies_run left inner i run (omega (arith, small)) ts x rest d e) ts x rest d e

implied_read : {m : Spelled RawExprKind} (left : ℕ) (inner : Reader RawExprKind) → Inside m left inner → (ts : List Terminal) (x : RawExprKind) (rest : List Terminal) → Implied m ts rest x → others operators (front rest) ≡ true
    → Met (implies inner left 64 ts) (x, rest) (FitsKind left x)
implied_read left inner i ts x rest d e =
    met_as (implies inner left 64 ts) (λ fits. fits.1) (λ fits. (implications_small left ts rest x d fits, fits)) (implies_run left inner i 64 (omega arith) ts x rest d e)

-- ---- expressions

shrinks_nested : (depth : ℕ) → Shrinks (Nested depth)
shrinks_nested depth = record { at = λ ts rest x d. ((silent_nested depth).at ts rest x d).shorter }

-- what stands in brackets, whatever the depth of its own brackets is
nested_inside : (left depth : ℕ) → Inside (Nested depth) left (inside left)
unfolding inside Nested
nested_inside zero depth = record { known = nested_inner depth depth; shrinks = shrinks_nested depth; complete = λ room. absurd (omega (arith, room)) }
nested_inside (suc below) zero = record { known = nested_inner zero zero; shrinks = shrinks_nested zero; complete = λ room ts. record { at = λ x rest d e. absurd d } }
nested_inside (suc below) (suc depth) = record {
  known = nested_inner (suc depth) (suc depth);
  shrinks = shrinks_nested (suc depth);
  complete = λ room ts. record {
    at = λ x rest d e.
        let less : below ≡ suc below - 1 = omega arith in
        subst (λ n. Met (implies (inside below) below 64 ts) (x, rest) (FitsKind n x)) less (implied_read below (inside below) (nested_inside below depth) ts x rest d e);
  };
}

outer_read : (left : ℕ) (ts : List Terminal) (x : RawExprKind) (rest : List Terminal) (depth : ℕ) → Nested depth ts rest x → others operators (front rest) ≡ true → Met (implies (inside left) left 64 ts) (x, rest) (FitsKind left x)
unfolding Nested
outer_read left ts x rest zero d e = absurd d
outer_read left ts x rest (suc depth) d e = implied_read left (inside left) (nested_inside left depth) ts x rest d e

pub complete_expr : (left : ℕ) (ts : List Terminal) → Complete (others operators) AnExpr (FitsExpr left) ts (expr_at left ts)
unfolding expr_at AnExpr
complete_expr left ts = complete_whole left (λ us. record { at = λ x rest d e. outer_read left us x rest d.0 d.1 e }) ts

pub shrinks_expr : Shrinks AnExpr
shrinks_expr = record { at = λ ts rest x d. (silent_expr.at ts rest x d).shorter }

deep_read : (left : ℕ) → 0 < left → (ts : List Terminal) → Complete (others operators) (λ us rest x. (depth : ℕ) × Nested depth us rest x) (FitsKind (left - 1)) ts (inside left ts)
deep_read left room ts = record { at = λ x rest d e. ((nested_inside left d.0).complete room ts).at x rest d.1 e }

shrinks_deep : Shrinks (Whole (λ us rest x. (depth : ℕ) × Nested depth us rest x))
shrinks_deep = shrinks_whole (record { at = λ ts rest x d. (shrinks_nested d.0).at ts rest x d.1 })

starts_deep : Starts (Whole (λ us rest x. (depth : ℕ) × Nested depth us rest x)) begins
starts_deep = starts_whole (record { at = λ ts rest x d. (starts_nested d.0).at ts rest x d.1 })

pub complete_args : {q : Set} (left : ℕ) (ts : List Terminal) → Complete q Args (Round left (FitsExpr (left - 1))) ts (exprs_at left ts)
unfolding Args AnExpr
complete_args left ts = complete_round left (whole (inside left))
    (λ room. record { complete = complete_whole (left - 1) (deep_read left room); shrinks = shrinks_deep; comma = refl; end = only_in _ refl; apart = only_in _ refl })
    starts_deep (among_in {q = others (only (code sign.CloseRound))} (code sign.Bang ∷ code sign.Minus ∷ operands) refl) ts
