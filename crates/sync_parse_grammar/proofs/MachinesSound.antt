-- What is read as a machine, as proofs and as a whole text is spelled.
use Rattle.std.proofs.Common.{◌≡◌, ℕ, ◌-◌, ◌==◌, Bool, true, false, List, [], ◌∷◌, length, Result, Ok, Err, Some, None, if◌then◌else◌, refl, sym, ap, ◌∙◌}
use Rattle.sync_base.specs.Outcome as outcome
use Rattle.sync_base.specs.declared.stops.Refusal.{Refusal}
use Rattle.sync_base.specs.declared.strategies.OpMode.TheVariants as mode
use Rattle.sync_lex.specs.declared.signs.Sign.{Sign}
use Rattle.sync_lex.specs.declared.signs.Sign.TheVariants as sign
use Rattle.sync_lex.specs.declared.terminals.Terminal.{Terminal}
use Rattle.sync_lex.specs.declared.terminals.Terminals.{Terminals}
use Rattle.sync_lex.specs.Terminals.{is_sign, terminals_in}
use Rattle.sync_parse_exprs.specs.declared.faults.Fault.{Fault}
use Rattle.sync_parse_exprs.specs.declared.faults.Fault.TheVariants as fault
use Rattle.sync_parse_exprs.specs.declared.raw_names.RawName.{RawName}
use Rattle.sync_parse_exprs.specs.declared.expressions.RawExpr.{RawExpr}
use Rattle.sync_parse.specs.declared.trees.RawText.{RawText}
use Rattle.sync_parse.specs.declared.trees.RawMachine.{RawMachine}
use Rattle.sync_parse.specs.declared.trees.RawProof.{RawProof}
use Rattle.sync_parse.specs.declared.trees.RawAct.{RawAct}
use Rattle.sync_parse.specs.declared.trees.RawAct.TheVariants as act
use Rattle.sync_parse.specs.declared.trees.RawPlace.{RawPlace}
use Rattle.sync_parse.specs.declared.trees.RawPlace.TheVariants as place
use Rattle.sync_parse_exprs.specs.Terminals.{Read, begins_with, goes_on}
use Rattle.sync_parse.specs.Faults.{refused}
use Rattle.sync_parse.specs.Machines.{pattern_at, keyed, place_at, closed_expr, closed_place, formula_act, value_act, field_place, place_act, have_act, act_kind, act_at, acts, field_at, fields, mode_of, mode_said, mode_at, operation_at, begins_operation, operations, invariant_at, invariants, machine_at, claim_at, proof_at, proof_row, proofs_at, version_at, at_end, text_of, parsed}
use Rattle.sync_parse_forms.specs.Relations.{Spelled, The, Yields, Then, ◌>>=◌, ◌>>◌, Either, Closed}
use Rattle.sync_parse_grammar.specs.Expressions.{AnExpr}
use Rattle.sync_parse_grammar.specs.Machines.{Pattern, Place, FormulaAct, ValueAct, FieldPlace, PlaceAct, HaveAct, ActKind, Act, Field, Mode, Operation, Invariant, Machine, Claim, Proof, Proofs}
use Rattle.sync_parse_grammar.specs.Texts.{Version, Text, Spells}
use Rattle.sync_parse_forms.proofs.Sounds.{Sound, ok_is, stops, yields, then_sound, began, here, first, second, either, is_the, the_sign, sign_sound, name_sound, number_sound, strategy_sound, row_sound, names_sound}
use Rattle.sync_parse_grammar.proofs.ExpressionsSound.{expr_sound}
use Rattle.sync_parse_grammar.proofs.ScriptsSound.{refuse_sound, script_sound}

-- ---- statements

pub pattern_sound : (left : ℕ) (ts : List Terminal) → Sound Pattern ts (pattern_at left ts)
unfolding pattern_at Pattern
pattern_sound left ts =
    either (begins_with sign.Question ts) (first (then_sound (sign_sound left sign.Question ts) λ q. then_sound (name_sound left q.1) λ n. yields))
    (second (then_sound (expr_sound left ts) λ e. yields))

keyed_sound : (left : ℕ) (key : RawExpr) (ts : List Terminal) → Sound (Either (Yields (place.Key key)) (do
  The sign.MapsTo
  p ← Pattern
  Yields (place.Entry key p))) ts (keyed left key ts)
unfolding keyed
keyed_sound left key ts =
    either (begins_with sign.MapsTo ts) (second (then_sound (sign_sound left sign.MapsTo ts) λ m. then_sound (pattern_sound left m.1) λ p. yields)) (first yields)

pub place_sound : (left : ℕ) (ts : List Terminal) → Sound Place ts (place_at left ts)
unfolding place_at Place
place_sound left ts = either (begins_with sign.OpenRound ts)
    (first (then_sound (sign_sound left sign.OpenRound ts) λ o. then_sound (pattern_sound (left - 1) o.1) λ p. then_sound (sign_sound (left - 1) sign.CloseRound p.1) λ e. yields))
    (second (then_sound (sign_sound left sign.OpenSquare ts) λ o.
    then_sound (expr_sound (left - 1) o.1) λ k.
    then_sound (keyed_sound (left - 1) k.0 k.1) λ p.
    then_sound (sign_sound (left - 1) sign.CloseSquare p.1) λ e. yields))

pub closed_expr_sound : (left : ℕ) (ts : List Terminal) → Sound (Closed AnExpr) ts (closed_expr left ts)
unfolding closed_expr Closed
closed_expr_sound left ts = then_sound (expr_sound left ts) λ e. then_sound (sign_sound left sign.Semicolon e.1) λ s. yields

pub closed_place_sound : (left : ℕ) (ts : List Terminal) → Sound (Closed Place) ts (closed_place left ts)
unfolding closed_place Closed
closed_place_sound left ts = then_sound (place_sound left ts) λ p. then_sound (sign_sound left sign.Semicolon p.1) λ s. yields

pub formula_act_sound : (opening : Sign) (made : RawExpr → RawAct) (left : ℕ) (ts : List Terminal) → Sound (FormulaAct opening made) ts (formula_act opening made left ts)
unfolding formula_act FormulaAct
formula_act_sound opening made left ts = then_sound (sign_sound left opening ts) λ w. then_sound (closed_expr_sound left w.1) λ e. yields

pub value_act_sound : (opening : Sign) (made : RawName → RawExpr → RawAct) (left : ℕ) (ts : List Terminal) → Sound (ValueAct opening made) ts (value_act opening made left ts)
unfolding value_act ValueAct
value_act_sound opening made left ts =
    then_sound (sign_sound left opening ts) λ w.
    then_sound (name_sound left w.1) λ n.
    then_sound (sign_sound left sign.Equal n.1) λ q.
    then_sound (closed_expr_sound left q.1) λ e. yields

pub field_place_sound : (opening symbol : Sign) (left : ℕ) (ts : List Terminal) → Sound (FieldPlace opening symbol) ts (field_place opening symbol left ts)
unfolding field_place FieldPlace
field_place_sound opening symbol left ts =
    then_sound (sign_sound left opening ts) λ w.
    then_sound (name_sound left w.1) λ n.
    then_sound (sign_sound left symbol n.1) λ q.
    then_sound (closed_place_sound left q.1) λ p. yields

pub place_act_sound : (opening symbol : Sign) (made : RawName → RawPlace → RawAct) (left : ℕ) (ts : List Terminal) → Sound (PlaceAct opening symbol made) ts (place_act opening symbol made left ts)
unfolding place_act PlaceAct
place_act_sound opening symbol made left ts = then_sound (field_place_sound opening symbol left ts) λ x. yields

pub have_act_sound : (left : ℕ) (ts : List Terminal) → Sound HaveAct ts (have_act left ts)
unfolding have_act HaveAct
have_act_sound left ts =
    then_sound (sign_sound left sign.Have ts) λ w.
    then_sound (name_sound left w.1) λ n.
    either (begins_with sign.Semicolon n.1) (first (then_sound (sign_sound left sign.Semicolon n.1) λ s. yields))
    (second (then_sound (sign_sound left sign.AtLeast n.1) λ q. then_sound (closed_place_sound left q.1) λ p. yields))

pub act_kind_sound : (left : ℕ) (ts : List Terminal) → Sound ActKind ts (act_kind left ts)
unfolding act_kind ActKind
act_kind_sound left ts =
    either (begins_with sign.Init ts) (first (value_act_sound sign.Init act.Init left ts))
    (either (begins_with sign.Require ts) (second (first (formula_act_sound sign.Require act.Require left ts)))
    (either (begins_with sign.Assert ts) (second (second (first (formula_act_sound sign.Assert act.Assert left ts))))
    (either (begins_with sign.Update ts) (second (second (second (first (value_act_sound sign.Update act.Update left ts)))))
    (either (begins_with sign.Have ts) (second (second (second (second (first (have_act_sound left ts))))))
    (either (begins_with sign.Guard ts) (second (second (second (second (second (first (place_act_sound sign.Guard sign.AtLeast act.Guard left ts)))))))
    (either (begins_with sign.Add ts) (second (second (second (second (second (second (first (place_act_sound sign.Add sign.PlusEqual act.Add left ts))))))))
    (either (begins_with sign.Deposit ts) (second (second (second (second (second (second (second (first (place_act_sound sign.Deposit sign.PlusEqual act.Deposit left ts)))))))))
    (either (begins_with sign.Remove ts) (second (second (second (second (second (second (second (second (first (place_act_sound sign.Remove sign.MinusEqual act.Remove left ts))))))))))
    (either (begins_with sign.Withdraw ts) (second (second (second (second (second (second (second (second (second (place_act_sound sign.Withdraw sign.MinusEqual act.Withdraw left ts)))))))))) (refuse_sound ts))))))))))

pub act_sound : (left : ℕ) (ts : List Terminal) → Sound Act ts (act_at left ts)
unfolding act_at Act
act_sound left ts = here (then_sound (act_kind_sound left ts) λ x. yields)

-- ---- machines

pub field_sound : (left : ℕ) (ts : List Terminal) → Sound Field ts (field_at left ts)
unfolding field_at Field
field_sound left ts =
    then_sound (sign_sound left sign.Field ts) λ f.
    then_sound (name_sound left f.1) λ n.
    then_sound (sign_sound left sign.Colon n.1) λ c.
    then_sound (strategy_sound left c.1) λ s.
    then_sound (sign_sound left sign.Semicolon s.1) λ e. yields

mode_case : (left : ℕ) (w : Terminal) (ws : List Terminal) → Sound Mode (w ∷ ws) (mode_said left w ws (mode_of w))
unfolding mode_of Mode
mode_case left w ws = go (is_sign w sign.Init) refl (is_sign w sign.Transition) refl (is_sign w sign.Property) refl
  where
    go : (a : Bool) → is_sign w sign.Init ≡ a → (b : Bool) → is_sign w sign.Transition ≡ b → (c : Bool) → is_sign w sign.Property ≡ c
        → Sound Mode (w ∷ ws) (mode_said left w ws (if a then Some mode.Init else if b then Some mode.Transition else if c then Some mode.Property else None))
    go true e b f c g = either (left == 0) stops (first (began _ _ (the_sign w ws sign.Init (is_the w sign.Init e)) yields))
    go false e true f c g = either (left == 0) stops (second (first (began _ _ (the_sign w ws sign.Transition (is_the w sign.Transition f)) yields)))
    go false e false f true g = either (left == 0) stops (second (second (began _ _ (the_sign w ws sign.Property (is_the w sign.Property g)) yields)))
    go false e false f false g = stops

pub mode_sound : (left : ℕ) (ts : List Terminal) → Sound Mode ts (mode_at left ts)
unfolding mode_at
mode_sound left [] = stops
mode_sound left (w ∷ ws) = mode_case left w ws

pub operation_sound : (left : ℕ) (ts : List Terminal) → Sound Operation ts (operation_at left ts)
unfolding operation_at Operation acts
operation_sound left ts = here (
    then_sound (mode_sound left ts) λ m.
    then_sound (name_sound left m.1) λ n.
    then_sound (names_sound left n.1) λ ps.
    then_sound (sign_sound left sign.OpenBrace ps.1) λ o.
    then_sound (row_sound goes_on _ (act_sound (left - 1)) (length o.1) o.1) λ xs.
    then_sound (sign_sound (left - 1) sign.CloseBrace xs.1) λ e. yields)

pub invariant_sound : (left : ℕ) (ts : List Terminal) → Sound Invariant ts (invariant_at left ts)
unfolding invariant_at Invariant
invariant_sound left ts =
    then_sound (sign_sound left sign.Invariant ts) λ i.
    then_sound (name_sound left i.1) λ n.
    then_sound (names_sound left n.1) λ ps.
    then_sound (sign_sound left sign.Colon ps.1) λ c.
    then_sound (closed_expr_sound left c.1) λ e. yields

pub machine_sound : (left : ℕ) (ts : List Terminal) → Sound Machine ts (machine_at left ts)
unfolding machine_at Machine fields operations invariants
machine_sound left ts =
    then_sound (sign_sound left sign.Machine ts) λ m.
    then_sound (name_sound left m.1) λ n.
    then_sound (sign_sound left sign.OpenBrace n.1) λ o.
    then_sound (row_sound (begins_with sign.Field) _ (field_sound (left - 1)) (length o.1) o.1) λ fs.
    then_sound (row_sound begins_operation _ (operation_sound (left - 1)) (length fs.1) fs.1) λ ops.
    then_sound (row_sound (begins_with sign.Invariant) _ (invariant_sound (left - 1)) (length ops.1) ops.1) λ is.
    then_sound (sign_sound (left - 1) sign.CloseBrace is.1) λ e. yields

-- ---- proofs

pub claim_sound : (left : ℕ) (ts : List Terminal) → Sound Claim ts (claim_at left ts)
unfolding claim_at Claim
claim_sound left ts =
    either (begins_with sign.At ts) (first (then_sound (sign_sound left sign.At ts) λ a. then_sound (number_sound left a.1) λ n. yields))
    (second (then_sound (sign_sound left sign.Keeps ts) λ k. then_sound (name_sound left k.1) λ n. yields))

pub proof_sound : (left : ℕ) (ts : List Terminal) → Sound Proof ts (proof_at left ts)
unfolding proof_at Proof
proof_sound left ts = then_sound (name_sound left ts) λ n. then_sound (claim_sound left n.1) λ c. then_sound (script_sound left c.1) λ s. yields

pub proofs_sound : (left : ℕ) (ts : List Terminal) → Sound Proofs ts (proofs_at left ts)
unfolding proofs_at Proofs proof_row
proofs_sound left ts = either (begins_with sign.Proofs ts)
    (second (then_sound (sign_sound left sign.Proofs ts) λ p.
    then_sound (sign_sound left sign.OpenBrace p.1) λ o.
    then_sound (row_sound goes_on _ (proof_sound (left - 1)) (length o.1) o.1) λ xs.
    then_sound (sign_sound (left - 1) sign.CloseBrace xs.1) λ e. yields))
    (first yields)

-- ---- texts

pub version_sound : (left : ℕ) (ts : List Terminal) → Sound Version ts (version_at left ts)
unfolding version_at Version
version_sound left ts = then_sound (sign_sound left sign.Version ts) λ v. then_sound (number_sound left v.1) λ n. either (n.0 == 1) yields stops

-- what is read here to the end of the terminals is spelled by all of them
pub record Whole {A : Type 0} (m : Spelled A) (ts : List Terminal) (r : Result A Fault) : Type 0 where
  pub holds : (x : A) → r ≡ Ok x → m ts [] x

pub whole_then : {A B : Type 0} {m : Spelled A} {ts : List Terminal} {r : Read A} {g : A → Spelled B} {f : A × List Terminal → Result B Fault}
    → Sound m ts r → ((v : A × List Terminal) → Whole (g v.0) v.1 (f v)) → Whole (Then m g) ts (outcome.◌>>=◌ r f)
whole_then {r = Ok v} a b = record { holds = λ y e. record { value = v.0; middle = v.1; one = a.holds v.0 v.1 refl; next = (b v).holds y e } }
whole_then {r = Err f} a b = record { holds = λ y e. absurd cc }

whole_end : {A : Type 0} (x : A) (ts : List Terminal) → Whole (Yields x) ts (at_end x ts)
whole_end x [] = record { holds = λ y e. record { none = refl; is = sym (ok_is e) } }
whole_end x (w ∷ ws) = go (is_sign w sign.Program)
  where
    go : (c : Bool) → Whole (Yields x) (w ∷ ws) (if c then Err (fault.Unbuilt w.line) else Err (fault.Wanted w.line))
    go true = record { holds = λ y e. absurd cc }
    go false = record { holds = λ y e. absurd cc }

text_whole : (ts : List Terminal) → Whole Text ts (text_of ts)
unfolding text_of Text
text_whole ts =
    whole_then (version_sound 65 ts) λ v.
    whole_then (sign_sound 65 sign.Semicolon v.1) λ s.
    whole_then (machine_sound 65 s.1) λ m.
    whole_then (proofs_sound 65 m.1) λ ps. whole_end (m.0, ps.0) ps.1

pub text_sound : (ts : List Terminal) (x : RawMachine × List RawProof) → text_of ts ≡ Ok x → Text ts [] x
text_sound ts = (text_whole ts).holds

raw_is : {u v : RawText} → ◌≡◌ {A = Result RawText Refusal} (Ok u) (Ok v) → u ≡ v
raw_is e = cc

-- the terminals of a text that is read, with their names
pub record Terminated (text : List ℕ) (raw : RawText) : Type 0 where
  pub terminals : Terminals
  pub are : terminals_in text ≡ Ok terminals
  pub read : text_of terminals.list ≡ Ok (raw.machine, raw.proofs)
  pub names : raw.names ≡ terminals.names

pub read_terminals : (text : List ℕ) (raw : RawText) → parsed text ≡ Ok raw → Terminated text raw
unfolding parsed
read_terminals text raw e = go (terminals_in text) refl e
  where
    read : (ws : Terminals) → terminals_in text ≡ Ok ws → (r : Result (RawMachine × List RawProof) Fault) → text_of ws.list ≡ r
        → outcome.◌>>=◌ (refused ws.last_line r) (λ t. Ok (record { machine = t.0; proofs = t.1; names = ws.names })) ≡ Ok raw → Terminated text raw
    read ws is (Err f) r_is h = absurd cc
    read ws is (Ok t) r_is h =
        let same = raw_is h in
        record {
          terminals = ws;
          are = is;
          read = r_is ∙ ap (λ (x : RawText). Ok (x.machine, x.proofs)) same;
          names = ap (λ (x : RawText). x.names) (sym same);
        }

    go : (w : Result Terminals Refusal) → terminals_in text ≡ w
        → outcome.◌>>=◌ w (λ ws. outcome.◌>>=◌ (refused ws.last_line (text_of ws.list)) (λ t. Ok (record { machine = t.0; proofs = t.1; names = ws.names }))) ≡ Ok raw → Terminated text raw
    go (Err r) is h = absurd cc
    go (Ok ws) is h = read ws is (text_of ws.list) refl h

-- what a text is read as, it spells
pub sound : (text : List ℕ) (raw : RawText) → parsed text ≡ Ok raw → Spells text raw
sound text raw e = let d = read_terminals text raw e in (d.terminals, d.are, text_sound d.terminals.list (raw.machine, raw.proofs) d.read, d.names)
