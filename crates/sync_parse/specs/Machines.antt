-- Reading machines, proofs and whole texts.
use Rattle.std.specs.Prelude.{ℕ, ◌-◌, ◌==◌, Bool, false, List, [], ◌∷◌, length, Result, Ok, Err, Option, Some, None, is_some, if◌then◌else◌}
use Rattle.sync_base.specs.Outcome.{◌>>=◌}
use Rattle.sync_base.specs.declared.stops.Refusal.{Refusal}
use Rattle.sync_base.specs.declared.strategies.OpMode.{OpMode}
use Rattle.sync_base.specs.declared.strategies.OpMode.TheVariants as mode
use Rattle.sync_lex.specs.declared.signs.Sign.{Sign}
use Rattle.sync_lex.specs.declared.signs.Sign.TheVariants as sign
use Rattle.sync_lex.specs.declared.terminals.Terminal.{Terminal}
use Rattle.sync_lex.specs.Terminals.{is_sign, terminals_in}
use Rattle.sync_parse_exprs.specs.declared.faults.Fault.{Fault}
use Rattle.sync_parse_exprs.specs.declared.faults.Fault.TheVariants.{Ended, Wanted, Version, Unbuilt}
use Rattle.sync_parse_exprs.specs.declared.expressions.RawExpr.{RawExpr}
use Rattle.sync_parse_exprs.specs.declared.raw_names.RawName.{RawName}
use Rattle.sync_parse.specs.declared.trees.RawText.{RawText}
use Rattle.sync_parse.specs.declared.trees.RawMachine.{RawMachine}
use Rattle.sync_parse.specs.declared.trees.RawField.{RawField}
use Rattle.sync_parse.specs.declared.trees.RawOperation.{RawOperation}
use Rattle.sync_parse.specs.declared.trees.RawStep.{RawStep}
use Rattle.sync_parse.specs.declared.trees.RawAct.{RawAct}
use Rattle.sync_parse.specs.declared.trees.RawAct.TheVariants as act
use Rattle.sync_parse.specs.declared.trees.RawPlace.{RawPlace}
use Rattle.sync_parse.specs.declared.trees.RawPlace.TheVariants as place
use Rattle.sync_parse.specs.declared.trees.RawPattern.{RawPattern}
use Rattle.sync_parse.specs.declared.trees.RawPattern.TheVariants as pattern
use Rattle.sync_parse.specs.declared.trees.RawInvariant.{RawInvariant}
use Rattle.sync_parse.specs.declared.trees.RawProof.{RawProof}
use Rattle.sync_parse.specs.declared.trees.RawClaim.{RawClaim}
use Rattle.sync_parse.specs.declared.trees.RawClaim.TheVariants as claim
use Rattle.sync_parse.specs.Faults.{refused}
use Rattle.sync_parse_exprs.specs.Terminals.{levels, Read, Reader, unless_deep, first_line, begins_with, sign_at, name_at, number_at, strategy_at, row, goes_on, names_at}
use Rattle.sync_parse_exprs.specs.Expressions.{expr_at}
use Rattle.sync_parse.specs.Scripts.{statement_number, wanted_other, script_at}

-- ---- places

unfoldable pub pattern_at : ℕ → Reader RawPattern
pattern_at left ts = if begins_with sign.Question ts then (do
  q ← sign_at left sign.Question ts
  n ← name_at left q.1
  Ok (pattern.Bind n.0, n.1)) else (do
    e ← expr_at left ts
    Ok (pattern.Term e.0, e.1))

-- the value of a place with a key, where `=>` comes
unfoldable pub keyed : ℕ → RawExpr → Reader RawPlace
keyed left key ts = if begins_with sign.MapsTo ts then (do
  m ← sign_at left sign.MapsTo ts
  p ← pattern_at left m.1
  Ok (place.Entry key p.0, p.1)) else Ok (place.Key key, ts)

unfoldable pub place_at : ℕ → Reader RawPlace
place_at left ts = if begins_with sign.OpenRound ts then (do
  o ← sign_at left sign.OpenRound ts
  p ← pattern_at (left - 1) o.1
  e ← sign_at (left - 1) sign.CloseRound p.1
  Ok (place.Value p.0, e.1)) else (do
    o ← sign_at left sign.OpenSquare ts
    k ← expr_at (left - 1) o.1
    p ← keyed (left - 1) k.0 k.1
    e ← sign_at (left - 1) sign.CloseSquare p.1
    Ok (p.0, e.1))

-- ---- statements of operations

-- a formula or a term, and `;`
unfoldable pub closed_expr : ℕ → Reader RawExpr
closed_expr left ts = do
  e ← expr_at left ts
  s ← sign_at left sign.Semicolon e.1
  Ok (e.0, s.1)

-- a place, and `;`
unfoldable pub closed_place : ℕ → Reader RawPlace
closed_place left ts = do
  p ← place_at left ts
  s ← sign_at left sign.Semicolon p.1
  Ok (p.0, s.1)

-- `require` and `assert`
unfoldable pub formula_act : Sign → (RawExpr → RawAct) → ℕ → Reader RawAct
formula_act terminal made left ts = do
  w ← sign_at left terminal ts
  e ← closed_expr left w.1
  Ok (made e.0, e.1)

-- `init` and `update`
unfoldable pub value_act : Sign → (RawName → RawExpr → RawAct) → ℕ → Reader RawAct
value_act terminal made left ts = do
  w ← sign_at left terminal ts
  n ← name_at left w.1
  q ← sign_at left sign.Equal n.1
  e ← closed_expr left q.1
  Ok (made n.0 e.0, e.1)

-- a terminal, the name of a field, a sign and a place
unfoldable pub field_place : Sign → Sign → ℕ → Reader (RawName × RawPlace)
field_place terminal symbol left ts = do
  w ← sign_at left terminal ts
  n ← name_at left w.1
  q ← sign_at left symbol n.1
  p ← closed_place left q.1
  Ok ((n.0, p.0), p.1)

unfoldable pub place_act : Sign → Sign → (RawName → RawPlace → RawAct) → ℕ → Reader RawAct
place_act terminal symbol made left ts = do
  x ← field_place terminal symbol left ts
  Ok (made x.0.0 x.0.1, x.1)

-- `;` after the name, or a place
unfoldable pub have_act : ℕ → Reader RawAct
have_act left ts = do
  w ← sign_at left sign.Have ts
  n ← name_at left w.1
  if begins_with sign.Semicolon n.1 then (do
    s ← sign_at left sign.Semicolon n.1
    Ok (act.HaveVariable n.0, s.1)) else (do
      q ← sign_at left sign.AtLeast n.1
      p ← closed_place left q.1
      Ok (act.Have n.0 p.0, p.1))

unfoldable pub act_kind : ℕ → Reader RawAct
act_kind left ts =
    if begins_with sign.Init ts then value_act sign.Init act.Init left ts
    else if begins_with sign.Require ts then formula_act sign.Require act.Require left ts
    else if begins_with sign.Assert ts then formula_act sign.Assert act.Assert left ts
    else if begins_with sign.Update ts then value_act sign.Update act.Update left ts
    else if begins_with sign.Have ts then have_act left ts
    else if begins_with sign.Guard ts then place_act sign.Guard sign.AtLeast act.Guard left ts
    else if begins_with sign.Add ts then place_act sign.Add sign.PlusEqual act.Add left ts
    else if begins_with sign.Deposit ts then place_act sign.Deposit sign.PlusEqual act.Deposit left ts
    else if begins_with sign.Remove ts then place_act sign.Remove sign.MinusEqual act.Remove left ts
    else if begins_with sign.Withdraw ts then place_act sign.Withdraw sign.MinusEqual act.Withdraw left ts
    else wanted_other ts

unfoldable pub act_at : ℕ → Reader RawStep
act_at left ts = do
  x ← act_kind left ts
  Ok (record { what = x.0; line = first_line ts }, x.1)

unfoldable pub acts : ℕ → Reader (List RawStep)
acts left ts = row goes_on (act_at left) (length ts) [] ts

-- ---- machines

unfoldable pub field_at : ℕ → Reader RawField
field_at left ts = do
  f ← sign_at left sign.Field ts
  n ← name_at left f.1
  c ← sign_at left sign.Colon n.1
  s ← strategy_at left c.1
  e ← sign_at left sign.Semicolon s.1
  Ok (record { name = n.0; strategy = s.0; line = f.0 }, e.1)

unfoldable pub fields : ℕ → Reader (List RawField)
fields left ts = row (begins_with sign.Field) (field_at left) (length ts) [] ts

unfoldable pub mode_of : Terminal → Option OpMode
mode_of w =
    if is_sign w sign.Init then Some mode.Init
    else if is_sign w sign.Transition then Some mode.Transition
    else if is_sign w sign.Property then Some mode.Property
    else None

abbrev pub mode_said : ℕ → Terminal → List Terminal → Option OpMode → Read OpMode
mode_said left w ws (Some m) = unless_deep left w.line (Ok (m, ws))
mode_said left w ws None = Err (Wanted w.line)

unfoldable pub mode_at : ℕ → Reader OpMode
mode_at left [] = Err Ended
mode_at left (w ∷ ws) = mode_said left w ws (mode_of w)

unfoldable pub operation_at : ℕ → Reader RawOperation
operation_at left ts = do
  m ← mode_at left ts
  n ← name_at left m.1
  ps ← names_at left n.1
  o ← sign_at left sign.OpenBrace ps.1
  xs ← acts (left - 1) o.1
  e ← sign_at (left - 1) sign.CloseBrace xs.1
  Ok (record { mode = m.0; name = n.0; params = ps.0; steps = xs.0; line = first_line ts }, e.1)

abbrev pub begins_operation : List Terminal → Bool
begins_operation [] = false
begins_operation (w ∷ ws) = is_some (mode_of w)

unfoldable pub operations : ℕ → Reader (List RawOperation)
operations left ts = row begins_operation (operation_at left) (length ts) [] ts

unfoldable pub invariant_at : ℕ → Reader RawInvariant
invariant_at left ts = do
  i ← sign_at left sign.Invariant ts
  n ← name_at left i.1
  ps ← names_at left n.1
  c ← sign_at left sign.Colon ps.1
  e ← closed_expr left c.1
  Ok (record { name = n.0; params = ps.0; form = e.0; line = i.0 }, e.1)

unfoldable pub invariants : ℕ → Reader (List RawInvariant)
invariants left ts = row (begins_with sign.Invariant) (invariant_at left) (length ts) [] ts

unfoldable pub machine_at : ℕ → Reader RawMachine
machine_at left ts = do
  m ← sign_at left sign.Machine ts
  n ← name_at left m.1
  o ← sign_at left sign.OpenBrace n.1
  fs ← fields (left - 1) o.1
  ops ← operations (left - 1) fs.1
  is ← invariants (left - 1) ops.1
  e ← sign_at (left - 1) sign.CloseBrace is.1
  Ok (record { name = n.0; fields = fs.0; operations = ops.0; invariants = is.0; line = m.0 }, e.1)

-- ---- proofs

unfoldable pub claim_at : ℕ → Reader RawClaim
claim_at left ts = if begins_with sign.At ts then (do
  a ← sign_at left sign.At ts
  n ← number_at left a.1
  Ok (claim.At (statement_number n.0), n.1)) else (do
    k ← sign_at left sign.Keeps ts
    n ← name_at left k.1
    Ok (claim.Keeps n.0, n.1))

unfoldable pub proof_at : ℕ → Reader RawProof
proof_at left ts = do
  n ← name_at left ts
  c ← claim_at left n.1
  s ← script_at left c.1
  Ok (record { operation = n.0; claim = c.0; script = s.0 }, s.1)

unfoldable pub proof_row : ℕ → Reader (List RawProof)
proof_row left ts = row goes_on (proof_at left) (length ts) [] ts

-- the proofs, or none where they do not begin
unfoldable pub proofs_at : ℕ → Reader (List RawProof)
proofs_at left ts = if begins_with sign.Proofs ts then (do
  p ← sign_at left sign.Proofs ts
  o ← sign_at left sign.OpenBrace p.1
  xs ← proof_row (left - 1) o.1
  e ← sign_at (left - 1) sign.CloseBrace xs.1
  Ok (xs.0, e.1)) else Ok ([], ts)

-- ---- texts

-- version 1 at its number, whatever follows
unfoldable pub version_at : ℕ → Reader ℕ
version_at left ts = do
  v ← sign_at left sign.Version ts
  n ← number_at left v.1
  if n.0 == 1 then Ok (v.0, n.1) else Err (Version (first_line v.1))

-- the end of the text; a program is not read yet
abbrev pub at_end : {A : Type 0} → A → List Terminal → Result A Fault
at_end x [] = Ok x
at_end x (w ∷ ws) = if is_sign w sign.Program then Err (Unbuilt w.line) else Err (Wanted w.line)

-- a machine and its proofs, where all levels are left
unfoldable pub text_of : List Terminal → Result (RawMachine × List RawProof) Fault
text_of ts = do
  v ← version_at levels ts
  s ← sign_at levels sign.Semicolon v.1
  m ← machine_at levels s.1
  ps ← proofs_at levels m.1
  at_end (m.0, ps.0) ps.1

-- the raw tree that a text spells, or the first rule L, else the first rule G, that it breaks
unfoldable pub parsed : List ℕ → Result RawText Refusal
parsed text = do
  w ← terminals_in text
  t ← refused w.last_line (text_of w.list)
  Ok (record { machine = t.0; proofs = t.1; names = w.names })

-- the number of scripts of the whole proofs, which are one for each
abbrev pub script_count : RawText → ℕ
script_count text = length text.proofs
