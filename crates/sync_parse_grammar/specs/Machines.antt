-- The productions of machines and proofs.
use Rattle.std.specs.Prelude.{List, []}
use Rattle.sync_base.specs.declared.strategies.OpMode.{OpMode}
use Rattle.sync_base.specs.declared.strategies.OpMode.TheVariants as mode
use Rattle.sync_lex.specs.declared.signs.Sign.{Sign}
use Rattle.sync_lex.specs.declared.signs.Sign.TheVariants as sign
use Rattle.sync_parse_exprs.specs.declared.expressions.RawExpr.{RawExpr}
use Rattle.sync_parse_exprs.specs.declared.raw_names.RawName.{RawName}
use Rattle.sync_parse.specs.declared.trees.RawMachine.{RawMachine}
use Rattle.sync_parse.specs.declared.trees.RawField.{RawField}
use Rattle.sync_parse.specs.declared.trees.RawOperation.{RawOperation}
use Rattle.sync_parse.specs.declared.trees.RawStep.{RawStep}
use Rattle.sync_parse.specs.declared.trees.RawAct.{RawAct}
use Rattle.sync_parse.specs.declared.trees.RawAct.TheVariants as act
use Rattle.sync_parse.specs.declared.trees.RawPlace.{RawPlace}
use Rattle.sync_parse.specs.declared.trees.RawPlace.TheVariants as place
use Rattle.sync_parse.specs.declared.trees.RawPattern.{RawPattern}
use Rattle.sync_parse.specs.declared.trees.RawPattern.TheVariants as pattern
use Rattle.sync_parse.specs.declared.trees.RawInvariant.{RawInvariant}
use Rattle.sync_parse.specs.declared.trees.RawProof.{RawProof}
use Rattle.sync_parse.specs.declared.trees.RawClaim.{RawClaim}
use Rattle.sync_parse.specs.declared.trees.RawClaim.TheVariants as claim
use Rattle.sync_parse_exprs.specs.Terminals.{first_line}
use Rattle.sync_parse.specs.Scripts.{statement_number}
use Rattle.sync_parse_forms.specs.Relations.{Spelled, The, AName, ANumber, AStrategy, Yields, Here, ◌>>=◌, ◌>>◌, ◌or◌, Closed, Many, Names}
use Rattle.sync_parse_grammar.specs.Expressions.{AnExpr}
use Rattle.sync_parse_grammar.specs.Scripts.{Script}

-- ---- statements of operations

-- pat = "?" NAME | expr
unfoldable pub Pattern : Spelled RawPattern
Pattern =
    (do
      The sign.Question
      x ← AName
      Yields (pattern.Bind x))
    or (AnExpr >>= λ e. Yields (pattern.Term e))

-- place = "(" pat ")" | "[" expr ["=>" pat] "]"
unfoldable pub Place : Spelled RawPlace
Place =
    (do
      The sign.OpenRound
      p ← Pattern
      The sign.CloseRound
      Yields (place.Value p))
    or (do
      The sign.OpenSquare
      key ← AnExpr
      x ← Yields (place.Key key) or (do
        The sign.MapsTo
        p ← Pattern
        Yields (place.Entry key p))
      The sign.CloseSquare
      Yields x)

-- ("require"|"assert") expr ";"
unfoldable pub FormulaAct : Sign → (RawExpr → RawAct) → Spelled RawAct
FormulaAct opening made = do
  The opening
  e ← Closed AnExpr
  Yields (made e)

-- ("init"|"update") NAME "=" expr ";"
unfoldable pub ValueAct : Sign → (RawName → RawExpr → RawAct) → Spelled RawAct
ValueAct opening made = do
  The opening
  x ← AName
  The sign.Equal
  e ← Closed AnExpr
  Yields (made x e)

-- a terminal, NAME, a sign, place ";"
unfoldable pub FieldPlace : Sign → Sign → Spelled (RawName × RawPlace)
FieldPlace opening symbol = do
  The opening
  x ← AName
  The symbol
  p ← Closed Place
  Yields (x, p)

unfoldable pub PlaceAct : Sign → Sign → (RawName → RawPlace → RawAct) → Spelled RawAct
PlaceAct opening symbol made = FieldPlace opening symbol >>= λ x. Yields (made x.0 x.1)

-- "have" NAME (";" | ">=" place ";")
unfoldable pub HaveAct : Spelled RawAct
HaveAct = do
  The sign.Have
  x ← AName
  (The sign.Semicolon >> Yields (act.HaveVariable x))
      or (do
        The sign.AtLeast
        p ← Closed Place
        Yields (act.Have x p))

unfoldable pub ActKind : Spelled RawAct
ActKind =
    ValueAct sign.Init act.Init
    or FormulaAct sign.Require act.Require
    or FormulaAct sign.Assert act.Assert
    or ValueAct sign.Update act.Update
    or HaveAct
    or PlaceAct sign.Guard sign.AtLeast act.Guard
    or PlaceAct sign.Add sign.PlusEqual act.Add
    or PlaceAct sign.Deposit sign.PlusEqual act.Deposit
    or PlaceAct sign.Remove sign.MinusEqual act.Remove
    or PlaceAct sign.Withdraw sign.MinusEqual act.Withdraw

-- act = ..
unfoldable pub Act : Spelled RawStep
Act = do
  start ← Here
  what ← ActKind
  Yields (record { what = what; line = first_line start })

-- ---- machines

-- field = "field" NAME ":" STRATEGY ";"
unfoldable pub Field : Spelled RawField
Field = do
  line ← The sign.Field
  name ← AName
  The sign.Colon
  strategy ← AStrategy
  The sign.Semicolon
  Yields (record { name = name; strategy = strategy; line = line })

-- "init" | "transition" | "property"
unfoldable pub Mode : Spelled OpMode
Mode = (The sign.Init >> Yields mode.Init) or (The sign.Transition >> Yields mode.Transition) or (The sign.Property >> Yields mode.Property)

-- op = ("init"|"transition"|"property") NAME names "{" {act} "}"
unfoldable pub Operation : Spelled RawOperation
Operation = do
  start ← Here
  m ← Mode
  name ← AName
  params ← Names
  The sign.OpenBrace
  steps ← Many Act
  The sign.CloseBrace
  Yields (record { mode = m; name = name; params = params; steps = steps; line = first_line start })

-- inv = "invariant" NAME names ":" expr ";"
unfoldable pub Invariant : Spelled RawInvariant
Invariant = do
  line ← The sign.Invariant
  name ← AName
  params ← Names
  The sign.Colon
  form ← Closed AnExpr
  Yields (record { name = name; params = params; form = form; line = line })

-- machine = "machine" NAME "{" {field} {op} {inv} "}"
unfoldable pub Machine : Spelled RawMachine
Machine = do
  line ← The sign.Machine
  name ← AName
  The sign.OpenBrace
  fields ← Many Field
  operations ← Many Operation
  invariants ← Many Invariant
  The sign.CloseBrace
  Yields (record { name = name; fields = fields; operations = operations; invariants = invariants; line = line })

-- ---- proofs

-- "keeps" NAME | "at" NUMBER
unfoldable pub Claim : Spelled RawClaim
Claim =
    (do
      The sign.At
      n ← ANumber
      Yields (claim.At (statement_number n)))
    or (do
      The sign.Keeps
      x ← AName
      Yields (claim.Keeps x))

-- NAME ("keeps" NAME | "at" NUMBER) script
unfoldable pub Proof : Spelled RawProof
Proof = do
  operation ← AName
  c ← Claim
  script ← Script
  Yields (record { operation = operation; claim = c; script = script })

-- ["proofs" "{" {NAME ("keeps" NAME | "at" NUMBER) script} "}"]
unfoldable pub Proofs : Spelled (List RawProof)
Proofs = Yields [] or (do
  The sign.Proofs
  The sign.OpenBrace
  proofs ← Many Proof
  The sign.CloseBrace
  Yields proofs)
