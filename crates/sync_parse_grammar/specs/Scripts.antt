-- The productions of proof scripts. The blocks inside of a block are given to the productions of one level; at the end they
-- are blocks whose own blocks stand one deeper, to any depth.
use Rattle.std.specs.Prelude.{ℕ, zero, suc, Bool, true, false}
use Rattle.sync_lex.specs.declared.signs.Sign.{Sign}
use Rattle.sync_lex.specs.declared.signs.Sign.TheVariants as sign
use Rattle.sync_parse_exprs.specs.declared.raw_names.RawName.{RawName}
use Rattle.sync_parse_exprs.specs.declared.expressions.RawExpr.{RawExpr}
use Rattle.sync_parse.specs.declared.scripts.RawSubject.{RawSubject}
use Rattle.sync_parse.specs.declared.scripts.RawSubject.TheVariants as subject
use Rattle.sync_parse.specs.declared.scripts.RawHypName.{RawHypName}
use Rattle.sync_parse.specs.declared.scripts.RawHypName.TheVariants as hyp
use Rattle.sync_parse.specs.declared.scripts.RawPart.{RawPart}
use Rattle.sync_parse.specs.declared.scripts.RawScript.{RawScript}
use Rattle.sync_parse.specs.declared.scripts.RawBlock.{RawBlock, roll-RawBlock}
use Rattle.sync_parse.specs.declared.scripts.RawScriptStep.{RawScriptStep, roll-RawScriptStep}
use Rattle.sync_parse.specs.declared.scripts.RawStepKind.{RawStepKind}
use Rattle.sync_parse.specs.declared.scripts.RawStepKind.TheVariants as step
use Rattle.sync_parse_exprs.specs.Terminals.{first_line}
use Rattle.sync_parse.specs.Scripts.{statement_number, bounded_of, times_of}
use Rattle.sync_parse_forms.specs.Relations.{Spelled, The, AName, ANumber, OneOf, Yields, Here, ◌>>=◌, ◌>>◌, ◌or◌, Many, Series}
use Rattle.sync_parse_grammar.specs.Expressions.{AnExpr, Args}

-- NAME | "old" | "new" | "wrap"
unfoldable pub ASubject : Spelled RawSubject
ASubject = (AName >>= λ x. Yields (subject.Name x)) or (OneOf bounded_of >>= λ x. Yields (subject.Special x.0 x.1))

-- hyp = "denied" | NAME | "at" NUMBER | ("low"|"high") (NAME|"old"|"new"|"wrap")
unfoldable pub Hyp : Spelled RawHypName
Hyp =
    (The sign.Denied >> Yields hyp.Denied)
    or (do
      The sign.At
      n ← ANumber
      Yields (hyp.At (statement_number n)))
    or (do
      The sign.Low
      s ← ASubject
      Yields (hyp.Low s))
    or (do
      The sign.High
      s ← ASubject
      Yields (hyp.High s))
    or (AName >>= λ x. Yields (hyp.Label x))

-- part = ["-"] NUMBER hyp
unfoldable pub Scaled : Bool → Spelled RawPart
Scaled minus = do
  n ← ANumber
  h ← Hyp
  Yields (record { times = times_of minus n; hyp = h })

unfoldable pub Part : Spelled RawPart
Part = (The sign.Minus >> Scaled true) or Scaled false

-- "as" NAME
unfoldable pub As : Spelled RawName
As = The sign.As >> AName

-- ---- step = ..

-- "same" ";"
unfoldable pub Same : Spelled RawStepKind
Same = do
  The sign.Same
  The sign.Semicolon
  Yields step.Same

-- "sum" part {"," part} ";"
unfoldable pub Sum : Spelled RawStepKind
Sum = do
  The sign.Sum
  parts ← Series Part
  The sign.Semicolon
  Yields (step.Sum parts)

-- "inst" hyp args "as" NAME ";"
unfoldable pub Inst : Spelled RawStepKind
Inst = do
  The sign.Inst
  h ← Hyp
  args ← Args
  a ← As
  The sign.Semicolon
  Yields (step.Inst h args a)

-- "parts" hyp "as" NAME "," NAME ";"
unfoldable pub Parts : Spelled RawStepKind
Parts = do
  The sign.Parts
  h ← Hyp
  a ← As
  The sign.Comma
  b ← AName
  The sign.Semicolon
  Yields (step.Parts h a b)

-- ("read"|"size"|"total") expr "," expr "as" NAME ";"
unfoldable pub Lookup : Sign → (RawExpr → RawExpr → RawName → RawStepKind) → Spelled RawStepKind
Lookup opening made = do
  The opening
  m ← AnExpr
  The sign.Comma
  k ← AnExpr
  a ← As
  The sign.Semicolon
  Yields (made m k a)

-- "cong" expr "," expr "," expr "as" NAME ";"
unfoldable pub Cong : Spelled RawStepKind
Cong = do
  The sign.Cong
  m ← AnExpr
  The sign.Comma
  j ← AnExpr
  The sign.Comma
  k ← AnExpr
  a ← As
  The sign.Semicolon
  Yields (step.Cong m j k a)

-- "split" hyp "as" NAME block block
unfoldable pub Split : Spelled RawBlock → Spelled RawStepKind
Split block = do
  The sign.Split
  h ← Hyp
  a ← As
  b ← block
  c ← block
  Yields (step.Split h a b c)

-- "cut" expr "as" NAME block
unfoldable pub Cut : Spelled RawBlock → Spelled RawStepKind
Cut block = do
  The sign.Cut
  f ← AnExpr
  a ← As
  b ← block
  Yields (step.Cut f a b)

unfoldable pub StepKind : Spelled RawBlock → Spelled RawStepKind
StepKind block =
    Split block or Cut block or Same or Sum or Inst or Parts
    or Lookup sign.Read step.Read or Lookup sign.Size step.Size or Lookup sign.Total step.Total or Cong

unfoldable pub Step : Spelled RawBlock → Spelled RawScriptStep
Step block = do
  start ← Here
  what ← StepKind block
  Yields (roll-RawScriptStep (record { what = what; line = first_line start }))

-- ---- blocks and scripts

-- block = "{" {step} "}"
unfoldable pub BlockOf : Spelled RawBlock → Spelled RawBlock
BlockOf inner = do
  The sign.OpenBrace
  steps ← Many (Step inner)
  line ← The sign.CloseBrace
  Yields (roll-RawBlock (record { steps = steps; end_line = line }))

-- a block with fewer than so many braces open at once
unfoldable pub Nested : ℕ → Spelled RawBlock
Nested zero = λ ts rest x. ⊥
Nested (suc depth) = BlockOf (Nested depth)

-- a block, with blocks to any depth
unfoldable pub Block : Spelled RawBlock
Block ts rest x = (depth : ℕ) × Nested depth ts rest x

-- script = "by" block
unfoldable pub Script : Spelled RawScript
Script = do
  line ← The sign.By
  block ← Block
  Yields (record { block = block; line = line })
