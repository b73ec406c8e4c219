-- How deep a raw tree goes: how many brackets are open in it at once, and how long its runs of prefix signs and its
-- chains of operators are. It is shallow where none of these is more than 64.
use Rattle.std.specs.Prelude.{ℕ, suc, max, ◌≤◌, List, [], ◌∷◌, map}
use Rattle.sync_parse_exprs.specs.declared.expressions.RawExpr.{RawExpr, fold-RawExpr}
use Rattle.sync_parse_exprs.specs.declared.expressions.RawExprKind.TheOpen.{RawExprKind-F, RawExpr-F}
use Rattle.sync_parse_exprs.specs.declared.expressions.Operator.{Operator}
use Rattle.sync_parse_exprs.specs.declared.expressions.Operator.TheVariants as operator
use Rattle.sync_parse.specs.declared.scripts.RawBlock.{RawBlock, fold-RawBlock}
use Rattle.sync_parse.specs.declared.scripts.RawStepKind.TheOpen.{RawStepKind-F, RawBlock-F, RawScriptStep-F}
use Rattle.sync_parse.specs.declared.trees.RawText.{RawText}
use Rattle.sync_parse.specs.declared.trees.RawMachine.{RawMachine}
use Rattle.sync_parse.specs.declared.trees.RawOperation.{RawOperation}
use Rattle.sync_parse.specs.declared.trees.RawStep.{RawStep}
use Rattle.sync_parse.specs.declared.trees.RawAct.{RawAct}
use Rattle.sync_parse.specs.declared.trees.RawAct.TheVariants as act
use Rattle.sync_parse.specs.declared.trees.RawPlace.{RawPlace}
use Rattle.sync_parse.specs.declared.trees.RawPlace.TheVariants as place
use Rattle.sync_parse.specs.declared.trees.RawPattern.{RawPattern}
use Rattle.sync_parse.specs.declared.trees.RawPattern.TheVariants as pattern
use Rattle.sync_parse.specs.declared.trees.RawInvariant.{RawInvariant}
use Rattle.sync_parse.specs.declared.trees.RawProof.{RawProof}

-- how deep a part of a text goes
pub record Depth : Type 0 where
  -- the most brackets that it has open at once: round and square ones, and braces
  pub brackets : ℕ
  -- its longest run of prefix signs, or chain of operators of one level
  pub longest : ℕ

abbrev pub flat : Depth
flat = record { brackets = 0; longest = 0 }

-- of two parts
abbrev pub with_both : Depth → Depth → Depth
with_both a b = record { brackets = max a.brackets b.brackets; longest = max a.longest b.longest }

-- of all parts
abbrev pub with_all : List Depth → Depth
with_all [] = flat
with_all (d ∷ ds) = with_both d (with_all ds)

-- of a part in brackets
abbrev pub in_brackets : Depth → Depth
in_brackets d = record { brackets = suc d.brackets; longest = d.longest }

-- of parts with a run or chain of this length
abbrev pub with_run : ℕ → Depth → Depth
with_run n d = record { brackets = d.brackets; longest = max n d.longest }

-- ---- expressions

-- what makes a run or a chain: prefix signs; `+` and `-`; `&&`; `||`; `==>`
pub data Run : Type 0 where
  signs : Run
  sums : Run
  ands : Run
  ors : Run
  implications : Run

abbrev pub only : Run → ℕ → Run → ℕ
only signs n signs = n
only sums n sums = n
only ands n ands = n
only ors n ors = n
only implications n implications = n
only _ n _ = 0

-- an expression: how many signs or operators the run or chain has that it is, and how deep it goes
pub record Extent : Type 0 where
  pub run : Run → ℕ
  pub depth : Depth

-- what is no run and no chain
abbrev pub single : Depth → Extent
single d = record { run = λ r. 0; depth = d }

-- one sign or operator more, on the run or chain that a part is
abbrev pub longer : Run → Extent → Depth → Extent
longer r e d = record { run = only r (suc (e.run r)); depth = with_run (suc (e.run r)) d }

-- a chain of `==>` leans to the right, the others to the left; relations make no chain
abbrev pub joined_extent : Operator → Extent → Extent → Extent
joined_extent operator.Implies a b = longer implications b (with_both a.depth b.depth)
joined_extent operator.Or a b = longer ors a (with_both a.depth b.depth)
joined_extent operator.And a b = longer ands a (with_both a.depth b.depth)
joined_extent operator.Equal a b = single (with_both a.depth b.depth)
joined_extent operator.NotEqual a b = single (with_both a.depth b.depth)
joined_extent operator.AtMost a b = single (with_both a.depth b.depth)
joined_extent operator.Below a b = single (with_both a.depth b.depth)
joined_extent operator.Plus a b = longer sums a (with_both a.depth b.depth)
joined_extent operator.Minus a b = longer sums a (with_both a.depth b.depth)

abbrev pub depth_in : Extent → Depth
depth_in e = e.depth

abbrev pub kind_extent : RawExprKind-F Extent Extent → Extent
kind_extent (RawExprKind-F.Number n) = single flat
kind_extent (RawExprKind-F.Name x) = single flat
kind_extent (RawExprKind-F.Param line x) = single flat
kind_extent RawExprKind-F.Nil = single flat
kind_extent (RawExprKind-F.Bracketed e) = single (in_brackets e.depth)
kind_extent (RawExprKind-F.Special terminal line) = single flat
kind_extent (RawExprKind-F.Call f line args) = single (in_brackets (with_all (map depth_in args)))
kind_extent (RawExprKind-F.Not e) = longer signs e e.depth
kind_extent (RawExprKind-F.Minus e) = longer signs e e.depth
kind_extent (RawExprKind-F.Times n e) = single e.depth
kind_extent (RawExprKind-F.Two o a b) = joined_extent o a b

abbrev pub extent_at : RawExpr-F Extent Extent → Extent
extent_at e = e.what

abbrev pub extent : RawExpr → Extent
extent = fold-RawExpr Extent Extent kind_extent extent_at

abbrev pub expr_depth : RawExpr → Depth
expr_depth e = (extent e).depth

-- ---- scripts

abbrev pub step_kind_depth : RawStepKind-F Depth Depth Depth → Depth
step_kind_depth RawStepKind-F.Same = flat
step_kind_depth (RawStepKind-F.Sum ps) = flat
step_kind_depth (RawStepKind-F.Inst h args x) = in_brackets (with_all (map expr_depth args))
step_kind_depth (RawStepKind-F.Parts h x y) = flat
step_kind_depth (RawStepKind-F.Split h x b c) = with_both b c
step_kind_depth (RawStepKind-F.Cut e x b) = with_both (expr_depth e) b
step_kind_depth (RawStepKind-F.Read m k x) = with_both (expr_depth m) (expr_depth k)
step_kind_depth (RawStepKind-F.Size m k x) = with_both (expr_depth m) (expr_depth k)
step_kind_depth (RawStepKind-F.Total m k x) = with_both (expr_depth m) (expr_depth k)
step_kind_depth (RawStepKind-F.Cong m j k x) = with_both (expr_depth m) (with_both (expr_depth j) (expr_depth k))

abbrev pub block_depth_of : RawBlock-F Depth Depth Depth → Depth
block_depth_of b = in_brackets (with_all b.steps)

abbrev pub step_depth_of : RawScriptStep-F Depth Depth Depth → Depth
step_depth_of s = s.what

-- braces, with the steps in them
abbrev pub block_depth : RawBlock → Depth
block_depth = fold-RawBlock Depth Depth Depth step_kind_depth block_depth_of step_depth_of

abbrev pub proof_depth : RawProof → Depth
proof_depth p = block_depth p.script.block

-- ---- machines

abbrev pub pattern_depth : RawPattern → Depth
pattern_depth (pattern.Bind x) = flat
pattern_depth (pattern.Term e) = expr_depth e

abbrev pub place_depth : RawPlace → Depth
place_depth (place.Value p) = in_brackets (pattern_depth p)
place_depth (place.Key e) = in_brackets (expr_depth e)
place_depth (place.Entry e p) = in_brackets (with_both (expr_depth e) (pattern_depth p))

abbrev pub act_depth : RawAct → Depth
act_depth (act.Init x e) = expr_depth e
act_depth (act.Require e) = expr_depth e
act_depth (act.Assert e) = expr_depth e
act_depth (act.Update x e) = expr_depth e
act_depth (act.HaveVariable x) = flat
act_depth (act.Have x p) = place_depth p
act_depth (act.Guard x p) = place_depth p
act_depth (act.Add x p) = place_depth p
act_depth (act.Deposit x p) = place_depth p
act_depth (act.Remove x p) = place_depth p
act_depth (act.Withdraw x p) = place_depth p

abbrev pub statement_depth : RawStep → Depth
statement_depth s = act_depth s.what

-- braces, with the statements in them; the brackets of its names go no deeper than these
abbrev pub operation_depth : RawOperation → Depth
operation_depth o = in_brackets (with_all (map statement_depth o.steps))

-- the brackets of its names, and its formula
abbrev pub invariant_depth : RawInvariant → Depth
invariant_depth i = with_both (in_brackets flat) (expr_depth i.form)

-- braces, with all that stands in them
abbrev pub machine_depth : RawMachine → Depth
machine_depth m = in_brackets (with_both
    (with_all (map operation_depth m.operations))
    (with_all (map invariant_depth m.invariants)))

-- ---- texts

-- a machine, and braces with the proofs in them
abbrev pub text_depth : RawText → Depth
text_depth t = with_both (machine_depth t.machine) (in_brackets (with_all (map proof_depth t.proofs)))

-- so many brackets may be open at once, and so many signs or operators may stand in a run or chain
abbrev pub deepest : ℕ
deepest = 64

abbrev pub IsShallow : RawText → Type 0
IsShallow t = ((text_depth t).brackets ≤ deepest) × ((text_depth t).longest ≤ deepest)
