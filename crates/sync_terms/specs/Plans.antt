-- Proof scripts with their terms and formulas as trees: a block is its first step with the rest of its steps.
use Rattle.std.specs.Prelude.{◌≡◌, ℕ, ℤ, List, [], ◌∷◌, map}
use Rattle.sync_terms.specs.declared.nodes.TermId.{TermId}
use Rattle.sync_terms.specs.declared.scripts.HypName.{HypName}
use Rattle.sync_terms.specs.declared.scripts.Part.{Part}
use Rattle.sync_terms.specs.declared.scripts.Block.{Block, fold-Block}
use Rattle.sync_terms.specs.declared.scripts.StepKind.TheOpen.{StepKind-F, Block-F, ScriptStep-F}
use Rattle.sync_terms.specs.Trees.{Tree, Formula}
use Rattle.sync_terms.specs.Stored.{Stored, Extends, tree, formula}

-- Each step has its line, what it takes, the names that it gives, its blocks, and what comes behind it.
pub data Plan : Type 0 where
  End : (line : ℕ) → Plan
  Same : (line : ℕ) (rest : Plan) → Plan
  Sum : (line : ℕ) (parts : List Part) (rest : Plan) → Plan
  Inst : (line : ℕ) (hyp : HypName) (terms : List Tree) (name : ℕ) (rest : Plan) → Plan
  Parts : (line : ℕ) (hyp : HypName) (left right : ℕ) (rest : Plan) → Plan
  Split : (line : ℕ) (hyp : HypName) (name : ℕ) (first second : Plan) (rest : Plan) → Plan
  Cut : (line : ℕ) (form : Formula) (name : ℕ) (block : Plan) (rest : Plan) → Plan
  Read : (line : ℕ) (map key : Tree) (name : ℕ) (rest : Plan) → Plan
  Size : (line : ℕ) (map key : Tree) (name : ℕ) (rest : Plan) → Plan
  Total : (line : ℕ) (map key : Tree) (name : ℕ) (rest : Plan) → Plan
  Cong : (line : ℕ) (map left right : Tree) (name : ℕ) (rest : Plan) → Plan

-- a step, as what it puts before the rest of its block
abbrev pub Then : Type 0
Then = Plan → Plan

-- the step of a kind at a line, its ids read in the store
abbrev pub kind_plan : Stored → StepKind-F (ℕ → Then) Plan Then → ℕ → Then
kind_plan s StepKind-F.Same line rest = Same line rest
kind_plan s (StepKind-F.Sum parts) line rest = Sum line parts rest
kind_plan s (StepKind-F.Inst hyp terms name) line rest = Inst line hyp (map (tree s) terms) name rest
kind_plan s (StepKind-F.Parts hyp left right) line rest = Parts line hyp left right rest
kind_plan s (StepKind-F.Split hyp name first second) line rest = Split line hyp name first second rest
kind_plan s (StepKind-F.Cut form name block) line rest = Cut line (formula s form) name block rest
kind_plan s (StepKind-F.Read map key name) line rest = Read line (tree s map) (tree s key) name rest
kind_plan s (StepKind-F.Size map key name) line rest = Size line (tree s map) (tree s key) name rest
kind_plan s (StepKind-F.Total map key name) line rest = Total line (tree s map) (tree s key) name rest
kind_plan s (StepKind-F.Cong map left right name) line rest = Cong line (tree s map) (tree s left) (tree s right) name rest

abbrev pub step_plan : ScriptStep-F (ℕ → Then) Plan Then → Then
step_plan step = step.what step.line

-- the steps, one before the other, and last the end of the block
abbrev pub steps_before : List Then → Plan → Plan
steps_before [] rest = rest
steps_before (step ∷ steps) rest = step (steps_before steps rest)

abbrev pub block_plan : Block-F (ℕ → Then) Plan Then → Plan
block_plan block = steps_before block.steps (End block.end_line)

-- the plan of a block whose ids are of the store
abbrev pub plan_of : Stored → Block → Plan
plan_of s block = fold-Block (ℕ → Then) Plan Then (kind_plan s) block_plan step_plan block

-- the ids of a script are of the store: whatever the store gains, the script stays the same
abbrev pub IsScriptOf : Stored → Block → Type 0
IsScriptOf s block = (t : Stored) → Extends s t → plan_of t block ≡ plan_of s block
