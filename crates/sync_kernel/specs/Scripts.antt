-- The first rule that a script breaks.
use Rattle.std.specs.Prelude.{◌≡◌, ℕ, nat_lt, ◌||◌, List, [], ◌∷◌, ◌++◌, Option, Some, None, Result, Ok, Err, if◌then◌else◌}
use Rattle.sync_base.specs.Outcome.{first, ◌>>=◌}
use Rattle.sync_base.specs.declared.stops.Refusal.{Refusal}
use Rattle.sync_base.specs.declared.stops.Rule.{Rule}
use Rattle.sync_base.specs.declared.stops.Rule.TheVariants.{K8, K9}
use Rattle.sync_terms.specs.declared.scripts.HypName.{HypName}
use Rattle.sync_terms.specs.declared.scripts.ScriptStep.{ScriptStep, fold-ScriptStep}
use Rattle.sync_terms.specs.Trees.{most_nodes}
use Rattle.sync_terms.specs.Trees.{Tree, Formula, neg}
use Rattle.sync_terms.specs.Stored.{Stored, Extends}
use Rattle.sync_terms.specs.Plans.{Plan, End, Same, Sum, Inst, Parts, Split, Cut, Read, Size, Total, Cong, Then, kind_plan, block_plan, step_plan}
use Rattle.sync_kernel_facts.specs.Lemmas.{cong_fact, read_fact, size_fact, total_fact}
use Rattle.sync_kernel_facts.specs.Facts.{Fact, denial, newest, named, facts_size}
use Rattle.sync_kernel.specs.Steps.{at_line, same_fault, sum_fault}
use Rattle.sync_kernel.specs.Taking.{Two, parts_of, cases_of, plain_fact, taken, instance}

-- what a step puts before the rest of its block, its ids read in the store
abbrev pub then_of : Stored → ScriptStep → Then
then_of s step = fold-ScriptStep (ℕ → Then) Plan Then (kind_plan s) block_plan step_plan step

abbrev pub IsStepOf : Stored → ScriptStep → Type 0
IsStepOf s step = (t : Stored) → Extends s t → (rest : Plan) → then_of t step rest ≡ then_of s step rest

-- ---- the facts behind a step, or the rule that it breaks

abbrev pub with_fact : List Fact → ℕ → Formula → List Fact
with_fact facts name form = facts ++ named name form ∷ []

-- facts that are no more than so many nodes
abbrev pub fitting : List Fact → Result (List Fact) Rule
fitting facts = if nat_lt most_nodes (facts_size facts) then Err K8 else Ok facts

-- `inst`
abbrev pub with_instance : List Fact → HypName → List Tree → ℕ → Result (List Fact) Rule
with_instance facts hyp terms name = do
  form ← instance (newest hyp facts) terms
  fitting (with_fact facts name form)

-- `parts`
abbrev pub with_parts : List Fact → HypName → ℕ → ℕ → Result (List Fact) Rule
with_parts facts hyp left right = do
  f ← plain_fact (newest hyp facts)
  parts ← taken (parts_of f.form)
  fitting (with_fact (with_fact facts left parts.left) right parts.right)

-- the facts of two branches
pub record Cases : Type 0 where
  pub left : List Fact
  pub right : List Fact

abbrev pub cases_with : List Fact → ℕ → Two → Cases
cases_with facts name forms = record { left = with_fact facts name forms.left; right = with_fact facts name forms.right }

abbrev pub both_fitting : List Fact → ℕ → Two → Result Cases Rule
both_fitting facts name forms =
    if nat_lt most_nodes (facts_size (with_fact facts name forms.left)) || nat_lt most_nodes (facts_size (with_fact facts name forms.right)) then Err K8 else Ok (cases_with facts name forms)

-- `split`: a branch for each case
abbrev pub with_cases : List Fact → HypName → ℕ → Result Cases Rule
with_cases facts hyp name = do
  f ← plain_fact (newest hyp facts)
  cases ← taken (cases_of f.form)
  both_fitting facts name cases

-- `cut`: the branch of its block, and the one that goes on
abbrev pub with_cut : List Fact → Formula → ℕ → Result Cases Rule
with_cut facts form name = both_fitting facts name (record { left = neg form; right = form })

-- ---- blocks

-- nothing stands behind a step that closes its branch
abbrev pub after : Plan → Option Refusal
after (End line) = None
after (Same line rest) = Some (record { line = line; rule = K9 })
after (Sum line parts rest) = Some (record { line = line; rule = K9 })
after (Inst line hyp terms name rest) = Some (record { line = line; rule = K9 })
after (Parts line hyp left right rest) = Some (record { line = line; rule = K9 })
after (Split line hyp name left right rest) = Some (record { line = line; rule = K9 })
after (Cut line form name block rest) = Some (record { line = line; rule = K9 })
after (Read line map key name rest) = Some (record { line = line; rule = K9 })
after (Size line map key name rest) = Some (record { line = line; rule = K9 })
after (Total line map key name rest) = Some (record { line = line; rule = K9 })
after (Cong line map left right name rest) = Some (record { line = line; rule = K9 })

-- the rule that is broken at a line, or what comes of the rest
abbrev pub going : {X : Type 0} → ℕ → Result X Rule → (X → Option Refusal) → Option Refusal
going line (Err rule) rest = Some (record { line = line; rule = rule })
going line (Ok x) rest = rest x

-- The first rule that a block breaks in a branch with these facts, step by step. `same`, `sum` and `split` close the branch; a block has to end so.
abbrev pub block_fault : List Fact → Plan → Option Refusal
block_fault facts (End line) = Some (record { line = line; rule = K9 })
block_fault facts (Same line rest) = first (at_line line (same_fault facts)) (after rest)
block_fault facts (Sum line parts rest) = first (at_line line (sum_fault facts parts)) (after rest)
block_fault facts (Inst line hyp terms name rest) = going line (with_instance facts hyp terms name) (λ known. block_fault known rest)
block_fault facts (Parts line hyp left right rest) = going line (with_parts facts hyp left right) (λ known. block_fault known rest)
block_fault facts (Split line hyp name one two rest) = first (going line (with_cases facts hyp name) (λ cases. first (block_fault cases.left one) (block_fault cases.right two))) (after rest)
block_fault facts (Cut line form name block rest) = going line (with_cut facts form name) (λ cases. first (block_fault cases.left block) (block_fault cases.right rest))
block_fault facts (Read line map key name rest) = going line (fitting (with_fact facts name (read_fact map key))) (λ known. block_fault known rest)
block_fault facts (Size line map key name rest) = going line (fitting (with_fact facts name (size_fact map key))) (λ known. block_fault known rest)
block_fault facts (Total line map key name rest) = going line (fitting (with_fact facts name (total_fact map key))) (λ known. block_fault known rest)
block_fault facts (Cong line map left right name rest) = going line (fitting (with_fact facts name (cong_fact map left right))) (λ known. block_fault known rest)

-- the first rule that a script breaks, for a claim under hypotheses
abbrev pub script_fault : List Fact → Formula → Plan → Option Refusal
script_fault hyps claim plan = block_fault (hyps ++ denial claim ∷ []) plan
