-- What is known of a fact by its name, and how the code's answers compare with the definitions.
use Rattle.std.specs.Prelude.{◌≡◌, ℕ, ◌<◌, List, Option, Some, None, Result, Ok, Err}
use Rattle.std.specs.List.{AllByRecursion}
use Rattle.sync_base.specs.declared.stops.Rule.{Rule}
use Rattle.sync_base.specs.declared.stops.Rule.TheVariants.{K7, K8}
use Rattle.sync_base.specs.declared.stops.Refusal.{Refusal}
use Rattle.sync_base.specs.declared.stops.Stop.{Stop}
use Rattle.sync_base.specs.declared.stops.Stop.TheVariants.{Refused, Memory}
use Rattle.sync_terms.specs.declared.store.TermStop.{TermStop}
use Rattle.sync_terms.specs.declared.store.TermStop.TheVariants as term
use Rattle.sync_terms.specs.Trees.{most_nodes}
use Rattle.sync_terms.specs.Trees.{Formula, formula_size}
use Rattle.sync_terms.specs.Stored.{Stored, IsForm}
use Rattle.sync_linear.specs.declared.stops.LinearStop.{LinearStop}
use Rattle.sync_linear.specs.declared.stops.LinearStop.TheVariants as linear
use Rattle.sync_linear.specs.Stores.{IsLineOf}
use Rattle.sync_kernel_facts.specs.declared.branches.Known.{Known}
use Rattle.sync_kernel_facts.specs.declared.literals.Literal.{Literal}
use Rattle.sync_kernel.specs.declared.steps.Left.{Left}
use Rattle.sync_kernel.specs.declared.steps.Left.TheVariants.{Open, Closed}
use Rattle.sync_kernel_facts.specs.declared.sequents.Hyp.{Hyp}
use Rattle.sync_kernel.specs.declared.sums.Summed.{Summed}
use Rattle.sync_kernel_facts.specs.Facts.{Fact, is_plain}
use Rattle.sync_kernel_facts.specs.declared.branches.Said.{Said}
use Rattle.sync_kernel.specs.declared.splits.Pair.{Pair}
use Rattle.sync_kernel_facts.specs.Branches.{facts_in}
use Rattle.sync_kernel.specs.Scripts.{Cases, cases_with}
use Rattle.sync_kernel_facts.specs.Literals.{literal_form, IsLiteral}
use Rattle.sync_kernel.specs.Pairs.{pair_forms}
use Rattle.sync_kernel.specs.Steps.{Next}

-- what is known is the fact, or there is none
abbrev pub IsKnown : Stored → Option Known → Option Fact → Type 0
IsKnown s None None = Unit {0}
IsKnown s None (Some f) = ⊥
IsKnown s (Some k) None = ⊥
IsKnown s (Some k) (Some f) = (literal_form s k.says ≡ f.form) × (k.plain ≡ is_plain f) × IsLiteral s k.says

-- all formulas are stored
abbrev pub AreForms : Stored → List Hyp → Type 0
AreForms s hyps = AllByRecursion (λ (h : Hyp). IsForm s h.form) hyps

abbrev pub stop_of : ℕ → LinearStop → Stop
stop_of line linear.Width = Refused (record { line = line; rule = K7 })
stop_of line linear.Memory = Memory

abbrev pub large_stop : ℕ → TermStop → Stop
large_stop line term.TooLarge = Refused (record { line = line; rule = K8 })
large_stop line term.Memory = Memory

-- unless memory was wanting, the new sum and what was used are those of the definition, or the rule is
abbrev pub StepGives : Stored → ℕ → Result Summed Stop → Result Next Rule → Type 0
StepGives s line (Ok x) (Ok n) = IsLineOf s n.sum x.total × (x.used ≡ n.used)
StepGives s line (Ok x) (Err r) = ⊥
StepGives s line (Err Memory) wanted = Unit {0}
StepGives s line (Err (Refused f)) (Ok n) = ⊥
StepGives s line (Err (Refused f)) (Err r) = f ≡ record { line = line; rule = r }

-- a stop is for want of memory, or it is the rule that is wanted, at its line
abbrev pub StopsFor : {X : Type 0} → ℕ → Stop → Result X Rule → Type 0
StopsFor line Memory wanted = Unit {0}
StopsFor line (Refused f) (Ok x) = ⊥
StopsFor line (Refused f) (Err r) = f ≡ record { line = line; rule = r }

-- unless memory was wanting, what is there behind a step is what is wanted, or the rule that it breaks is
abbrev pub Leaves : {A X : Type 0} → ℕ → Result A Stop → (A → X → Type 0) → Result X Rule → Type 0
Leaves line (Ok a) P (Ok x) = P a x
Leaves line (Ok a) P (Err r) = ⊥
Leaves line (Err e) P wanted = StopsFor line e wanted

-- the branch has the facts that are wanted
abbrev pub LeavesFacts : {A : Type 0} → ℕ → Result A Stop → Stored → List Said → Result (List Fact) Rule → Type 0
LeavesFacts line answer s branch wanted = Leaves line answer (λ _ known. facts_in s branch ≡ known) wanted

-- the two formulas make the branches that are wanted of one with these facts
abbrev pub LeavesCases : ℕ → Result Pair Stop → Stored → List Fact → ℕ → Result Cases Rule → Type 0
LeavesCases line answer s facts name wanted = Leaves line answer (λ p cases. cases ≡ cases_with facts name (pair_forms s p)) wanted

-- a stop is for want of memory, or it is the refusal that is wanted
abbrev pub Refuses : Stop → Option Refusal → Type 0
Refuses Memory fault = Unit {0}
Refuses (Refused r) fault = fault ≡ Some r

-- unless memory was wanting, what was made says the formula that is wanted, or the rule is; K8 where the formula alone is too large
abbrev pub Makes : Stored → ℕ → Result Literal Stop → Result Formula Rule → Type 0
Makes s line (Ok l) (Ok f) = (literal_form s l ≡ f) × IsLiteral s l
Makes s line (Ok l) (Err r) = ⊥
Makes s line (Err Memory) wanted = Unit {0}
Makes s line (Err (Refused x)) (Ok f) = (x ≡ record { line = line; rule = K8 }) × (most_nodes < formula_size f)
Makes s line (Err (Refused x)) (Err r) = x ≡ record { line = line; rule = r }

-- unless memory was wanting: what a step and the rest of its block break is what the rest breaks in the branch that the step leaves open, what may not stand behind a step that closes the branch, or the refusal
abbrev pub StepPasses : Result Left Stop → (fault goes closed : Option Refusal) → Type 0
StepPasses (Ok Open) fault goes closed = fault ≡ goes
StepPasses (Ok Closed) fault goes closed = fault ≡ closed
StepPasses (Err e) fault goes closed = Refuses e fault
