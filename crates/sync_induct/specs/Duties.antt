-- What has to be proved of each operation, as sequents: the obligations with their hypotheses and claims.
use Rattle.std.specs.Prelude.{ℕ, suc, List, [], ◌∷◌, ◌++◌, map, length, slice_index_or, nat_eq, nat_lt, Option, Some, None, if◌then◌else◌}
use Rattle.std.specs.List.{AllByRecursion, list_any}
use Rattle.sync_terms.specs.declared.scripts.HypName.TheVariants.{Label, At}
use Rattle.sync_terms.specs.Symbols.{dollar_symbol}
use Rattle.sync_terms.specs.Trees.{Tree, Name, Nil, Formula, replaced_in}
use Rattle.sync_terms.specs.Values.{IsValid}
use Rattle.sync_machine.specs.declared.fields.Field.{Field}
use Rattle.sync_base.specs.declared.strategies.OpMode.{OpMode}
use Rattle.sync_base.specs.declared.strategies.OpMode.TheVariants as mode
use Rattle.sync_machine.specs.Machines.{StepTree, OperationTree, InvariantTree, MachineTree}
use Rattle.sync_machine.specs.Statements.{safety, condition}
use Rattle.sync_machine.specs.States.{strategy_of, current_of, advanced, last_values, first_values}
use Rattle.sync_terms.specs.declared.proofs.Claim.TheVariants as claims
use Rattle.sync_terms.specs.declared.proofs.Obligation.{Obligation}
use Rattle.sync_rules.specs.Obligations.{has_to_keep}
use Rattle.sync_terms.specs.Values.{Hypothesis}
use Rattle.sync_kernel_facts.specs.Facts.{Fact, as_hypothesis}

-- an obligation as a sequent: what may be used, and what has to follow from it
pub record Duty : Type 0 where
  pub obligation : Obligation
  pub facts : List Fact
  pub claim : Formula

-- the invariants under their names, with their parameters
abbrev pub invariant_facts : List InvariantTree → List Fact
invariant_facts is = map (λ i. record { name = Label i.name; params = i.params; form = i.form }) is

-- the condition of the statement with number n, if it has one
abbrev pub condition_facts : ℕ → Option Formula → List Fact
condition_facts n (Some form) = record { name = At n; params = []; form = form } ∷ []
condition_facts n None = []

-- what is known of the statement with number n behind it
abbrev pub step_facts : List Field → List Tree → ℕ → StepTree → List Fact
step_facts fs cur n s = condition_facts n (condition (strategy_of fs s.act) (current_of cur s.act) s.act)

-- the duty that a safety condition makes, if there is one
abbrev pub safety_duties : ℕ → ℕ → ℕ → List Fact → Option Formula → List Duty
safety_duties op n line facts (Some form) = record { obligation = record { op = op; claim = claims.At n; line = line }; facts = facts; claim = form } ∷ []
safety_duties op n line facts None = []

-- all that is known behind statements that are numbered from n
unfoldable pub facts_behind : List Field → List Tree → List Fact → ℕ → List StepTree → List Fact
facts_behind fs cur facts n [] = facts
facts_behind fs cur facts n (s ∷ ss) = facts_behind fs (advanced fs cur s.act) (facts ++ step_facts fs cur n s) (suc n) ss

-- An invariant behind the operation: each field replaced by its last value, and each parameter p by `$p`.
abbrev pub closing : List ℕ → List Tree → ℕ → Tree
closing params last x = if nat_lt x (length last) then slice_index_or last x Nil else (if list_any (nat_eq x) params then Name (dollar_symbol x) else Name x)

-- an invariant behind an operation that leaves these values
abbrev pub closed_form : List Tree → InvariantTree → Formula
closed_form last i = replaced_in (closing i.params last) i.form

-- the duty to keep an invariant
abbrev pub kept_duty : Obligation → List Fact → List Tree → InvariantTree → Duty
kept_duty obligation facts last i = record { obligation = obligation; facts = facts; claim = closed_form last i }

-- the invariants, numbered from j, that the operation has to keep
unfoldable pub keeps_duties : OperationTree → ℕ → List Fact → List Tree → ℕ → List InvariantTree → List Duty
keeps_duties o op facts last j [] = []
keeps_duties o op facts last j (i ∷ is) =
    if has_to_keep o i then kept_duty (record { op = op; claim = claims.Keeps j; line = o.line }) facts last i ∷ keeps_duties o op facts last (suc j) is
    else keeps_duties o op facts last (suc j) is

-- what may be used from the first statement on: the invariants, but for an init nothing
abbrev pub base_facts : OpMode → List InvariantTree → List Fact
base_facts mode.Init is = []
base_facts mode.Transition is = invariant_facts is
base_facts mode.Property is = invariant_facts is

abbrev pub as_hypotheses : List Fact → List Hypothesis
as_hypotheses facts = map as_hypothesis facts

-- a duty's claim follows from its facts
abbrev pub IsProved : Duty → Type 0
IsProved d = IsValid (as_hypotheses d.facts) d.claim
