-- The loop over an operation's statements: what is left to show, to know and to leave, from one statement to the next.
use Rattle.std.proofs.Common.{◌≡◌, ℕ, suc, List, [], ◌∷◌, ◌++◌, None, Err, sym, ap, ◌∙◌}
use Rattle.sync_base.specs.declared.stops.Stop.{Stop}
use Rattle.sync_base.specs.Outcome.{Passes}
use Rattle.sync_terms.specs.Trees.{Tree}
use Rattle.sync_machine.specs.declared.fields.Field.{Field}
use Rattle.sync_machine.specs.Machines.{StepTree}
use Rattle.sync_machine.specs.States.{strategy_of, current_of, advanced, last_values}
use Rattle.sync_kernel_facts.specs.Facts.{Fact}
use Rattle.sync_induct.specs.Checks.{checks_fault}
use Rattle.sync_terms.specs.Proofs.{ProofTree}
use Rattle.sync_induct.specs.Duties.{step_facts, facts_behind}
use Rattle.sync_induct.specs.Checklist.{Check, statement_checks, step_checks, AreShown}
use Rattle.sync_induct.proofs.Remaining.{Remains, remains-same, remains-past, remains-refused}

-- where the walk stands: values, facts, number and the statements that are left
pub record Place : Type 0 where
  pub cur : List Tree
  pub facts : List Fact
  pub number : ℕ
  pub rest : List StepTree

abbrev pub checks_left : List Field → ℕ → Place → List Check
checks_left fs op p = step_checks fs op p.cur p.facts p.number p.rest

abbrev pub facts_from : List Field → Place → List Fact
facts_from fs p = facts_behind fs p.cur p.facts p.number p.rest

abbrev pub values_from : List Field → Place → List Tree
values_from fs p = last_values fs p.cur p.rest

-- one place is as good as an earlier one
pub record Continues (fs : List Field) (op : ℕ) (ps : List ProofTree) (from to : Place) : Type 0 where
  pub checks : Remains ps (checks_left fs op from) (checks_left fs op to)
  pub facts : facts_from fs to ≡ facts_from fs from
  pub values : values_from fs to ≡ values_from fs from

abbrev pub own_checks : List Field → ℕ → Place → StepTree → List Check
own_checks fs op p x = statement_checks op p.number p.facts (strategy_of fs x.act) (current_of p.cur x.act) x

abbrev pub behind : List Field → Place → StepTree → List StepTree → Place
behind fs p x rest = record { cur = advanced fs p.cur x.act; facts = p.facts ++ step_facts fs p.cur p.number x; number = suc p.number; rest = rest }

own-first : (fs : List Field) (op : ℕ) (p : Place) (x : StepTree) (rest : List StepTree) → p.rest ≡ x ∷ rest → checks_left fs op p ≡ own_checks fs op p x ++ checks_left fs op (behind fs p x rest)
unfolding step_checks
own-first fs op p x rest is = ap (λ (r : List StepTree). step_checks fs op p.cur p.facts p.number r) is

-- past a statement whose own checks are right
pub goes-on : (fs : List Field) (op : ℕ) (ps : List ProofTree) (from p : Place) (x : StepTree) (rest : List StepTree) → p.rest ≡ x ∷ rest → Continues fs op ps from p
    → checks_fault ps (own_checks fs op p x) ≡ None → AreShown (own_checks fs op p x) → Continues fs op ps from (behind fs p x rest)
unfolding facts_behind last_values
goes-on fs op ps from p x rest is so_far none shown = record {
  checks = remains-past ps (checks_left fs op from) (own_checks fs op p x) (checks_left fs op (behind fs p x rest))
      (remains-same ps (checks_left fs op from) (checks_left fs op p) _ (own-first fs op p x rest is) so_far.checks) none shown;
  facts = ap (λ (r : List StepTree). facts_behind fs p.cur p.facts p.number r) (sym is) ∙ so_far.facts;
  values = ap (λ (r : List StepTree). last_values fs p.cur r) (sym is) ∙ so_far.values;
}

-- a statement whose own checks fail
pub fails-here : (A B : Type 0) (fs : List Field) (op : ℕ) (ps : List ProofTree) (from p : Place) (x : StepTree) (rest : List StepTree) (e : Stop) → p.rest ≡ x ∷ rest → Continues fs op ps from p
    → Passes {A = A} (Err e) (checks_fault ps (own_checks fs op p x)) → Passes {A = B} (Err e) (checks_fault ps (checks_left fs op from))
fails-here A B fs op ps from p x rest e is so_far h =
    remains-refused A B e ps (checks_left fs op from) (own_checks fs op p x) (checks_left fs op (behind fs p x rest))
    (remains-same ps (checks_left fs op from) (checks_left fs op p) _ (own-first fs op p x rest is) so_far.checks) h

-- no statement is left
none-left : (fs : List Field) (op : ℕ) (p : Place) → p.rest ≡ [] → checks_left fs op p ≡ []
unfolding step_checks
none-left fs op p is = ap (λ (r : List StepTree). step_checks fs op p.cur p.facts p.number r) is

pub ends : (fs : List Field) (op : ℕ) (ps : List ProofTree) (from p : Place) → p.rest ≡ [] → Continues fs op ps from p → Remains ps (checks_left fs op from) []
ends fs op ps from p is so_far = remains-same ps (checks_left fs op from) (checks_left fs op p) [] (none-left fs op p is) so_far.checks

pub ends-facts : (fs : List Field) (op : ℕ) (ps : List ProofTree) (from p : Place) → p.rest ≡ [] → Continues fs op ps from p → p.facts ≡ facts_from fs from
unfolding facts_behind
ends-facts fs op ps from p is so_far = ap (λ (r : List StepTree). facts_behind fs p.cur p.facts p.number r) (sym is) ∙ so_far.facts

pub ends-values : (fs : List Field) (op : ℕ) (ps : List ProofTree) (from p : Place) → p.rest ≡ [] → Continues fs op ps from p → p.cur ≡ values_from fs from
unfolding last_values
ends-values fs op ps from p is so_far = ap (λ (r : List StepTree). last_values fs p.cur r) (sym is) ∙ so_far.values
