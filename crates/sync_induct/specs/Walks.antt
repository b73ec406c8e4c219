-- What is known at a place of an operation: hypotheses, and each field's value so far, over a store that grows.
use Rattle.std.specs.Prelude.{◌≡◌, ℕ, ◌++◌, List, map, Option, Some, None, slice_set}
use Rattle.std.specs.List.{AllByRecursion}
use Rattle.sync_terms.specs.Trees.{Tree, Nil, Formula}
use Rattle.sync_terms.specs.declared.nodes.TermId.{TermId}
use Rattle.sync_terms.specs.Stored.{Stored, tree, IsTerm}
use Rattle.sync_machine.specs.declared.fields.Field.{Field}
use Rattle.sync_machine.specs.declared.machine.Step.{Step}
use Rattle.sync_machine.specs.Machines.{StepTree}
use Rattle.sync_machine.specs.Statements.{safety, condition, after}
use Rattle.sync_machine.specs.States.{strategy_of, current_of, advanced}
use Rattle.sync_machine.specs.Views.{act_tree, step_tree, HasActIds}
use Rattle.sync_kernel_facts.specs.Facts.{Fact}
use Rattle.sync_kernel.specs.Hypotheses.{AreReady, known_in}
use Rattle.sync_induct.specs.declared.statements.Statement.{Statement}
use Rattle.sync_induct.specs.declared.walks.Walk.{Walk}
use Rattle.sync_induct.specs.Duties.{safety_duties, step_facts}
use Rattle.sync_induct.specs.Checklist.{Check, proves, statement_checks}

-- the fields' values so far
abbrev pub values_of : Stored → Walk → List Tree
values_of s w = map (tree s) w.current.items

-- the facts so far
abbrev pub known_of : Stored → Walk → List Fact
known_of s w = known_in s w.hyps

-- ids of a store with these trees
pub record HaveTrees (s : Stored) (ids : List TermId) (trees : List Tree) : Type 0 where
  pub terms : AllByRecursion (IsTerm s) ids
  pub are : map (tree s) ids ≡ trees

-- a walk over a store: its ids are of the store
pub record IsWalk (s : Stored) (w : Walk) : Type 0 where
  pub ready : AreReady s w.hyps
  pub values : AllByRecursion (IsTerm s) w.current.items

-- the walk has come to these facts and values
pub record HasCome (s : Stored) (w : Walk) (facts : List Fact) (values : List Tree) : Type 0 where
  pub walk : IsWalk s w
  pub known : known_of s w ≡ facts
  pub now : values_of s w ≡ values

-- ---- one statement

-- a value; the empty map where there is none
abbrev pub tree_or_nil : Stored → Option TermId → Tree
tree_or_nil s (Some id) = tree s id
tree_or_nil s None = Nil

-- The code holds the statement x, which has the number n in the operation op, with its field's strategy and value so far.
pub record IsStatement (s : Stored) (fs : List Field) (op n : ℕ) (cur : List Tree) (x : StepTree) (a : Statement) : Type 0 where
  pub owner : a.op ≡ op
  pub number : a.number ≡ n
  pub ids : HasActIds s a.step.act
  pub is : step_tree s a.step ≡ x
  pub strategy : a.strategy ≡ strategy_of fs x.act
  pub stored : IsTerm s a.current
  pub value : tree s a.current ≡ current_of cur x.act

-- the safety condition of a statement, what is known behind it, and its field's value behind it
abbrev pub safety_at : Stored → Statement → Option Formula
safety_at s a = safety a.strategy (tree s a.current) (act_tree s a.step.act)

abbrev pub condition_at : Stored → Statement → Option Formula
condition_at s a = condition a.strategy (tree s a.current) (act_tree s a.step.act)

abbrev pub value_at : Stored → Statement → Tree
value_at s a = after a.strategy (tree s a.current) (act_tree s a.step.act)

-- what it has to show, after the walk so far
abbrev pub owed : Stored → Walk → Statement → List Check
owed s w a = proves (safety_duties a.op a.number a.step.line (known_of s w) (safety_at s a))

-- the values where the one of a field is replaced, if there is a field
abbrev pub values_with : Option ℕ → Tree → List Tree → List Tree
values_with (Some f) t cur = slice_set cur f t
values_with None t cur = cur

-- the checks of the statement x, and the facts and values behind it
abbrev pub checks_at : Stored → List Field → ℕ → ℕ → Walk → Step → List Check
checks_at s fs op n w x = statement_checks op n (known_of s w) (strategy_of fs (act_tree s x.act)) (current_of (values_of s w) (act_tree s x.act)) (step_tree s x)

abbrev pub facts_after : Stored → List Field → ℕ → Walk → Step → List Fact
facts_after s fs n w x = known_of s w ++ step_facts fs (values_of s w) n (step_tree s x)

abbrev pub values_after : Stored → List Field → Walk → Step → List Tree
values_after s fs w x = advanced fs (values_of s w) (act_tree s x.act)
