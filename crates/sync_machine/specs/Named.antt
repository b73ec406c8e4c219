-- What the statements of a machine without a fault speak of: known names alone, each as its sort.
use Rattle.std.specs.Prelude.{◌≡◌, ℕ, ◌<◌, ◌≤◌, ◌++◌, List, length, Option, Some, None}
use Rattle.std.specs.List.{AllByRecursion}
use Rattle.sync_terms.specs.Trees.{Tree}
use Rattle.sync_machine.specs.declared.fields.Field.{Field}
use Rattle.sync_machine.specs.Machines.{PatternTree, Bind, Term, PlaceTree, ActTree, StepTree, OperationTree, MachineTree}
use Rattle.sync_machine.specs.Machines as acts
use Rattle.sync_machine.specs.Naming.{bound_names}
use Rattle.sync_machine.specs.States.{Numbers, sort_of, strategy_at}
use Rattle.sync_machine.specs.Scope.{Known, knows, IsNumber, IsFormula, HasSort, IsNameSymbol, IsScopedInvariant}

abbrev pub IsKeyIn : Known → Option Tree → Type 0
IsKeyIn k None = Unit {0}
IsKeyIn k (Some t) = IsNumber k t

abbrev pub IsPatternIn : Known → Option PatternTree → Type 0
IsPatternIn k None = Unit {0}
IsPatternIn k (Some (Bind x)) = k x ≡ Some Numbers
IsPatternIn k (Some (Term t)) = IsNumber k t

abbrev pub IsPlaceIn : Known → PlaceTree → Type 0
IsPlaceIn k p = IsKeyIn k p.key × IsPatternIn k p.value

-- a statement is about a declared field and speaks of known symbols alone, each as its sort
abbrev pub IsStatementIn : List Field → Known → ActTree → Type 0
IsStatementIn fs k (acts.Init f t) = (f < length fs) × HasSort k (sort_of (strategy_at fs f)) t
IsStatementIn fs k (acts.Update f t) = (f < length fs) × HasSort k (sort_of (strategy_at fs f)) t
IsStatementIn fs k (acts.Require form) = IsFormula k form
IsStatementIn fs k (acts.Assert form) = IsFormula k form
IsStatementIn fs k (acts.HaveVariable f) = f < length fs
IsStatementIn fs k (acts.Add f p) = (f < length fs) × IsPlaceIn k p
IsStatementIn fs k (acts.Remove f p) = (f < length fs) × IsPlaceIn k p
IsStatementIn fs k (acts.Have f p) = (f < length fs) × IsPlaceIn k p
IsStatementIn fs k (acts.Deposit f p) = (f < length fs) × IsPlaceIn k p
IsStatementIn fs k (acts.Withdraw f p) = (f < length fs) × IsPlaceIn k p
IsStatementIn fs k (acts.Guard f p) = (f < length fs) × IsPlaceIn k p

-- the names that an operation may use besides the fields: its parameters, and those that its statements bind
abbrev pub own_names : OperationTree → List ℕ
own_names o = o.params ++ bound_names o.steps

-- the statements of an operation speak of the fields and of these names alone
pub record KnowsItsNames (fs : List Field) (o : OperationTree) : Type 0 where
  pub are_names : AllByRecursion IsNameSymbol (own_names o)
  pub statements : AllByRecursion (λ (s : StepTree). IsStatementIn fs (knows fs (own_names o)) s.act) o.steps

-- all names of a machine are known, each as its sort
pub record IsNamed (m : MachineTree) : Type 0 where
  pub few_fields : length m.fields ≤ 32
  pub operations : AllByRecursion (KnowsItsNames m.fields) m.ops
  pub invariants : AllByRecursion (IsScopedInvariant m.fields) m.invariants
