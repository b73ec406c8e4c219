-- What comes of building a term or a formula in a store that has a limit for their sizes.
use Rattle.std.specs.Prelude.{◌≡◌, ℕ, ◌<◌, ◌≤◌, Result, IfOk, OnOk, IfErr}
use Rattle.sync_terms.specs.declared.nodes.TermId.{TermId}
use Rattle.sync_terms.specs.declared.nodes.FormId.{FormId}
use Rattle.sync_terms.specs.declared.nodes.Node.{Node}
use Rattle.sync_terms.specs.declared.nodes.Node.TheVariants as node
use Rattle.sync_terms.specs.declared.nodes.FormNode.{FormNode}
use Rattle.sync_terms.specs.declared.nodes.FormNode.TheVariants as form
use Rattle.sync_terms.specs.declared.store.TermStop.{TermStop}
use Rattle.sync_terms.specs.declared.store.TermStop.TheVariants.{TooLarge, Memory}
use Rattle.sync_terms.specs.Trees.{most_nodes}
use Rattle.sync_terms.specs.Stored.{Stored, tree, formula, IsTerm, IsForm}
use Rattle.sync_terms.specs.Trees.{Tree, Lit, Name, Add, Sub, Scale, Get, Has, Size, Sum, Nil, Put, Del, Bump, Formula, Le, Lt, Eq, Not, And, Or, Imp, tree_size, formula_size}

-- the store has this term under the id
pub record HasTerm (s : Stored) (t : Tree) (id : TermId) : Type 0 where
  pub stored : IsTerm s id
  pub value : tree s id ≡ t

-- the store has this formula under the id
pub record HasForm (s : Stored) (f : Formula) (id : FormId) : Type 0 where
  pub stored : IsForm s id
  pub value : formula s id ≡ f

-- what has this many nodes is over the limit, or memory was wanting
abbrev pub StopsBuilding : ℕ → TermStop → Type 0
StopsBuilding size TooLarge = most_nodes < size
StopsBuilding size Memory = Unit {0}

-- Unless memory was wanting: the term where it is within the limit, else that it is too large.
pub record BuildsTerm (s : Stored) (t : Tree) (answer : Result TermId TermStop) : Type 0 where
  pub value : IfOk answer (HasTerm s t)
  pub fits : OnOk answer (tree_size t ≤ most_nodes)
  pub stop : IfErr answer (StopsBuilding (tree_size t))

-- Unless memory was wanting: the formula where it is within the limit, else that it is too large.
pub record BuildsForm (s : Stored) (f : Formula) (answer : Result FormId TermStop) : Type 0 where
  pub value : IfOk answer (HasForm s f)
  pub fits : OnOk answer (formula_size f ≤ most_nodes)
  pub stop : IfErr answer (StopsBuilding (formula_size f))

-- Unless memory was wanting: the term.
pub record FindsTerm (s : Stored) (t : Tree) (answer : Result TermId TermStop) : Type 0 where
  pub value : IfOk answer (HasTerm s t)
  pub stop : IfErr answer (λ e. e ≡ Memory)

-- the tree of a node, and its formula
abbrev pub node_tree : Stored → Node → Tree
node_tree s (node.Lit n) = Lit n
node_tree s (node.Name x) = Name x.0
node_tree s (node.Add a b) = Add (tree s a) (tree s b)
node_tree s (node.Sub a b) = Sub (tree s a) (tree s b)
node_tree s (node.Scale n a) = Scale n (tree s a)
node_tree s (node.Get m k) = Get (tree s m) (tree s k)
node_tree s (node.Has m k) = Has (tree s m) (tree s k)
node_tree s (node.Size m) = Size (tree s m)
node_tree s (node.Sum m) = Sum (tree s m)
node_tree s node.Nil = Nil
node_tree s (node.Put m k w) = Put (tree s m) (tree s k) (tree s w)
node_tree s (node.Del m k) = Del (tree s m) (tree s k)
node_tree s (node.Bump m k n) = Bump (tree s m) (tree s k) (tree s n)

abbrev pub node_formula : Stored → FormNode → Formula
node_formula s (form.Le a b) = Le (tree s a) (tree s b)
node_formula s (form.Lt a b) = Lt (tree s a) (tree s b)
node_formula s (form.Eq a b) = Eq (tree s a) (tree s b)
node_formula s (form.Not f) = Not (formula s f)
node_formula s (form.And f g) = And (formula s f) (formula s g)
node_formula s (form.Or f g) = Or (formula s f) (formula s g)
node_formula s (form.Imp f g) = Imp (formula s f) (formula s g)
