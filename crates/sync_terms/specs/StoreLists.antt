-- What a store keeps of its lists: each node once, behind its children, with the size of its tree.
use Rattle.std.specs.Prelude.{◌≡◌, ℕ, pos, ◌<◌, ◌≤◌, List, length, map, slice_index_or, slice_index}
use Rattle.sync_terms.specs.declared.nodes.Node.{Node}
use Rattle.sync_terms.specs.declared.nodes.Node.TheVariants as node
use Rattle.sync_terms.specs.declared.nodes.FormNode.{FormNode}
use Rattle.sync_terms.specs.declared.nodes.FormNode.TheVariants as form
use Rattle.sync_terms.specs.Trees.{most_nodes, Nil, Eq, tree_size, formula_size}
use Rattle.sync_terms.specs.Stored.{Stored, grown, trees, grown_form, formulas, ChildrenBelow, PartsBelow}

abbrev pub node_at : List Node → ℕ → Node
node_at ns k = slice_index_or ns k (node.Lit (pos 0))

abbrev pub form_at : List FormNode → ℕ → FormNode
form_at fs k = slice_index_or fs k (form.Le (record { 0 = 0 }) (record { 0 = 0 }))

-- each node has earlier children, of whose trees its own is made; it stands once; the sizes are those of the trees
pub record AreTerms (nodes : List Node) (sizes : List ℕ) : Type 0 where
  pub earlier : (k : ℕ) → k < length nodes → ChildrenBelow k (node_at nodes k)
  pub made : (k : ℕ) → k < length nodes → slice_index_or (trees nodes) k Nil ≡ grown (trees nodes) (node_at nodes k)
  pub once : (i j : ℕ) → i < length nodes → j < length nodes → node_at nodes i ≡ node_at nodes j → i ≡ j
  pub counted : sizes ≡ map tree_size (trees nodes)
  pub small : (k : ℕ) → slice_index sizes k ≤ most_nodes

-- the same of formulas over these nodes
pub record AreForms (nodes : List Node) (forms : List FormNode) (sizes : List ℕ) : Type 0 where
  pub earlier : (k : ℕ) → k < length forms → PartsBelow (length nodes) k (form_at forms k)
  pub made : (k : ℕ) → k < length forms → slice_index_or (formulas (trees nodes) forms) k (Eq Nil Nil) ≡ grown_form (trees nodes) (formulas (trees nodes) forms) (form_at forms k)
  pub once : (i j : ℕ) → i < length forms → j < length forms → form_at forms i ≡ form_at forms j → i ≡ j
  pub counted : sizes ≡ map formula_size (formulas (trees nodes) forms)
  pub small : (k : ℕ) → slice_index sizes k ≤ most_nodes

-- the store's nodes and sizes are in order
pub record AreInOrder (s : Stored) (sizes form_sizes : List ℕ) : Type 0 where
  pub terms : AreTerms s.nodes sizes
  pub forms : AreForms s.nodes s.forms form_sizes
