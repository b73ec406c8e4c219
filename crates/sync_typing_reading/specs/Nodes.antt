-- The children of a node, and a node with others.
use Rattle.std.specs.Prelude.{◌≡◌, ℕ, ◌<◌, Option, Some, None, unwrap_or}
use Rattle.sync_terms.specs.declared.nodes.TermId.{TermId}
use Rattle.sync_terms.specs.declared.nodes.Node.{Node}
use Rattle.sync_terms.specs.declared.nodes.Node.TheVariants as node
use Rattle.sync_terms.specs.declared.nodes.FormId.{FormId}
use Rattle.sync_terms.specs.declared.nodes.FormNode.{FormNode}
use Rattle.sync_terms.specs.declared.nodes.FormNode.TheVariants as form
use Rattle.sync_terms.specs.Stored.{Stored, tree, IsTerm}
use Rattle.sync_terms.specs.Building.{HasTerm}
use Rattle.sync_terms.specs.Trees.{Tree, tree_size}
use Rattle.sync_typing_reading.specs.declared.reading.Children.{Children}

abbrev pub children_of : Node → Children
children_of (node.Lit n) = record { first = None; second = None; third = None }
children_of (node.Name x) = record { first = None; second = None; third = None }
children_of (node.Add a b) = record { first = Some a; second = Some b; third = None }
children_of (node.Sub a b) = record { first = Some a; second = Some b; third = None }
children_of (node.Scale n a) = record { first = Some a; second = None; third = None }
children_of (node.Get m k) = record { first = Some m; second = Some k; third = None }
children_of (node.Has m k) = record { first = Some m; second = Some k; third = None }
children_of (node.Size m) = record { first = Some m; second = None; third = None }
children_of (node.Sum m) = record { first = Some m; second = None; third = None }
children_of node.Nil = record { first = None; second = None; third = None }
children_of (node.Put m k v) = record { first = Some m; second = Some k; third = Some v }
children_of (node.Del m k) = record { first = Some m; second = Some k; third = None }
children_of (node.Bump m k n) = record { first = Some m; second = Some k; third = Some n }

-- a node over other children, its own where one is wanting
abbrev pub node_over : Node → Children → Node
node_over (node.Lit n) c = node.Lit n
node_over (node.Name x) c = node.Name x
node_over (node.Add a b) c = node.Add (unwrap_or c.first a) (unwrap_or c.second b)
node_over (node.Sub a b) c = node.Sub (unwrap_or c.first a) (unwrap_or c.second b)
node_over (node.Scale n a) c = node.Scale n (unwrap_or c.first a)
node_over (node.Get m k) c = node.Get (unwrap_or c.first m) (unwrap_or c.second k)
node_over (node.Has m k) c = node.Has (unwrap_or c.first m) (unwrap_or c.second k)
node_over (node.Size m) c = node.Size (unwrap_or c.first m)
node_over (node.Sum m) c = node.Sum (unwrap_or c.first m)
node_over node.Nil c = node.Nil
node_over (node.Put m k v) c = node.Put (unwrap_or c.first m) (unwrap_or c.second k) (unwrap_or c.third v)
node_over (node.Del m k) c = node.Del (unwrap_or c.first m) (unwrap_or c.second k)
node_over (node.Bump m k n) c = node.Bump (unwrap_or c.first m) (unwrap_or c.second k) (unwrap_or c.third n)

-- a child that is there is of the store
abbrev pub IsChildOf : Stored → Option TermId → Type 0
IsChildOf s None = Unit {0}
IsChildOf s (Some a) = IsTerm s a

abbrev pub IsChildBelow : ℕ → Option TermId → Type 0
IsChildBelow n None = Unit {0}
IsChildBelow n (Some a) = a.0 < n

-- the number of nodes of what a child becomes
abbrev pub child_size : (Tree → Tree) → Stored → Option TermId → ℕ
child_size f s None = 0
child_size f s (Some a) = tree_size (f (tree s a))

-- what a child becomes
abbrev pub IsRead : (Tree → Tree) → Stored → Stored → Option TermId → Option TermId → Type 0
IsRead f s t None new = new ≡ None
IsRead f s t (Some a) None = ⊥
IsRead f s t (Some a) (Some b) = HasTerm t (f (tree s a)) b

-- a comparison of other terms, and two other formulas joined alike
abbrev pub compared_over : FormNode → TermId → TermId → FormNode
compared_over (form.Le a b) l r = form.Le l r
compared_over (form.Lt a b) l r = form.Lt l r
compared_over (form.Eq a b) l r = form.Eq l r
compared_over other l r = other

abbrev pub joined_over : FormNode → FormId → FormId → FormNode
joined_over (form.And f g) l r = form.And l r
joined_over (form.Or f g) l r = form.Or l r
joined_over (form.Imp f g) l r = form.Imp l r
joined_over other l r = other
