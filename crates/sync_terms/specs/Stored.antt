-- What a store of terms holds: nodes that point to earlier nodes, and the trees that they stand for.
use Rattle.std.specs.Prelude.{◌≡◌, ◌⊎◌, ℕ, ◌<◌, List, [], ◌∷◌, ◌++◌, length, fold, slice_index_or}
use Rattle.sync_terms.specs.declared.nodes.TermId.{TermId}
use Rattle.sync_terms.specs.declared.nodes.FormId.{FormId}
use Rattle.sync_terms.specs.declared.nodes.Node.{Node}
use Rattle.sync_terms.specs.declared.nodes.Node.TheVariants as node
use Rattle.sync_terms.specs.declared.nodes.FormNode.{FormNode}
use Rattle.sync_terms.specs.declared.nodes.FormNode.TheVariants as form
use Rattle.sync_terms.specs.Trees.{Tree, Lit, Name, Add, Sub, Scale, Get, Has, Size, Sum, Nil, Put, Del, Bump, Formula, Le, Lt, Eq, Not, And, Or, Imp}

-- the nodes of terms and of formulas, each in the order in which they were added; an id is a place here
pub record Stored : Type 0 where
  pub nodes : List Node
  pub forms : List FormNode

abbrev pub tree_at : List Tree → TermId → Tree
tree_at ts id = slice_index_or ts id.0 Nil

-- the tree that a node makes of the trees before it
abbrev pub grown : List Tree → Node → Tree
grown ts (node.Lit n) = Lit n
grown ts (node.Name x) = Name x.0
grown ts (node.Add a b) = Add (tree_at ts a) (tree_at ts b)
grown ts (node.Sub a b) = Sub (tree_at ts a) (tree_at ts b)
grown ts (node.Scale n a) = Scale n (tree_at ts a)
grown ts (node.Get m k) = Get (tree_at ts m) (tree_at ts k)
grown ts (node.Has m k) = Has (tree_at ts m) (tree_at ts k)
grown ts (node.Size m) = Size (tree_at ts m)
grown ts (node.Sum m) = Sum (tree_at ts m)
grown ts node.Nil = Nil
grown ts (node.Put m k v) = Put (tree_at ts m) (tree_at ts k) (tree_at ts v)
grown ts (node.Del m k) = Del (tree_at ts m) (tree_at ts k)
grown ts (node.Bump m k n) = Bump (tree_at ts m) (tree_at ts k) (tree_at ts n)

abbrev pub next_tree : List Tree → Node → List Tree
next_tree ts n = ts ++ grown ts n ∷ []

-- the trees of a list of nodes, oldest first
unfoldable pub trees : List Node → List Tree
trees ns = fold next_tree [] ns

-- the tree of an id
unfoldable pub tree : Stored → TermId → Tree
tree s id = tree_at (trees s.nodes) id

abbrev pub formula_at : List Formula → FormId → Formula
formula_at fs id = slice_index_or fs id.0 (Eq Nil Nil)

-- the formula that a node makes of the terms and of the formulas before it
abbrev pub grown_form : List Tree → List Formula → FormNode → Formula
grown_form ts fs (form.Le a b) = Le (tree_at ts a) (tree_at ts b)
grown_form ts fs (form.Lt a b) = Lt (tree_at ts a) (tree_at ts b)
grown_form ts fs (form.Eq a b) = Eq (tree_at ts a) (tree_at ts b)
grown_form ts fs (form.Not f) = Not (formula_at fs f)
grown_form ts fs (form.And f g) = And (formula_at fs f) (formula_at fs g)
grown_form ts fs (form.Or f g) = Or (formula_at fs f) (formula_at fs g)
grown_form ts fs (form.Imp f g) = Imp (formula_at fs f) (formula_at fs g)

abbrev pub next_formula : List Tree → List Formula → FormNode → List Formula
next_formula ts fs n = fs ++ grown_form ts fs n ∷ []

unfoldable pub formulas : List Tree → List FormNode → List Formula
formulas ts ns = fold (next_formula ts) [] ns

-- the formula of an id
unfoldable pub formula : Stored → FormId → Formula
formula s id = formula_at (formulas (trees s.nodes) s.forms) id

-- an id of this store
abbrev pub IsTerm : Stored → TermId → Type 0
IsTerm s id = id.0 < length s.nodes

abbrev pub IsForm : Stored → FormId → Type 0
IsForm s id = id.0 < length s.forms

-- the tree that a node would have, and the formula
unfoldable pub shape : Stored → Node → Tree
shape s n = grown (trees s.nodes) n

unfoldable pub form_shape : Stored → FormNode → Formula
form_shape s n = grown_form (trees s.nodes) (formulas (trees s.nodes) s.forms) n

-- P holds of each child of a node
abbrev pub EachChild : (TermId → Type 0) → Node → Type 0
EachChild P (node.Lit n) = Unit {0}
EachChild P (node.Name x) = Unit {0}
EachChild P (node.Add a b) = P a × P b
EachChild P (node.Sub a b) = P a × P b
EachChild P (node.Scale n a) = P a
EachChild P (node.Get m k) = P m × P k
EachChild P (node.Has m k) = P m × P k
EachChild P (node.Size m) = P m
EachChild P (node.Sum m) = P m
EachChild P node.Nil = Unit {0}
EachChild P (node.Put m k v) = P m × P k × P v
EachChild P (node.Del m k) = P m × P k
EachChild P (node.Bump m k n) = P m × P k × P n

-- the children of a node are ids below a number
abbrev pub ChildrenBelow : ℕ → Node → Type 0
ChildrenBelow n x = EachChild (λ c. c.0 < n) x

-- P holds of each term of a formula's node, and Q of each formula
abbrev pub EachPart : (TermId → Type 0) → (FormId → Type 0) → FormNode → Type 0
EachPart P Q (form.Le a b) = P a × P b
EachPart P Q (form.Lt a b) = P a × P b
EachPart P Q (form.Eq a b) = P a × P b
EachPart P Q (form.Not f) = Q f
EachPart P Q (form.And f g) = Q f × Q g
EachPart P Q (form.Or f g) = Q f × Q g
EachPart P Q (form.Imp f g) = Q f × Q g

-- the terms of a formula's node are ids below one number, and its formulas ids below another
abbrev pub PartsBelow : ℕ → ℕ → FormNode → Type 0
PartsBelow n p x = EachPart (λ a. a.0 < n) (λ f. f.0 < p) x

-- the children of a node are ids of this store
abbrev pub HasChildren : Stored → Node → Type 0
HasChildren s n = ChildrenBelow (length s.nodes) n

abbrev pub HasParts : Stored → FormNode → Type 0
HasParts s n = PartsBelow (length s.nodes) (length s.forms) n

-- the new store has each earlier id, with the same tree
pub record Extends (old new : Stored) : Type 0 where
  pub terms : (id : TermId) → IsTerm old id → IsTerm new id × (tree new id ≡ tree old id)
  pub forms : (id : FormId) → IsForm old id → IsForm new id × (formula new id ≡ formula old id)

-- two ids of terms with the same tree are one, and so are two of formulas
pub record IsShared (s : Stored) : Type 0 where
  pub terms : (a b : TermId) → IsTerm s a → IsTerm s b → tree s a ≡ tree s b → a ≡ b
  pub forms : (f g : FormId) → IsForm s f → IsForm s g → formula s f ≡ formula s g → f ≡ g

-- the node was there, or it went last
abbrev pub GainsTerm : Stored → Node → Stored → Type 0
GainsTerm old x new = (new ≡ old) ⊎ (new ≡ record { nodes = old.nodes ++ x ∷ []; forms = old.forms })

abbrev pub GainsForm : Stored → FormNode → Stored → Type 0
GainsForm old x new = (new ≡ old) ⊎ (new ≡ record { nodes = old.nodes; forms = old.forms ++ x ∷ [] })
