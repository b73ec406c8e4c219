-- What a substitution has done so far.
use Rattle.std.specs.Prelude.{◌≡◌, ◌≢◌, ℕ, ◌+◌, ◌^◌, ◌<◌, ◌≤◌, ◌⊎◌, Bool, true, false, Option, Some, None, unwrap_or, is_some, nat_eq, List}
use Rattle.std.specs.Option.{option_map_or}
use Rattle.std.specs.HashMap.{get_by}
use Rattle.sync_terms.specs.declared.nodes.Sym.{Sym}
use Rattle.sync_terms.specs.declared.nodes.TermId.{TermId}
use Rattle.sync_terms.specs.declared.nodes.FormId.{FormId}
use Rattle.sync_terms.specs.declared.nodes.Node.{Node}
use Rattle.sync_terms.specs.declared.nodes.Node.TheVariants as node
use Rattle.sync_terms.specs.declared.nodes.FormNode.{FormNode}
use Rattle.sync_terms.specs.declared.nodes.FormNode.TheVariants as form
use Rattle.sync_terms.specs.declared.subst.Part.{Part}
use Rattle.sync_terms.specs.declared.subst.Part.TheVariants as part
use Rattle.sync_terms.specs.declared.subst.Replaced.{Replaced}
use Rattle.sync_terms.specs.Trees.{most_nodes}
use Rattle.sync_terms.specs.Substitution.{term_of}
use Rattle.sync_terms.specs.Trees.{Tree, Name, tree_size, formula_size, replaced, replaced_in}
use Rattle.sync_terms.specs.Stored.{Stored, tree, formula, IsTerm, IsForm}

-- the term that a symbol is replaced by
abbrev pub symbol_at : Replaced → Sym → Option TermId
symbol_at d x = get_by (λ (k : Sym). nat_eq x.0 k.0) d.symbols

-- the term that a term has become
abbrev pub term_at : Replaced → TermId → Option TermId
term_at d id = get_by (λ (k : TermId). nat_eq id.0 k.0) d.terms

-- the formula that a formula has become
abbrev pub form_at : Replaced → FormId → Option FormId
form_at d id = get_by (λ (k : FormId). nat_eq id.0 k.0) d.forms

-- the same, where it is there
abbrev pub new_term : Replaced → TermId → TermId
new_term d id = unwrap_or (term_at d id) id

abbrev pub new_form : Replaced → FormId → FormId
new_form d id = unwrap_or (form_at d id) id

-- a node with other children
abbrev pub renamed : (TermId → TermId) → Node → Node
renamed f (node.Lit n) = node.Lit n
renamed f (node.Name x) = node.Name x
renamed f (node.Add a b) = node.Add (f a) (f b)
renamed f (node.Sub a b) = node.Sub (f a) (f b)
renamed f (node.Scale n a) = node.Scale n (f a)
renamed f (node.Get m k) = node.Get (f m) (f k)
renamed f (node.Has m k) = node.Has (f m) (f k)
renamed f (node.Size m) = node.Size (f m)
renamed f (node.Sum m) = node.Sum (f m)
renamed f node.Nil = node.Nil
renamed f (node.Put m k v) = node.Put (f m) (f k) (f v)
renamed f (node.Del m k) = node.Del (f m) (f k)
renamed f (node.Bump m k n) = node.Bump (f m) (f k) (f n)

-- a formula's node with other parts
abbrev pub renamed_form : (TermId → TermId) → (FormId → FormId) → FormNode → FormNode
renamed_form f g (form.Le a b) = form.Le (f a) (f b)
renamed_form f g (form.Lt a b) = form.Lt (f a) (f b)
renamed_form f g (form.Eq a b) = form.Eq (f a) (f b)
renamed_form f g (form.Not p) = form.Not (g p)
renamed_form f g (form.And p q) = form.And (g p) (g q)
renamed_form f g (form.Or p q) = form.Or (g p) (g q)
renamed_form f g (form.Imp p q) = form.Imp (g p) (g q)

-- the part is a child of the node
abbrev pub IsChild : Part → Node → Type 0
IsChild p (node.Lit n) = ⊥
IsChild p (node.Name x) = ⊥
IsChild p (node.Add a b) = (p ≡ part.Term a) ⊎ (p ≡ part.Term b)
IsChild p (node.Sub a b) = (p ≡ part.Term a) ⊎ (p ≡ part.Term b)
IsChild p (node.Scale n a) = p ≡ part.Term a
IsChild p (node.Get m k) = (p ≡ part.Term m) ⊎ (p ≡ part.Term k)
IsChild p (node.Has m k) = (p ≡ part.Term m) ⊎ (p ≡ part.Term k)
IsChild p (node.Size m) = p ≡ part.Term m
IsChild p (node.Sum m) = p ≡ part.Term m
IsChild p node.Nil = ⊥
IsChild p (node.Put m k v) = (p ≡ part.Term m) ⊎ ((p ≡ part.Term k) ⊎ (p ≡ part.Term v))
IsChild p (node.Del m k) = (p ≡ part.Term m) ⊎ (p ≡ part.Term k)
IsChild p (node.Bump m k n) = (p ≡ part.Term m) ⊎ ((p ≡ part.Term k) ⊎ (p ≡ part.Term n))

abbrev pub IsPartOf : Part → FormNode → Type 0
IsPartOf p (form.Le a b) = (p ≡ part.Term a) ⊎ (p ≡ part.Term b)
IsPartOf p (form.Lt a b) = (p ≡ part.Term a) ⊎ (p ≡ part.Term b)
IsPartOf p (form.Eq a b) = (p ≡ part.Term a) ⊎ (p ≡ part.Term b)
IsPartOf p (form.Not f) = p ≡ part.Form f
IsPartOf p (form.And f g) = (p ≡ part.Form f) ⊎ (p ≡ part.Form g)
IsPartOf p (form.Or f g) = (p ≡ part.Form f) ⊎ (p ≡ part.Form g)
IsPartOf p (form.Imp f g) = (p ≡ part.Form f) ⊎ (p ≡ part.Form g)

-- the part has been replaced
abbrev pub is_replaced : Replaced → Part → Bool
is_replaced d (part.Term id) = is_some (term_at d id)
is_replaced d (part.Form id) = is_some (form_at d id)

-- the part is one of this store
abbrev pub IsPart : Stored → Part → Type 0
IsPart s (part.Term id) = IsTerm s id
IsPart s (part.Form id) = IsForm s id

-- the id is one that the code can hold
abbrev pub InRange : Part → Type 0
InRange (part.Term id) = id.0 < 2 ^ 32
InRange (part.Form id) = id.0 < 2 ^ 32

-- terms stand before formulas, and each behind its parts
abbrev pub rank : Part → ℕ
rank (part.Term id) = id.0
rank (part.Form id) = 2 ^ 32 + id.0

-- the number of nodes that the part will have
unfoldable pub new_size : (ℕ → Tree) → Stored → Part → ℕ
new_size f s (part.Term id) = tree_size (replaced f (tree s id))
new_size f s (part.Form id) = formula_size (replaced_in f (formula s id))

-- the substitution that is under way
abbrev pub under_way : Stored → Replaced → ℕ → Tree
under_way s d x = option_map_or (tree s) (symbol_at d (record { 0 = x })) (Name x)

-- what was replaced was replaced as the substitution says
pub record IsDone (s : Stored) (d : Replaced) : Type 0 where
  pub symbols : (x : Sym) (id : TermId) → symbol_at d x ≡ Some id → IsTerm s id
  pub terms : (id new : TermId) → term_at d id ≡ Some new → IsTerm s id × IsTerm s new × (tree s new ≡ replaced (under_way s d) (tree s id))
  pub forms : (id new : FormId) → form_at d id ≡ Some new → IsForm s id × IsForm s new × (formula s new ≡ replaced_in (under_way s d) (formula s id))

-- the part waits for this one, which is before it, not replaced, and no larger
pub record Waits (s : Stored) (d : Replaced) (p first : Part) : Type 0 where
  pub part : IsPart s first
  pub range : InRange first
  pub before : rank first < rank p
  pub missing : is_replaced d first ≡ false
  pub smaller : new_size (under_way s d) s first ≤ new_size (under_way s d) s p

-- the part has been replaced, and nothing else
pub record Replaces (s : Stored) (d : Replaced) (p : Part) (t : Stored) (e : Replaced) : Type 0 where
  pub done : IsDone t e
  pub same : under_way t e ≡ under_way s d
  pub made : is_replaced e p ≡ true
  pub fits : new_size (under_way s d) s p ≤ most_nodes
  pub others : (q : Part) → q ≢ p → is_replaced e q ≡ is_replaced d q

-- a step on a part
abbrev pub Steps : Stored → Replaced → Part → Stored → Replaced → Option Part → Type 0
Steps s d p t e (Some first) = (t ≡ s) × (e ≡ d) × Waits s d p first
Steps s d p t e None = Replaces s d p t e

-- the map's symbols have their terms, and nothing is replaced yet
pub record IsStart (map : List (Sym × TermId)) (d : Replaced) : Type 0 where
  pub symbols : (x : ℕ) → symbol_at d (record { 0 = x }) ≡ term_of map x
  pub no_term : (id : TermId) → term_at d id ≡ None
  pub no_form : (id : FormId) → form_at d id ≡ None
