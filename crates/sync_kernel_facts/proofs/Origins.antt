-- What is said of a map, by the node that it was read from.
use Rattle.std.proofs.Common.{◌≡◌, ◌⊎◌, inl, inr, ℤ, refl, sym, subst, ◌∙◌}
use Rattle.sync_terms.specs.declared.nodes.Sym.{Sym}
use Rattle.sync_terms.specs.declared.nodes.TermId.{TermId}
use Rattle.sync_terms.specs.declared.nodes.Node.{Node}
use Rattle.sync_terms.specs.declared.nodes.Node.TheVariants as node
use Rattle.sync_terms.specs.Stored.{Stored, shape}
use Rattle.sync_terms.specs.Trees.{Tree, Lit, Name, Add, Sub, Scale, Get, Has, Size, Sum, Nil, Put, Del, Bump, Le, Eq}
use Rattle.sync_kernel_facts.specs.Lemmas.{zero, one, is_found, is_gone, is_raised, any_read, changed_read, read_fact, size_law, sum_law}
use Rattle.sync_terms.specs.Building.{node_tree}
use Rattle.sync_terms.proofs.BuildingLemmas.{shape-node}

pub size-nil : (t : Tree) → Nil ≡ t → Eq (Size t) zero ≡ size_law t
size-nil t e = subst (λ (x : Tree). Eq (Size x) zero ≡ size_law x) e refl

pub size-put : (t m j w : Tree) → Put m j w ≡ t → Eq (Size t) (Sub (Add (Size m) one) (Has m j)) ≡ size_law t
size-put t m j w e = subst (λ (x : Tree). Eq (Size x) (Sub (Add (Size m) one) (Has m j)) ≡ size_law x) e refl

pub size-del : (t m j : Tree) → Del m j ≡ t → Eq (Size t) (Sub (Size m) (Has m j)) ≡ size_law t
size-del t m j e = subst (λ (x : Tree). Eq (Size x) (Sub (Size m) (Has m j)) ≡ size_law x) e refl

pub size-bump : (t m j n : Tree) → Bump m j n ≡ t → Eq (Size t) (Sub (Add (Size m) (Has t j)) (Has m j)) ≡ size_law t
size-bump t m j n e = subst (λ (x : Tree). Eq (Size x) (Sub (Add (Size m) (Has x j)) (Has m j)) ≡ size_law x) e refl

pub sum-nil : (t : Tree) → Nil ≡ t → Eq (Sum t) zero ≡ sum_law t
sum-nil t e = subst (λ (x : Tree). Eq (Sum x) zero ≡ sum_law x) e refl

pub sum-put : (t m j w : Tree) → Put m j w ≡ t → Eq (Sum t) (Sub (Add (Sum m) w) (Get m j)) ≡ sum_law t
sum-put t m j w e = subst (λ (x : Tree). Eq (Sum x) (Sub (Add (Sum m) w) (Get m j)) ≡ sum_law x) e refl

pub sum-del : (t m j : Tree) → Del m j ≡ t → Eq (Sum t) (Sub (Sum m) (Get m j)) ≡ sum_law t
sum-del t m j e = subst (λ (x : Tree). Eq (Sum x) (Sub (Sum m) (Get m j)) ≡ sum_law x) e refl

pub sum-bump : (t m j n : Tree) → Bump m j n ≡ t → Eq (Sum t) (Sub (Add (Sum m) (Get t j)) (Get m j)) ≡ sum_law t
sum-bump t m j n e = subst (λ (x : Tree). Eq (Sum x) (Sub (Add (Sum m) (Get x j)) (Get m j)) ≡ sum_law x) e refl

pub read-nil : (t k : Tree) → Nil ≡ t → is_gone t k ≡ read_fact t k
read-nil t k e = subst (λ (x : Tree). is_gone x k ≡ read_fact x k) e refl

pub read-put : (t k m j w : Tree) → Put m j w ≡ t → changed_read t k m j (is_found t k w) ≡ read_fact t k
read-put t k m j w e = subst (λ (x : Tree). changed_read x k m j (is_found x k w) ≡ read_fact x k) e refl

pub read-del : (t k m j : Tree) → Del m j ≡ t → changed_read t k m j (is_gone t k) ≡ read_fact t k
read-del t k m j e = subst (λ (x : Tree). changed_read x k m j (is_gone x k) ≡ read_fact x k) e refl

pub read-bump : (t k m j n : Tree) → Bump m j n ≡ t → changed_read t k m j (is_raised t k (Add (Get m j) n)) ≡ read_fact t k
read-bump t k m j n e = subst (λ (x : Tree). changed_read x k m j (is_raised x k (Add (Get m j) n)) ≡ read_fact x k) e refl

-- ---- a term that is no change of a map, and not the empty map

abbrev IsPlainTree : Tree → Type 0
IsPlainTree (Lit n) = Unit {0}
IsPlainTree (Name x) = Unit {0}
IsPlainTree (Add a b) = Unit {0}
IsPlainTree (Sub a b) = Unit {0}
IsPlainTree (Scale n a) = Unit {0}
IsPlainTree (Get a b) = Unit {0}
IsPlainTree (Has a b) = Unit {0}
IsPlainTree (Size a) = Unit {0}
IsPlainTree (Sum a) = Unit {0}
IsPlainTree Nil = ⊥
IsPlainTree (Put a b c) = ⊥
IsPlainTree (Del a b) = ⊥
IsPlainTree (Bump a b c) = ⊥

abbrev pub IsPlain : Node → Type 0
IsPlain (node.Lit n) = Unit {0}
IsPlain (node.Name x) = Unit {0}
IsPlain (node.Add a b) = Unit {0}
IsPlain (node.Sub a b) = Unit {0}
IsPlain (node.Scale n a) = Unit {0}
IsPlain (node.Get a b) = Unit {0}
IsPlain (node.Has a b) = Unit {0}
IsPlain (node.Size a) = Unit {0}
IsPlain (node.Sum a) = Unit {0}
IsPlain node.Nil = ⊥
IsPlain (node.Put a b c) = ⊥
IsPlain (node.Del a b) = ⊥
IsPlain (node.Bump a b c) = ⊥

-- the nodes of the last arm of a match
pub plain : {n : Node} → (((x : ℤ) × (n ≡ node.Lit x)) ⊎ (((x : Sym) × (n ≡ node.Name x)) ⊎ (((x : TermId) × (y : TermId) × (n ≡ node.Add x y)) ⊎ (((x : TermId) × (y : TermId) × (n ≡ node.Sub x y)) ⊎ (((x : ℤ) × (y : TermId) × (n ≡ node.Scale x y)) ⊎ (((x : TermId) × (y : TermId) × (n ≡ node.Get x y)) ⊎ (((x : TermId) × (y : TermId) × (n ≡ node.Has x y)) ⊎ (((x : TermId) × (n ≡ node.Size x)) ⊎ ((x : TermId) × (n ≡ node.Sum x)))))))))) → IsPlain n
plain (inl h) = subst IsPlain (sym h.1) tt
plain (inr (inl h)) = subst IsPlain (sym h.1) tt
plain (inr (inr (inl h))) = subst IsPlain (sym h.2) tt
plain (inr (inr (inr (inl h)))) = subst IsPlain (sym h.2) tt
plain (inr (inr (inr (inr (inl h))))) = subst IsPlain (sym h.2) tt
plain (inr (inr (inr (inr (inr (inl h)))))) = subst IsPlain (sym h.2) tt
plain (inr (inr (inr (inr (inr (inr (inl h))))))) = subst IsPlain (sym h.2) tt
plain (inr (inr (inr (inr (inr (inr (inr (inl h)))))))) = subst IsPlain (sym h.1) tt
plain (inr (inr (inr (inr (inr (inr (inr (inr h)))))))) = subst IsPlain (sym h.1) tt

plain_tree : (s : Stored) (n : Node) → IsPlain n → IsPlainTree (node_tree s n)
plain_tree s (node.Lit n) h = tt
plain_tree s (node.Name x) h = tt
plain_tree s (node.Add a b) h = tt
plain_tree s (node.Sub a b) h = tt
plain_tree s (node.Scale n a) h = tt
plain_tree s (node.Get a b) h = tt
plain_tree s (node.Has a b) h = tt
plain_tree s (node.Size a) h = tt
plain_tree s (node.Sum a) h = tt
plain_tree s node.Nil h = absurd h
plain_tree s (node.Put a b c) h = absurd h
plain_tree s (node.Del a b) h = absurd h
plain_tree s (node.Bump a b c) h = absurd h

plain_as : (s : Stored) (n : Node) (t : Tree) → shape s n ≡ t → IsPlain n → IsPlainTree t
plain_as s n t e h = subst IsPlainTree (sym (shape-node s n) ∙ e) (plain_tree s n h)

size_any : (t : Tree) → IsPlainTree t → Le zero (Size t) ≡ size_law t
size_any (Lit n) h = refl
size_any (Name x) h = refl
size_any (Add a b) h = refl
size_any (Sub a b) h = refl
size_any (Scale n a) h = refl
size_any (Get a b) h = refl
size_any (Has a b) h = refl
size_any (Size a) h = refl
size_any (Sum a) h = refl
size_any Nil h = absurd h
size_any (Put a b c) h = absurd h
size_any (Del a b) h = absurd h
size_any (Bump a b c) h = absurd h

pub size-any : (s : Stored) (n : Node) (t : Tree) → shape s n ≡ t → IsPlain n → Le zero (Size t) ≡ size_law t
size-any s n t e h = size_any t (plain_as s n t e h)

sum_any : (t : Tree) → IsPlainTree t → Eq zero zero ≡ sum_law t
sum_any (Lit n) h = refl
sum_any (Name x) h = refl
sum_any (Add a b) h = refl
sum_any (Sub a b) h = refl
sum_any (Scale n a) h = refl
sum_any (Get a b) h = refl
sum_any (Has a b) h = refl
sum_any (Size a) h = refl
sum_any (Sum a) h = refl
sum_any Nil h = absurd h
sum_any (Put a b c) h = absurd h
sum_any (Del a b) h = absurd h
sum_any (Bump a b c) h = absurd h

pub sum-any : (s : Stored) (n : Node) (t : Tree) → shape s n ≡ t → IsPlain n → Eq zero zero ≡ sum_law t
sum-any s n t e h = sum_any t (plain_as s n t e h)

read_any : (t k : Tree) → IsPlainTree t → any_read t k ≡ read_fact t k
read_any (Lit n) k h = refl
read_any (Name x) k h = refl
read_any (Add a b) k h = refl
read_any (Sub a b) k h = refl
read_any (Scale n a) k h = refl
read_any (Get a b) k h = refl
read_any (Has a b) k h = refl
read_any (Size a) k h = refl
read_any (Sum a) k h = refl
read_any Nil k h = absurd h
read_any (Put a b c) k h = absurd h
read_any (Del a b) k h = absurd h
read_any (Bump a b c) k h = absurd h

pub read-any : (s : Stored) (n : Node) (t k : Tree) → shape s n ≡ t → IsPlain n → any_read t k ≡ read_fact t k
read-any s n t k e h = read_any t k (plain_as s n t e h)
