-- Nodes over children that were read.
use Rattle.std.proofs.Common.{◌≡◌, ℕ, ◌≤◌, Option, Some, None, refl, sym, ap, ◌∙◌, subst, arith, Result}
use Rattle.std.specs.Prelude.{unwrap_or, IsErrAnd}
use Rattle.sync_terms.specs.declared.nodes.Sym.{Sym}
use Rattle.sync_terms.specs.declared.nodes.TermId.{TermId}
use Rattle.sync_terms.specs.declared.nodes.Node.{Node}
use Rattle.sync_terms.specs.declared.nodes.Node.TheVariants as node
use Rattle.sync_terms.specs.declared.store.TermStop.{TermStop}
use Rattle.sync_terms.specs.Stored.{Stored, tree, shape, HasChildren, ChildrenBelow, Extends}
use Rattle.sync_terms.specs.Building.{HasTerm, BuildsTerm, StopsBuilding, node_tree}
use Rattle.sync_terms.specs.Trees.{Tree, Name, Add, Sub, Scale, Get, Has, Size, Sum, Put, Del, Bump, tree_size, replaced}
use Rattle.sync_terms.proofs.BuildingLemmas.{shape-node, HasTerm-more, BuildsTerm-stop, StopsBuilding-more}
use Rattle.sync_terms.proofs.Extending.{Extends-trans}
use Rattle.sync_typing_ledgers.specs.Entries.{Kept}
use Rattle.sync_typing_reading.specs.declared.reading.Children.{Children}
use Rattle.sync_typing_reading.specs.Nodes.{children_of, node_over, child_size, IsChildOf, IsChildBelow, IsRead}
use Rattle.sync_typing_reading.specs.Sayings.{stands_in, AreSaidOf}
use Rattle.sync_typing_reading.proofs.Staying.{stands_more}

-- ---- children

-- P holds of each child
pub record EachOf (P : Option TermId → Type 0) (c : Children) : Type 0 where
  pub first : P c.first
  pub second : P c.second
  pub third : P c.third

pub each_by : {P : Option TermId → Type 0} {c d : Children} → c ≡ d → EachOf P d → EachOf P c
each_by {P} e h = subst (EachOf P) (sym e) h

pub children_are : (s : Stored) (n : Node) → HasChildren s n → EachOf (IsChildOf s) (children_of n)
children_are s (node.Lit n) h = record { first = tt; second = tt; third = tt }
children_are s (node.Name x) h = record { first = tt; second = tt; third = tt }
children_are s (node.Add a b) h = record { first = h.0; second = h.1; third = tt }
children_are s (node.Sub a b) h = record { first = h.0; second = h.1; third = tt }
children_are s (node.Scale n a) h = record { first = h; second = tt; third = tt }
children_are s (node.Get m k) h = record { first = h.0; second = h.1; third = tt }
children_are s (node.Has m k) h = record { first = h.0; second = h.1; third = tt }
children_are s (node.Size m) h = record { first = h; second = tt; third = tt }
children_are s (node.Sum m) h = record { first = h; second = tt; third = tt }
children_are s node.Nil h = record { first = tt; second = tt; third = tt }
children_are s (node.Put m k v) h = record { first = h.0; second = h.1; third = h.2 }
children_are s (node.Del m k) h = record { first = h.0; second = h.1; third = tt }
children_are s (node.Bump m k n) h = record { first = h.0; second = h.1; third = h.2 }

pub children_below : (p : ℕ) (n : Node) → ChildrenBelow p n → EachOf (IsChildBelow p) (children_of n)
children_below p (node.Lit n) h = record { first = tt; second = tt; third = tt }
children_below p (node.Name x) h = record { first = tt; second = tt; third = tt }
children_below p (node.Add a b) h = record { first = h.0; second = h.1; third = tt }
children_below p (node.Sub a b) h = record { first = h.0; second = h.1; third = tt }
children_below p (node.Scale n a) h = record { first = h; second = tt; third = tt }
children_below p (node.Get m k) h = record { first = h.0; second = h.1; third = tt }
children_below p (node.Has m k) h = record { first = h.0; second = h.1; third = tt }
children_below p (node.Size m) h = record { first = h; second = tt; third = tt }
children_below p (node.Sum m) h = record { first = h; second = tt; third = tt }
children_below p node.Nil h = record { first = tt; second = tt; third = tt }
children_below p (node.Put m k v) h = record { first = h.0; second = h.1; third = h.2 }
children_below p (node.Del m k) h = record { first = h.0; second = h.1; third = tt }
children_below p (node.Bump m k n) h = record { first = h.0; second = h.1; third = h.2 }

pub IsChildOf-more : {s t : Stored} → Extends s t → (c : Option TermId) → IsChildOf s c → IsChildOf t c
IsChildOf-more more None h = tt
IsChildOf-more more (Some a) h = (more.terms a h).0

-- no child becomes larger than the whole
pub children_fit : (g : ℕ → Tree) (s : Stored) (n : Node)
    → EachOf (λ c. child_size (replaced g) s c ≤ tree_size (replaced g (node_tree s n))) (children_of n)
unfolding replaced tree_size
children_fit g s (node.Lit n) = record { first = omega arith; second = omega arith; third = omega arith }
children_fit g s (node.Name x) = record { first = omega arith; second = omega arith; third = omega arith }
children_fit g s (node.Add a b) = record { first = omega arith; second = omega arith; third = omega arith }
children_fit g s (node.Sub a b) = record { first = omega arith; second = omega arith; third = omega arith }
children_fit g s (node.Scale n a) = record { first = omega arith; second = omega arith; third = omega arith }
children_fit g s (node.Get m k) = record { first = omega arith; second = omega arith; third = omega arith }
children_fit g s (node.Has m k) = record { first = omega arith; second = omega arith; third = omega arith }
children_fit g s (node.Size m) = record { first = omega arith; second = omega arith; third = omega arith }
children_fit g s (node.Sum m) = record { first = omega arith; second = omega arith; third = omega arith }
children_fit g s node.Nil = record { first = omega arith; second = omega arith; third = omega arith }
children_fit g s (node.Put m k v) = record { first = omega arith; second = omega arith; third = omega arith }
children_fit g s (node.Del m k) = record { first = omega arith; second = omega arith; third = omega arith }
children_fit g s (node.Bump m k n) = record { first = omega arith; second = omega arith; third = omega arith }

-- ---- what was read

got : (f : Tree → Tree) (s t : Stored) (a d : TermId) (r : Option TermId) → IsRead f s t (Some a) r
    → HasTerm t (f (tree s a)) (unwrap_or r d)
got f s t a d None h = absurd h
got f s t a d (Some b) h = h

pub IsRead-more : (f : Tree → Tree) (s t u : Stored) → Extends t u → (c r : Option TermId) → IsRead f s t c r
    → IsRead f s u c r
IsRead-more f s t u more None r h = h
IsRead-more f s t u more (Some a) None h = h
IsRead-more f s t u more (Some a) (Some b) h = HasTerm-more h more

-- what was read from a larger store
pub IsRead-from : (f : Tree → Tree) (s t u : Stored) → Extends s t → (c r : Option TermId) → IsChildOf s c
    → IsRead f t u c r → IsRead f s u c r
IsRead-from f s t u more None r is h = h
IsRead-from f s t u more (Some a) None is h = h
IsRead-from f s t u more (Some a) (Some b) is h =
    subst (λ (x : Tree). HasTerm u (f x) b) (more.terms a is).1 h

pub size_from : (f : Tree → Tree) (s t : Stored) → Extends s t → (c : Option TermId) → IsChildOf s c
    → child_size f t c ≡ child_size f s c
size_from f s t more None is = refl
size_from f s t more (Some a) is = ap (λ (x : Tree). tree_size (f x)) (more.terms a is).1

-- what a larger store was read to, by the same ledger
module _ (k : Kept) {s t : Stored} (more : Extends s t) (said : AreSaidOf s k) where
  pub size_then : (c : Option TermId) → IsChildOf s c
      → child_size (replaced (stands_in t k)) t c ≡ child_size (replaced (stands_in s k)) s c
  size_then c is =
      ap (λ (g : ℕ → Tree). child_size (replaced g) t c) (stands_more more k said)
      ∙ size_from (replaced (stands_in s k)) s t more c is

  pub read_then : (u : Stored) (c r : Option TermId) → IsChildOf s c → IsRead (replaced (stands_in t k)) t u c r
      → IsRead (replaced (stands_in s k)) s u c r
  read_then u c r is h =
      IsRead-from (replaced (stands_in s k)) s t u more c r is
      (subst (λ (g : ℕ → Tree). IsRead (replaced g) t u c r) (stands_more more k said) h)

module _ (g : ℕ → Tree) (s t : Stored) where
  two : (F : Tree → Tree → Tree) {a b c d : Tree} → a ≡ c → b ≡ d → F a b ≡ F c d
  two F p q = λ i. F (p i) (q i)

  three : (F : Tree → Tree → Tree → Tree) {a b c d e f : Tree} → a ≡ d → b ≡ e → c ≡ f → F a b c ≡ F d e f
  three F p q r = λ i. F (p i) (q i) (r i)

  -- each child was read
  abbrev pub AllRead : Children → Children → Type 0
  AllRead c r =
      IsRead (replaced g) s t c.first r.first
      × IsRead (replaced g) s t c.second r.second
      × IsRead (replaced g) s t c.third r.third

  pub all_by : {c d : Children} (r : Children) → c ≡ d → AllRead c r → AllRead d r
  all_by r e h = subst (λ (c : Children). AllRead c r) e h

  first_of : (a d : TermId) (r : Option TermId) → IsRead (replaced g) s t (Some a) r
      → HasTerm t (replaced g (tree s a)) (unwrap_or r d)
  first_of a d r h = got (replaced g) s t a d r h

  -- the node over what was read has the tree that was to be read
  pub over_read : (n : Node) (r : Children) → ((x : Sym) → n ≡ node.Name x → ⊥) → AllRead (children_of n) r
      → HasChildren t (node_over n r) × (node_tree t (node_over n r) ≡ replaced g (node_tree s n))
  unfolding replaced
  over_read (node.Lit n) r other h = (tt, refl)
  over_read (node.Name x) r other h = absurd (other x refl)
  over_read (node.Add a b) r other h =
      let p = first_of a a r.first h.0 in let q = first_of b b r.second h.1 in
      ((p.stored, q.stored), two Add p.value q.value)
  over_read (node.Sub a b) r other h =
      let p = first_of a a r.first h.0 in let q = first_of b b r.second h.1 in
      ((p.stored, q.stored), two Sub p.value q.value)
  over_read (node.Scale n a) r other h =
      let p = first_of a a r.first h.0 in (p.stored, ap (Scale n) p.value)
  over_read (node.Get m k) r other h =
      let p = first_of m m r.first h.0 in let q = first_of k k r.second h.1 in
      ((p.stored, q.stored), two Get p.value q.value)
  over_read (node.Has m k) r other h =
      let p = first_of m m r.first h.0 in let q = first_of k k r.second h.1 in
      ((p.stored, q.stored), two Has p.value q.value)
  over_read (node.Size m) r other h = let p = first_of m m r.first h.0 in (p.stored, ap Size p.value)
  over_read (node.Sum m) r other h = let p = first_of m m r.first h.0 in (p.stored, ap Sum p.value)
  over_read node.Nil r other h = (tt, refl)
  over_read (node.Put m k v) r other h =
      let p = first_of m m r.first h.0 in let q = first_of k k r.second h.1 in let w = first_of v v r.third h.2 in
      ((p.stored, q.stored, w.stored), three Put p.value q.value w.value)
  over_read (node.Del m k) r other h =
      let p = first_of m m r.first h.0 in let q = first_of k k r.second h.1 in
      ((p.stored, q.stored), two Del p.value q.value)
  over_read (node.Bump m k n) r other h =
      let p = first_of m m r.first h.0 in let q = first_of k k r.second h.1 in let w = first_of n n r.third h.2 in
      ((p.stored, q.stored, w.stored), three Bump p.value q.value w.value)

-- the children of a node, read one after another
pub all_read : (k : Kept) (s t u v : Stored) → Extends s t → Extends t u → Extends u v → AreSaidOf s k
    → (c : Children) → EachOf (IsChildOf s) c → (a b d : Option TermId)
    → IsRead (replaced (stands_in s k)) s t c.first a → IsRead (replaced (stands_in t k)) t u c.second b
    → IsRead (replaced (stands_in u k)) u v c.third d
    → AllRead (stands_in s k) s v c (record { first = a; second = b; third = d })
all_read k s t u v one two three said c kids a b d p q r = (
  IsRead-more (replaced (stands_in s k)) s t v (Extends-trans two three) c.first a p,
  IsRead-more (replaced (stands_in s k)) s u v three c.second b (read_then k one said u c.second b kids.second q),
  read_then k (Extends-trans one two) said v c.third d kids.third r,
)

-- ---- a name

pub named : (s : Stored) (n : Node) (id : TermId) (x : Sym) → shape s n ≡ tree s id → n ≡ node.Name x
    → tree s id ≡ Name x.0
named s n id x is e = sym is ∙ shape-node s n ∙ ap (node_tree s) e

pub name_read : (g : ℕ → Tree) (s : Stored) (id : TermId) (x : ℕ) → tree s id ≡ Name x
    → g x ≡ replaced g (tree s id)
unfolding replaced
name_read g s id x e = sym (ap (replaced g) e)

-- ---- where a child is too large

pub child_stops : (g : ℕ → Tree) (s u : Stored) (n : Node) (id : TermId) (size : ℕ) (e : TermStop)
    (r : Result TermId TermStop) → shape s n ≡ tree s id → size ≤ tree_size (replaced g (node_tree s n))
    → StopsBuilding size e → IsErrAnd r (λ y. y ≡ e) → BuildsTerm u (replaced g (tree s id)) r
child_stops g s u n id size e r is fits stop was =
    BuildsTerm-stop e r was
    (StopsBuilding-more e stop (subst (λ (x : Tree). size ≤ tree_size (replaced g x)) (sym (shape-node s n) ∙ is) fits))
