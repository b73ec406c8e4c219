-- How what is built step by step is the whole.
use Rattle.std.proofs.Common.{◌≡◌, ℕ, ◌<◌, ◌≤◌, refl, sym, ◌∙◌, subst, Result, Ok, Err, arith}
use Rattle.std.specs.Prelude.{◌↔◌, IfOk, IsErrAnd}
use Rattle.sync_terms.specs.declared.nodes.TermId.{TermId}
use Rattle.sync_terms.specs.declared.nodes.FormId.{FormId}
use Rattle.sync_terms.specs.declared.nodes.Node.{Node}
use Rattle.sync_terms.specs.declared.nodes.Node.TheVariants as node
use Rattle.sync_terms.specs.declared.nodes.FormNode.{FormNode}
use Rattle.sync_terms.specs.declared.nodes.FormNode.TheVariants as form
use Rattle.sync_terms.specs.declared.store.TermStop.{TermStop}
use Rattle.sync_terms.specs.declared.store.TermStop.TheVariants.{TooLarge, Memory}
use Rattle.sync_terms.specs.Trees.{Tree, Formula, tree_size, formula_size}
use Rattle.sync_terms.specs.Stored.{Stored, tree, formula, shape, form_shape, IsTerm, IsForm, Extends}
use Rattle.sync_terms.proofs.Steps.{le_from_not}
use Rattle.sync_terms.specs.Trees.{most_nodes}
use Rattle.sync_terms.specs.Building.{HasTerm, HasForm, StopsBuilding, FindsTerm, BuildsTerm, BuildsForm, node_tree, node_formula}

pub shape-node : (s : Stored) (n : Node) → shape s n ≡ node_tree s n
unfolding shape tree
shape-node s (node.Lit n) = refl
shape-node s (node.Name x) = refl
shape-node s (node.Add a b) = refl
shape-node s (node.Sub a b) = refl
shape-node s (node.Scale n a) = refl
shape-node s (node.Get m k) = refl
shape-node s (node.Has m k) = refl
shape-node s (node.Size m) = refl
shape-node s (node.Sum m) = refl
shape-node s node.Nil = refl
shape-node s (node.Put m k v) = refl
shape-node s (node.Del m k) = refl
shape-node s (node.Bump m k n) = refl

pub form_shape-node : (s : Stored) (n : FormNode) → form_shape s n ≡ node_formula s n
unfolding form_shape tree formula
form_shape-node s (form.Le a b) = refl
form_shape-node s (form.Lt a b) = refl
form_shape-node s (form.Eq a b) = refl
form_shape-node s (form.Not f) = refl
form_shape-node s (form.And f g) = refl
form_shape-node s (form.Or f g) = refl
form_shape-node s (form.Imp f g) = refl

pub BuildsTerm-added : (s : Stored) {t : Stored} (n : Node) (r : Result TermId TermStop) → IfOk r (λ id. IsTerm t id × (tree t id ≡ shape s n)) → (r ≡ Err TooLarge) ↔ (most_nodes < tree_size (shape s n))
    → BuildsTerm t (node_tree s n) r
BuildsTerm-added s n (Ok id) made large = record {
  value = record { stored = made.0; value = made.1 ∙ shape-node s n };
  fits = rw (← shape-node s n) (le_from_not (λ h. let e : Ok id ≡ Err TooLarge = large.1 h in cc));
  stop = tt;
}
BuildsTerm-added s n (Err TooLarge) made large = record { value = tt; fits = tt; stop = rw (← shape-node s n) (large.0 refl) }
BuildsTerm-added s n (Err Memory) made large = record { value = tt; fits = tt; stop = tt }

pub BuildsForm-added : (s : Stored) {t : Stored} (n : FormNode) (r : Result FormId TermStop) → IfOk r (λ id. IsForm t id × (formula t id ≡ form_shape s n)) → (r ≡ Err TooLarge) ↔ (most_nodes < formula_size (form_shape s n))
    → BuildsForm t (node_formula s n) r
BuildsForm-added s n (Ok id) made large = record {
  value = record { stored = made.0; value = made.1 ∙ form_shape-node s n };
  fits = rw (← form_shape-node s n) (le_from_not (λ h. let e : Ok id ≡ Err TooLarge = large.1 h in cc));
  stop = tt;
}
BuildsForm-added s n (Err TooLarge) made large = record { value = tt; fits = tt; stop = rw (← form_shape-node s n) (large.0 refl) }
BuildsForm-added s n (Err Memory) made large = record { value = tt; fits = tt; stop = tt }

-- a term stays under its id
pub HasTerm-more : {s t : Stored} {x : Tree} {id : TermId} → HasTerm s x id → Extends s t → HasTerm t x id
HasTerm-more h e = record { stored = (e.terms _ h.stored).0; value = (e.terms _ h.stored).1 ∙ h.value }

pub HasForm-more : {s t : Stored} {f : Formula} {id : FormId} → HasForm s f id → Extends s t → HasForm t f id
HasForm-more h e = record { stored = (e.forms _ h.stored).0; value = (e.forms _ h.stored).1 ∙ h.value }

-- ---- what a literal comes to

-- a term of one node is never too large
pub FindsTerm-one : {s : Stored} (t : Tree) (r : Result TermId TermStop) → tree_size t ≡ 1 → BuildsTerm s t r → FindsTerm s t r
FindsTerm-one t (Ok id) e h = record { value = h.value; stop = tt }
FindsTerm-one t (Err TooLarge) e h = let large : most_nodes < tree_size t = h.stop in absurd (omega arith)
FindsTerm-one t (Err Memory) e h = record { value = tt; stop = refl }

-- ---- what stops a part stops the whole

pub StopsBuilding-more : {m n : ℕ} (e : TermStop) → StopsBuilding m e → m ≤ n → StopsBuilding n e
StopsBuilding-more TooLarge h l = omega arith
StopsBuilding-more Memory h l = tt

pub BuildsTerm-stop : {t : Stored} {x : Tree} (e : TermStop) (r : Result TermId TermStop) → IsErrAnd r (λ y. y ≡ e) → StopsBuilding (tree_size x) e → BuildsTerm t x r
BuildsTerm-stop e (Ok y) was h = absurd was
BuildsTerm-stop {x = x} e (Err y) was h = record { value = tt; fits = tt; stop = subst (λ (z : TermStop). StopsBuilding (tree_size x) z) (sym was) h }

pub BuildsForm-stop : {t : Stored} {f : Formula} (e : TermStop) (r : Result FormId TermStop) → IsErrAnd r (λ y. y ≡ e) → StopsBuilding (formula_size f) e → BuildsForm t f r
BuildsForm-stop e (Ok y) was h = absurd was
BuildsForm-stop {f = f} e (Err y) was h = record { value = tt; fits = tt; stop = subst (λ (z : TermStop). StopsBuilding (formula_size f) z) (sym was) h }

pub BuildsTerm-term : {s t : Stored} {x y : Tree} {e : TermStop} (r : Result TermId TermStop) → BuildsTerm s x (Err e) → IsErrAnd r (λ z. z ≡ e) → tree_size x ≤ tree_size y → BuildsTerm t y r
BuildsTerm-term {e = e} r h was l = BuildsTerm-stop e r was (StopsBuilding-more e h.stop l)

pub BuildsForm-term : {s t : Stored} {x : Tree} {f : Formula} {e : TermStop} (r : Result FormId TermStop) → BuildsTerm s x (Err e) → IsErrAnd r (λ z. z ≡ e) → tree_size x ≤ formula_size f → BuildsForm t f r
BuildsForm-term {e = e} r h was l = BuildsForm-stop e r was (StopsBuilding-more e h.stop l)

pub BuildsForm-form : {s t : Stored} {g f : Formula} {e : TermStop} (r : Result FormId TermStop) → BuildsForm s g (Err e) → IsErrAnd r (λ z. z ≡ e) → formula_size g ≤ formula_size f → BuildsForm t f r
BuildsForm-form {e = e} r h was l = BuildsForm-stop e r was (StopsBuilding-more e h.stop l)

-- ---- by another spelling

pub BuildsTerm-by : {t : Stored} {x y : Tree} {r : Result TermId TermStop} → y ≡ x → BuildsTerm t x r → BuildsTerm t y r
BuildsTerm-by {t} {r = r} e h = subst (λ (z : Tree). BuildsTerm t z r) (sym e) h

pub BuildsTerm-same : {t : Stored} {x y : Tree} {r : Result TermId TermStop} → BuildsTerm t x r → x ≡ y → BuildsTerm t y r
BuildsTerm-same {t} {r = r} h e = subst (λ (z : Tree). BuildsTerm t z r) e h

pub BuildsForm-by : {t : Stored} {f g : Formula} {r : Result FormId TermStop} → g ≡ f → BuildsForm t f r → BuildsForm t g r
BuildsForm-by {t} {r = r} e h = subst (λ (z : Formula). BuildsForm t z r) (sym e) h

pub BuildsForm-same : {t : Stored} {f g : Formula} {r : Result FormId TermStop} → BuildsForm t f r → f ≡ g → BuildsForm t g r
BuildsForm-same {t} {r = r} h e = subst (λ (z : Formula). BuildsForm t z r) e h

-- what was built first is there when the second is built
pub both_terms : {A : Type 0} (F : Tree → Tree → A) {t u : Stored} {x y : Tree} {a b : TermId} → HasTerm t x a → Extends t u → HasTerm u y b → F (tree u a) (tree u b) ≡ F x y
both_terms F ha e hb = let p = (e.terms _ ha.stored).1 ∙ ha.value in let q = hb.value in λ i. F (p i) (q i)

pub both_forms : (F : Formula → Formula → Formula) {t u : Stored} {f g : Formula} {a b : FormId} → HasForm t f a → Extends t u → HasForm u g b → F (formula u a) (formula u b) ≡ F f g
both_forms F ha e hb = let p = (e.forms _ ha.stored).1 ∙ ha.value in let q = hb.value in λ i. F (p i) (q i)

pub HasTerm-same : {s : Stored} {x y : Tree} {id : TermId} → HasTerm s x id → x ≡ y → HasTerm s y id
HasTerm-same h e = record { stored = h.stored; value = h.value ∙ e }

pub HasForm-same : {s : Stored} {f g : Formula} {id : FormId} → HasForm s f id → f ≡ g → HasForm s g id
HasForm-same h e = record { stored = h.stored; value = h.value ∙ e }
