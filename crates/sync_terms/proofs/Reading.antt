-- What a kept store tells of an id.
use Rattle.std.proofs.Common.{◌≡◌, ℕ, ◌<◌, ◌≤◌, List, [], length, get_or, refl, sym, ap, ◌∙◌, subst, arith}
use Rattle.std.proofs.lemmas.List.{get_or-map, length-map}
use Rattle.sync_terms.proofs.Growth.{length-trees, length-formulas}
use Rattle.sync_terms.specs.declared.nodes.TermId.{TermId}
use Rattle.sync_terms.specs.declared.nodes.FormId.{FormId}
use Rattle.sync_terms.specs.Trees.{Tree, Lit, Name, Add, Sub, Scale, Get, Has, Size, Sum, Nil, Put, Del, Bump, Formula, Le, Lt, Eq, Not, And, Or, Imp, tree_size, formula_size}
use Rattle.sync_terms.specs.Stored.{Stored, trees, tree, formulas, formula, IsTerm, IsForm, shape, form_shape}
use Rattle.sync_terms.specs.Trees.{most_nodes}
use Rattle.sync_terms.specs.StoreLists.{node_at, form_at, AreInOrder}

module _ (s : Stored) (sizes fsizes : List ℕ) (kept : AreInOrder s sizes fsizes) where
  pub shape-node : (id : TermId) → IsTerm s id → shape s (node_at s.nodes id.0) ≡ tree s id
  unfolding shape tree
  shape-node id h = sym (kept.terms.made id.0 h)

  pub form_shape-form : (id : FormId) → IsForm s id → form_shape s (form_at s.forms id.0) ≡ formula s id
  unfolding form_shape formula
  form_shape-form id h = sym (kept.forms.made id.0 h)

  pub length-sizes : length sizes ≡ length s.nodes
  length-sizes = ap length kept.terms.counted ∙ length-map (trees s.nodes) tree_size ∙ length-trees s.nodes

  pub length-form_sizes : length fsizes ≡ length s.forms
  length-form_sizes = ap length kept.forms.counted ∙ length-map (formulas (trees s.nodes) s.forms) formula_size ∙ length-formulas (trees s.nodes) s.forms

  pub size-term : (id : TermId) → IsTerm s id → get_or sizes id.0 0 ≡ tree_size (tree s id)
  unfolding tree
  size-term id h =
      let within : id.0 < length (trees s.nodes) = omega (arith, length-trees s.nodes) in
      ap (λ ss. get_or ss id.0 0) kept.terms.counted ∙ get_or-map tree_size (trees s.nodes) id.0 Nil 0 within

  pub size-form : (id : FormId) → IsForm s id → get_or fsizes id.0 0 ≡ formula_size (formula s id)
  unfolding formula
  size-form id h =
      let gs = formulas (trees s.nodes) s.forms in
      let within : id.0 < length gs = omega (arith, length-formulas (trees s.nodes) s.forms) in
      ap (λ ss. get_or ss id.0 0) kept.forms.counted ∙ get_or-map formula_size gs id.0 (Eq Nil Nil) 0 within

  pub size-term-le : (id : TermId) → IsTerm s id → tree_size (tree s id) ≤ most_nodes
  size-term-le id h = subst (λ n. n ≤ most_nodes) (size-term id h) (kept.terms.small id.0)

  pub size-form-le : (id : FormId) → IsForm s id → formula_size (formula s id) ≤ most_nodes
  size-form-le id h = subst (λ n. n ≤ most_nodes) (size-form id h) (kept.forms.small id.0)

pub tree_size-some : (t : Tree) → 1 ≤ tree_size t
unfolding tree_size
tree_size-some (Lit k) = omega arith
tree_size-some (Name y) = omega arith
tree_size-some (Add a b) = omega arith
tree_size-some (Sub a b) = omega arith
tree_size-some (Scale k a) = omega arith
tree_size-some (Get a b) = omega arith
tree_size-some (Has a b) = omega arith
tree_size-some (Size a) = omega arith
tree_size-some (Sum a) = omega arith
tree_size-some Nil = omega arith
tree_size-some (Put a b c) = omega arith
tree_size-some (Del a b) = omega arith
tree_size-some (Bump a b c) = omega arith

pub formula_size-some : (f : Formula) → 1 ≤ formula_size f
unfolding formula_size
formula_size-some (Le a b) = omega arith
formula_size-some (Lt a b) = omega arith
formula_size-some (Eq a b) = omega arith
formula_size-some (Not f) = omega arith
formula_size-some (And f g) = omega arith
formula_size-some (Or f g) = omega arith
formula_size-some (Imp f g) = omega arith

pub AreInOrder-empty : AreInOrder (record { nodes = []; forms = [] }) [] []
unfolding trees formulas
AreInOrder-empty = record {
  terms = record {
    earlier = λ k h. absurd (omega arith);
    made = λ k h. absurd (omega arith);
    once = λ i j h. absurd (omega arith);
    counted = refl;
    small = λ k. omega arith;
  };
  forms = record {
    earlier = λ k h. absurd (omega arith);
    made = λ k h. absurd (omega arith);
    once = λ i j h. absurd (omega arith);
    counted = refl;
    small = λ k. omega arith;
  };
}
