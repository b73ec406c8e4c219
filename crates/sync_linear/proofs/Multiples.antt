-- Multiples of leaves: their lines, and when they fit.
use Rattle.std.proofs.Common.{◌≡◌, inl, inr, ℕ, ℤ, ◌*ℤ◌, [], ◌∷◌, refl, sym, ap, subst, ◌∙◌}
use Rattle.std.specs.Prelude.{FitsSigned}
use Rattle.std.specs.Int.{w128}
use Rattle.std.proofs.lemmas.Bool.{cases_eq}
use Rattle.sync_terms.specs.declared.nodes.TermId.{TermId}
use Rattle.sync_terms.specs.Trees.{Tree, Scale}
use Rattle.sync_terms.specs.Stored.{Stored, tree}
use Rattle.sync_linear.specs.declared.leaves.Leaf.{Leaf}
use Rattle.sync_linear.specs.declared.leaves.Leaf.TheVariants.{Number, Atom}
use Rattle.sync_linear.specs.Lines.{times}
use Rattle.sync_linear.specs.Leaves.{leaf_line, number_of, scaled_leaf}
use Rattle.sync_linear.specs.Forms.{coefficient_of, IsWithin, Narrow}
use Rattle.sync_linear.specs.Stores.{IsLineOf}
use Rattle.sync_linear.proofs.Ring.{times_zero}
use Rattle.sync_linear.proofs.Adding.{times_here, times_apart}
use Rattle.sync_linear.proofs.Scaling.{none_fits}
use Rattle.sync_linear.proofs.Joins.{none_or_stored}

scaled_constant : (c : ℤ) (l : Leaf) → (leaf_line (scaled_leaf c l)).constant ≡ c *ℤ (leaf_line l).constant
scaled_constant c (Number n) = refl
scaled_constant c (Atom id n) = sym (times_zero c)

scaled_times : (c : ℤ) (l : Leaf) (q : ℕ) → times (leaf_line (scaled_leaf c l)).atoms q ≡ c *ℤ times (leaf_line l).atoms q
scaled_times c (Number n) q = sym (times_zero c)
scaled_times c (Atom id n) q = elim (cases_eq q id) [
  | inl e ↦ subst (λ (k : ℕ). times ((k, c *ℤ n) ∷ []) q ≡ c *ℤ times ((k, n) ∷ []) q) e (times_here q (c *ℤ n) [] ∙ ap (λ (x : ℤ). c *ℤ x) (sym (times_here q n [])))
  | inr ne ↦ times_apart q id (c *ℤ n) [] ne ∙ sym (times_zero c) ∙ ap (λ (x : ℤ). c *ℤ x) (sym (times_apart q id n [] ne))
]

constant_fits : (c : ℤ) (l : Leaf) → FitsSigned w128 (c *ℤ number_of l) → FitsSigned w128 (c *ℤ (leaf_line l).constant)
constant_fits c (Number n) f = f
constant_fits c (Atom id n) f = none_fits c

times_fit : (c : ℤ) (l : Leaf) (q : ℕ) → FitsSigned w128 (c *ℤ number_of l) → FitsSigned w128 (c *ℤ times (leaf_line l).atoms q)
times_fit c (Number n) q f = none_fits c
times_fit c (Atom id n) q f = elim (cases_eq q id) [
  | inl e ↦ subst (λ (k : ℕ). FitsSigned w128 (c *ℤ times ((k, n) ∷ []) q)) e (subst (λ (x : ℤ). FitsSigned w128 (c *ℤ x)) (sym (times_here q n [])) f)
  | inr ne ↦ subst (λ (x : ℤ). FitsSigned w128 (c *ℤ x)) (sym (times_apart q id n [] ne)) (none_fits c)
]

scaled_line : (s : Stored) (c : ℤ) (l : Leaf) (t : Tree) → IsLineOf s t (leaf_line l) → IsLineOf s (Scale c t) (leaf_line (scaled_leaf c l))
scaled_line s c l t h = record {
  constant = scaled_constant c l ∙ ap (λ (x : ℤ). c *ℤ x) h.constant;
  atoms = λ id q. scaled_times c l id.0 ∙ ap (λ (x : ℤ). c *ℤ x) (h.atoms id q);
  stored = λ id ne. h.stored id (λ z. ne (scaled_times c l id ∙ ap (λ (x : ℤ). c *ℤ x) z ∙ times_zero c));
  has_atoms = h.has_atoms;
}

scaled_within : (s : Stored) (c : ℤ) (l : Leaf) (t : Tree) → IsLineOf s t (leaf_line l) → FitsSigned w128 (c *ℤ number_of l) → IsWithin (Scale c t)
scaled_within s c l t h f = record {
  constant = subst (λ (x : ℤ). FitsSigned w128 (c *ℤ x)) h.constant (constant_fits c l f);
  atoms = λ x. elim (none_or_stored s x t h.has_atoms) [
    | inl e ↦ subst (λ (y : ℤ). FitsSigned w128 (c *ℤ y)) (sym e) (none_fits c)
    | inr i ↦ subst (λ (y : Tree). FitsSigned w128 (c *ℤ coefficient_of y t)) i.2 (subst (λ (y : ℤ). FitsSigned w128 (c *ℤ y)) (h.atoms i.0 i.1) (times_fit c l i.0.0 f))
  ];
}

-- a term that is a multiple of one with a leaf
pub multiple_is : (s : Stored) (t a : TermId) (c : ℤ) (l : Leaf) → tree s t ≡ Scale c (tree s a) → IsLineOf s (tree s a) (leaf_line l) × Narrow (tree s a) → FitsSigned w128 (c *ℤ number_of l)
    → IsLineOf s (tree s t) (leaf_line (scaled_leaf c l)) × Narrow (tree s t)
multiple_is s t a c l e h f =
    subst (λ (x : Tree). IsLineOf s x (leaf_line (scaled_leaf c l)) × Narrow x) (sym e)
    (scaled_line s c l (tree s a) h.0, (scaled_within s c l (tree s a) h.0 f, h.1))
