-- The size of a negation.
use Rattle.std.proofs.Common.{◌≡◌, ℕ, ◌+◌, ◌-◌, refl, sym, ap, ◌∙◌, arith}
use Rattle.sync_terms.specs.Trees.{Formula, formula_size, neg}
use Rattle.sync_terms.specs.Stored.{Stored, form_shape}
use Rattle.sync_terms.specs.declared.nodes.FormId.{FormId}
use Rattle.sync_terms.specs.declared.nodes.FormNode.{FormNode}
use Rattle.sync_terms.specs.declared.nodes.FormNode.TheVariants as form

-- of `!F` the size of F, which is one less
pub size-neg-not : (s : Stored) (g : FormId) (f : Formula) → form_shape s (form.Not g) ≡ f → formula_size f - 1 ≡ formula_size (neg f)
unfolding form_shape formula_size
size-neg-not s g f e = ap (λ (h : Formula). formula_size h - 1) (sym e) ∙ (one _ ∙ ap (λ (h : Formula). formula_size (neg h)) e) where
  one : (n : ℕ) → n + 1 - 1 ≡ n
  one n = omega arith

-- of another formula one more
pub size-neg : (s : Stored) (n : FormNode) (f : Formula) → ((g : FormId) → n ≡ form.Not g → ⊥) → form_shape s n ≡ f → formula_size f + 1 ≡ formula_size (neg f)
unfolding form_shape formula_size
size-neg s (form.Le a b) f other e = ap (λ (h : Formula). formula_size h + 1) (sym e) ∙ ap (λ (h : Formula). formula_size (neg h)) e
size-neg s (form.Lt a b) f other e = ap (λ (h : Formula). formula_size h + 1) (sym e) ∙ ap (λ (h : Formula). formula_size (neg h)) e
size-neg s (form.Eq a b) f other e = ap (λ (h : Formula). formula_size h + 1) (sym e) ∙ ap (λ (h : Formula). formula_size (neg h)) e
size-neg s (form.Not g) f other e = absurd (other g refl)
size-neg s (form.And g h) f other e = ap (λ (h : Formula). formula_size h + 1) (sym e) ∙ ap (λ (h : Formula). formula_size (neg h)) e
size-neg s (form.Or g h) f other e = ap (λ (h : Formula). formula_size h + 1) (sym e) ∙ ap (λ (h : Formula). formula_size (neg h)) e
size-neg s (form.Imp g h) f other e = ap (λ (h : Formula). formula_size h + 1) (sym e) ∙ ap (λ (h : Formula). formula_size (neg h)) e
