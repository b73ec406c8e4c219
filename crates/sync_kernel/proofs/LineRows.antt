-- Lines of stored formulas: their shapes, and when they fit.
use Rattle.std.proofs.Common.{◌≡◌, ◌⊎◌, inl, inr, pos, Bool, true, false, [], Option, None, Result, Ok, Err, refl, sym, ap, subst, ◌∙◌}
use Rattle.std.specs.Prelude.{IfOk, OnOk}
use Rattle.sync_terms.specs.declared.nodes.TermId.{TermId}
use Rattle.sync_terms.specs.declared.nodes.FormId.{FormId}
use Rattle.sync_terms.specs.declared.nodes.FormNode.{FormNode}
use Rattle.sync_terms.specs.declared.nodes.FormNode.TheVariants as form
use Rattle.sync_terms.specs.Trees.{Tree, Lit, Sub, Formula, neg}
use Rattle.sync_terms.specs.Stored.{Stored, tree, form_shape}
use Rattle.sync_linear.specs.declared.stops.LinearStop.{LinearStop}
use Rattle.sync_linear.specs.declared.changes.Change.TheVariants as change
use Rattle.sync_linear.specs.Lines.{Line, IsChanged, LineFits}
use Rattle.sync_linear.specs.Forms.{IsWithin, Narrow}
use Rattle.sync_linear.specs.Stores.{IsLineOf}
use Rattle.sync_linear.proofs.Joins.{join_line, join_fits, fits_line}
use Rattle.sync_linear.proofs.Whole.{zero_fits}
use Rattle.sync_kernel.specs.Rows.{Row, row_of, row_of_not}
use Rattle.sync_kernel.specs.Shapes.{line_shaped}
use Rattle.sync_kernel.proofs.Atoms.{fits_is}

pub by_node : (s : Stored) (f : Formula) (was n : FormNode) → form_shape s was ≡ f → was ≡ n → row_of (form_shape s n) ≡ row_of f
by_node s f was n e g = ap (λ (x : FormNode). row_of (form_shape s x)) (sym g) ∙ ap row_of e

pub by_neg : (s : Stored) (f : Formula) (was n : FormNode) → form_shape s was ≡ f → was ≡ n → row_of (neg (form_shape s n)) ≡ row_of (neg f)
by_neg s f was n e g = ap (λ (x : FormNode). row_of (neg (form_shape s x))) (sym g) ∙ ap (λ (x : Formula). row_of (neg x)) e

pub no_row : (s : Stored) (f : Formula) (n : FormNode) → form_shape s n ≡ f
    → ((a : FormId) × (b : FormId) × (n ≡ form.And a b)) ⊎ (((a : FormId) × (b : FormId) × (n ≡ form.Or a b)) ⊎ ((a : FormId) × (b : FormId) × (n ≡ form.Imp a b)))
    → None ≡ row_of f
unfolding form_shape
no_row s f n e (inl h) = by_node s f n (form.And h.0 h.1) e h.2
no_row s f n e (inr (inl h)) = by_node s f n (form.Or h.0 h.1) e h.2
no_row s f n e (inr (inr h)) = by_node s f n (form.Imp h.0 h.1) e h.2

abbrev NegIs : Stored → FormNode → Type 0
NegIs s n = row_of_not (form_shape s n) ≡ row_of (neg (form_shape s n))

pub negated : (s : Stored) (n : FormNode)
    → ((a : TermId) × (b : TermId) × (n ≡ form.Le a b)) ⊎ (((a : TermId) × (b : TermId) × (n ≡ form.Lt a b)) ⊎ (((a : TermId) × (b : TermId) × (n ≡ form.Eq a b))
    ⊎ (((a : FormId) × (b : FormId) × (n ≡ form.And a b)) ⊎ (((a : FormId) × (b : FormId) × (n ≡ form.Or a b)) ⊎ ((a : FormId) × (b : FormId) × (n ≡ form.Imp a b))))))
    → NegIs s n
unfolding form_shape
negated s n (inl h) = subst (NegIs s) (sym h.2) refl
negated s n (inr (inl h)) = subst (NegIs s) (sym h.2) refl
negated s n (inr (inr (inl h))) = subst (NegIs s) (sym h.2) refl
negated s n (inr (inr (inr (inl h)))) = subst (NegIs s) (sym h.2) refl
negated s n (inr (inr (inr (inr (inl h))))) = subst (NegIs s) (sym h.2) refl
negated s n (inr (inr (inr (inr (inr h))))) = subst (NegIs s) (sym h.2) refl

pub neg_row : (s : Stored) (f : Formula) (n : FormNode) (o : Option Row) → form_shape s n ≡ f → NegIs s n → o ≡ row_of_not (form_shape s n) → o ≡ row_of (neg f)
neg_row s f n o e g h = h ∙ g ∙ ap (λ (x : Formula). row_of (neg x)) e

-- ---- the line of a shape
pub narrow_under : (b : Bool) (t : Tree) → Narrow (line_shaped b t) → Narrow t
narrow_under true t h = h.1
narrow_under false t h = h

one_line : (s : Stored) (one : Line) → one ≡ record { constant = pos 1; atoms = [] } → IsLineOf s (Lit (pos 1)) one
one_line s one e = subst (IsLineOf s (Lit (pos 1))) (sym e) (record { constant = refl; atoms = λ id q. refl; stored = λ id ne. absurd (ne refl); has_atoms = tt })

one_within : IsWithin (Lit (pos 1))
one_within = record { constant = fits_is (pos 1) refl; atoms = λ a. zero_fits }

pub sub_wide : (s : Stored) (b : Bool) (l r : TermId) (left right : Line) → IsLineOf s (tree s l) left → IsLineOf s (tree s r) right
    → (LineFits change.Minus left right → ⊥) → Narrow (line_shaped b (Sub (tree s l) (tree s r))) → ⊥
sub_wide s b l r left right i j leaves h = leaves (fits_line change.Minus s (tree s l) (tree s r) left right i j (narrow_under b (Sub (tree s l) (tree s r)) h).0)

module _ (s : Stored) (t : Tree) (line one : Line) (i : IsLineOf s t line) (n : Narrow t) (e : one ≡ record { constant = pos 1; atoms = [] }) where
  pub strict_line : (b : Bool) (r : Result Line LinearStop) → b ≡ true → IfOk r (IsChanged change.Plus line one) → IfOk r (IsLineOf s (line_shaped b t))
  strict_line true (Ok new) g h = join_line change.Plus s t (Lit (pos 1)) line one new i (one_line s one e) h
  strict_line true (Err x) g h = tt
  strict_line false r g h = absurd (cc)

  pub strict_narrow : (b : Bool) (r : Result Line LinearStop) → b ≡ true → OnOk r (LineFits change.Plus line one) → OnOk r (Narrow (line_shaped b t))
  strict_narrow true (Ok new) g h = (join_fits change.Plus s t (Lit (pos 1)) line one i (one_line s one e) h, n, one_within)
  strict_narrow true (Err x) g h = tt
  strict_narrow false r g h = absurd (cc)

  pub strict_width : (b : Bool) → b ≡ true → (LineFits change.Plus line one → ⊥) → Narrow (line_shaped b t) → ⊥
  strict_width true g leaves h = leaves (fits_line change.Plus s t (Lit (pos 1)) line one i (one_line s one e) h.0)
  strict_width false g leaves h = absurd (cc)

pub plain_line : (s : Stored) (t : Tree) (b : Bool) (line : Line) → b ≡ false → IsLineOf s t line → IsLineOf s (line_shaped b t) line
plain_line s t true line g h = absurd (cc)
plain_line s t false line g h = h

pub plain_narrow : (t : Tree) (b : Bool) → b ≡ false → Narrow t → Narrow (line_shaped b t)
plain_narrow t true g h = absurd (cc)
plain_narrow t false g h = h

pub sub_line : (s : Stored) (l r : TermId) (left right line : Line) → IsLineOf s (tree s l) left → IsLineOf s (tree s r) right → IsChanged change.Minus left right line → IsLineOf s (Sub (tree s l) (tree s r)) line
sub_line s l r left right line i j c = join_line change.Minus s (tree s l) (tree s r) left right line i j c

pub sub_narrow : (s : Stored) (l r : TermId) (left right : Line) → IsLineOf s (tree s l) left → IsLineOf s (tree s r) right → Narrow (tree s l) → Narrow (tree s r)
    → LineFits change.Minus left right → Narrow (Sub (tree s l) (tree s r))
sub_narrow s l r left right i j m n f = (join_fits change.Minus s (tree s l) (tree s r) left right i j f, m, n)
