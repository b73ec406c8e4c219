-- What formulas of a store say, by their nodes.
use Rattle.std.proofs.Common.{◌≡◌, ◌⊎◌, inl, inr, true, false, refl, sym, ap, subst, ◌∙◌}
use Rattle.std.proofs.lemmas.Bool.{cond-true, cond-false}
use Rattle.sync_terms.specs.declared.nodes.TermId.{TermId}
use Rattle.sync_terms.specs.declared.nodes.FormId.{FormId}
use Rattle.sync_terms.specs.declared.nodes.FormNode.{FormNode}
use Rattle.sync_terms.specs.declared.nodes.FormNode.TheVariants as form
use Rattle.sync_terms.specs.Trees.{Formula, Not, neg}
use Rattle.sync_terms.specs.Stored.{Stored, formula, form_shape}
use Rattle.sync_kernel_facts.specs.declared.literals.Literal.{Literal}
use Rattle.sync_kernel_facts.specs.Literals.{literal_form, is_negation}

-- what holds of the formula of a node holds of the formula that has this node
pub by_shape : (s : Stored) (f : Formula) (was n : FormNode) (P : Formula → Type 0) → form_shape s was ≡ f → was ≡ n → P (form_shape s n) → P f
by_shape s f was n P e g h = subst P (ap (form_shape s) (sym g) ∙ e) h

-- a formula that is no negation
pub record IsPlain (f : Formula) : Type 0 where
  pub denied : Not f ≡ neg f
  pub bare : is_negation f ≡ false

pub other_plain : (s : Stored) (f : Formula) (n : FormNode) → form_shape s n ≡ f
    → ((a : TermId) × (b : TermId) × (n ≡ form.Le a b)) ⊎ (((a : TermId) × (b : TermId) × (n ≡ form.Lt a b)) ⊎ (((a : TermId) × (b : TermId) × (n ≡ form.Eq a b))
    ⊎ (((a : FormId) × (b : FormId) × (n ≡ form.And a b)) ⊎ (((a : FormId) × (b : FormId) × (n ≡ form.Or a b)) ⊎ ((a : FormId) × (b : FormId) × (n ≡ form.Imp a b))))))
    → IsPlain f
unfolding form_shape
other_plain s f n e (inl h) = by_shape s f n (form.Le h.0 h.1) IsPlain e h.2 (record { denied = refl; bare = refl })
other_plain s f n e (inr (inl h)) = by_shape s f n (form.Lt h.0 h.1) IsPlain e h.2 (record { denied = refl; bare = refl })
other_plain s f n e (inr (inr (inl h))) = by_shape s f n (form.Eq h.0 h.1) IsPlain e h.2 (record { denied = refl; bare = refl })
other_plain s f n e (inr (inr (inr (inl h)))) = by_shape s f n (form.And h.0 h.1) IsPlain e h.2 (record { denied = refl; bare = refl })
other_plain s f n e (inr (inr (inr (inr (inl h))))) = by_shape s f n (form.Or h.0 h.1) IsPlain e h.2 (record { denied = refl; bare = refl })
other_plain s f n e (inr (inr (inr (inr (inr h))))) = by_shape s f n (form.Imp h.0 h.1) IsPlain e h.2 (record { denied = refl; bare = refl })

pub inner_denied : (s : Stored) (f : Formula) (was : FormNode) (inner : FormId) → form_shape s was ≡ f → was ≡ form.Not inner → formula s inner ≡ neg f
unfolding form_shape formula
inner_denied s f was inner e g = by_shape s f was (form.Not inner) (λ (x : Formula). formula s inner ≡ neg x) e g refl

pub inner_not : (s : Stored) (f : Formula) (was : FormNode) (inner : FormId) → form_shape s was ≡ f → was ≡ form.Not inner → Not (formula s inner) ≡ f
unfolding form_shape formula
inner_not s f was inner e g = by_shape s f was (form.Not inner) (λ (x : Formula). Not (formula s inner) ≡ x) e g refl

pub says_plain : (s : Stored) (l : Literal) → l.negated ≡ false → literal_form s l ≡ formula s l.form
says_plain s l e = cond-false l.negated (Not (formula s l.form)) (formula s l.form) e

pub says_not : (s : Stored) (l : Literal) → l.negated ≡ true → literal_form s l ≡ Not (formula s l.form)
says_not s l e = cond-true l.negated (Not (formula s l.form)) (formula s l.form) e

pub plain_says : (s : Stored) (l : Literal) (id : FormId) → l ≡ record { form = id; negated = false } → literal_form s l ≡ formula s id
plain_says s l id e = ap (literal_form s) e
