-- Nodes of formulas: the answer at a node, from those at its parts.
use Rattle.std.proofs.Common.{◌≡◌, ℤ, Bool, not, ◌&&◌, Result, sym, ap, subst, ◌∙◌}
use Rattle.sync_terms.specs.declared.nodes.TermId.{TermId}
use Rattle.sync_terms.specs.declared.nodes.FormId.{FormId}
use Rattle.sync_terms.specs.declared.nodes.FormNode.{FormNode}
use Rattle.sync_terms.specs.declared.nodes.FormNode.TheVariants as form
use Rattle.sync_terms.specs.Stored.{Stored, tree, formula, form_shape}
use Rattle.sync_terms.specs.Values.{Valuation, num, truth}
use Rattle.sync_exchange_values.specs.declared.stops.EvalStop.{EvalStop}
use Rattle.sync_exchange_values.specs.declared.operators.Relation.TheVariants as relation
use Rattle.sync_exchange_values.specs.declared.operators.Connective.TheVariants as connective
use Rattle.sync_exchange_values.specs.Fitting.{number_fits, form_fits}
use Rattle.sync_entries.specs.Narrow.{is_narrow}
use Rattle.sync_exchange_values.specs.Steps.{Evaluates, related, connected}
use Rattle.sync_exchange_values.proofs.Nodes.{NumberAt}

abbrev pub TruthAt : Valuation → Stored → FormId → Result Bool EvalStop → Type 0
TruthAt v s f r = Evaluates r (truth v (formula s f)) (form_fits is_narrow v (formula s f))

abbrev Relates : (ℤ → ℤ → Bool) → Result ℤ EvalStop → Result ℤ EvalStop → Result Bool EvalStop → Type 0
Relates op l r res = (x y : ℤ) (f g : Bool) → Evaluates l x f → Evaluates r y g → Evaluates res (op x y) (f && g)

abbrev Connects : (Bool → Bool → Bool) → Result Bool EvalStop → Result Bool EvalStop → Result Bool EvalStop → Type 0
Connects op l r res = (x y f g : Bool) → Evaluates l x f → Evaluates r y g → Evaluates res (op x y) (f && g)

at_form : (v : Valuation) (s : Stored) (t : FormId) (n k : FormNode) (r : Result Bool EvalStop) → n ≡ k → form_shape s n ≡ formula s t → Evaluates r (truth v (form_shape s k)) (form_fits is_narrow v (form_shape s k)) → TruthAt v s t r
at_form v s t n k r is value e = subst (λ x. Evaluates r (truth v x) (form_fits is_narrow v x)) (ap (form_shape s) (sym is) ∙ value) e

pub le_at : (v : Valuation) (s : Stored) (t : FormId) (n : FormNode) (a b : TermId) (l r : Result ℤ EvalStop) (res : Result Bool EvalStop) → n ≡ form.Le a b → form_shape s n ≡ formula s t → NumberAt v s a l → NumberAt v s b r → Relates (related relation.Le) l r res → TruthAt v s t res
unfolding form_shape tree truth form_fits
le_at v s t n a b l r res is value p q h = at_form v s t n (form.Le a b) res is value (h (num v (tree s a)) (num v (tree s b)) (number_fits is_narrow v (tree s a)) (number_fits is_narrow v (tree s b)) p q)

pub lt_at : (v : Valuation) (s : Stored) (t : FormId) (n : FormNode) (a b : TermId) (l r : Result ℤ EvalStop) (res : Result Bool EvalStop) → n ≡ form.Lt a b → form_shape s n ≡ formula s t → NumberAt v s a l → NumberAt v s b r → Relates (related relation.Lt) l r res → TruthAt v s t res
unfolding form_shape tree truth form_fits
lt_at v s t n a b l r res is value p q h = at_form v s t n (form.Lt a b) res is value (h (num v (tree s a)) (num v (tree s b)) (number_fits is_narrow v (tree s a)) (number_fits is_narrow v (tree s b)) p q)

pub eq_at : (v : Valuation) (s : Stored) (t : FormId) (n : FormNode) (a b : TermId) (l r : Result ℤ EvalStop) (res : Result Bool EvalStop) → n ≡ form.Eq a b → form_shape s n ≡ formula s t → NumberAt v s a l → NumberAt v s b r → Relates (related relation.Eq) l r res → TruthAt v s t res
unfolding form_shape tree truth form_fits
eq_at v s t n a b l r res is value p q h = at_form v s t n (form.Eq a b) res is value (h (num v (tree s a)) (num v (tree s b)) (number_fits is_narrow v (tree s a)) (number_fits is_narrow v (tree s b)) p q)

pub not_at : (v : Valuation) (s : Stored) (t : FormId) (n : FormNode) (f : FormId) (l res : Result Bool EvalStop) → n ≡ form.Not f → form_shape s n ≡ formula s t → TruthAt v s f l → ((x g : Bool) → Evaluates l x g → Evaluates res (not x) g) → TruthAt v s t res
unfolding form_shape formula truth form_fits
not_at v s t n f l res is value p h = at_form v s t n (form.Not f) res is value (h (truth v (formula s f)) (form_fits is_narrow v (formula s f)) p)

pub and_at : (v : Valuation) (s : Stored) (t : FormId) (n : FormNode) (f g : FormId) (l r res : Result Bool EvalStop) → n ≡ form.And f g → form_shape s n ≡ formula s t → TruthAt v s f l → TruthAt v s g r → Connects (connected connective.And) l r res → TruthAt v s t res
unfolding form_shape formula truth form_fits
and_at v s t n f g l r res is value p q h = at_form v s t n (form.And f g) res is value (h (truth v (formula s f)) (truth v (formula s g)) (form_fits is_narrow v (formula s f)) (form_fits is_narrow v (formula s g)) p q)

pub or_at : (v : Valuation) (s : Stored) (t : FormId) (n : FormNode) (f g : FormId) (l r res : Result Bool EvalStop) → n ≡ form.Or f g → form_shape s n ≡ formula s t → TruthAt v s f l → TruthAt v s g r → Connects (connected connective.Or) l r res → TruthAt v s t res
unfolding form_shape formula truth form_fits
or_at v s t n f g l r res is value p q h = at_form v s t n (form.Or f g) res is value (h (truth v (formula s f)) (truth v (formula s g)) (form_fits is_narrow v (formula s f)) (form_fits is_narrow v (formula s g)) p q)

pub imp_at : (v : Valuation) (s : Stored) (t : FormId) (n : FormNode) (f g : FormId) (l r res : Result Bool EvalStop) → n ≡ form.Imp f g → form_shape s n ≡ formula s t → TruthAt v s f l → TruthAt v s g r → Connects (connected connective.Imp) l r res → TruthAt v s t res
unfolding form_shape formula truth form_fits
imp_at v s t n f g l r res is value p q h = at_form v s t n (form.Imp f g) res is value (h (truth v (formula s f)) (truth v (formula s g)) (form_fits is_narrow v (formula s f)) (form_fits is_narrow v (formula s g)) p q)
