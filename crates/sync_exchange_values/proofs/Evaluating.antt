-- Steps of the walk: what an answer is where its parts have theirs.
use Rattle.std.proofs.Common.{◌≡◌, ℤ, Bool, true, false, ◌&&◌, Result, Ok, Err, sym, ap, subst, ◌∙◌}
use Rattle.std.specs.Prelude.{FitsSigned, IfOk, OnOk}
use Rattle.std.specs.Int.{w128}
use Rattle.sync_terms.specs.Maps.{Map}
use Rattle.sync_exchange_values.specs.declared.stops.EvalStop.{EvalStop}
use Rattle.sync_exchange_values.specs.declared.stops.EvalStop.TheVariants.{Width, Memory}
use Rattle.sync_exchange_values.specs.declared.questions.Question.{Question}
use Rattle.sync_exchange_values.specs.declared.operators.Operator.{Operator}
use Rattle.sync_exchange_values.specs.declared.operators.Relation.{Relation}
use Rattle.sync_exchange_values.specs.declared.operators.Connective.{Connective}
use Rattle.sync_entries.specs.Narrow.{is_narrow}
use Rattle.sync_exchange_values.specs.Steps.{Evaluates, answer, operated, related, connected}
use Rattle.sync_exchange_values.proofs.Narrowness.{narrow_of, wide_of, and_true, right_false}

pub stop : {A B : Type 0} (e : EvalStop) (x : A) (z : B) (f g : Bool) → (f ≡ false → g ≡ false) → Evaluates {A = A} (Err e) x f → Evaluates {A = B} (Err e) z g
stop Width x z f g h k = h k
stop Memory x z f g h k = tt

-- a part that stopped
pub stop_at : {A B : Type 0} (r : Result A EvalStop) (e : EvalStop) (x : A) (z : B) (f g : Bool) → r ≡ Err e → (f ≡ false → g ≡ false) → Evaluates r x f → Evaluates {A = B} (Err e) z g
stop_at {A} r e x z f g is h k = stop e x z f g h (subst (λ (q : Result A EvalStop). Evaluates q x f) is k)

-- a part that has its value
pub got : {A : Type 0} (r : Result A EvalStop) (y x : A) (f : Bool) → r ≡ Ok y → Evaluates r x f → (y ≡ x) × (f ≡ true)
got {A} r y x f is k = subst (λ (q : Result A EvalStop). Evaluates q x f) is k

-- the value itself is all that has to fit
pub exact : (n z : ℤ) → FitsSigned w128 n → n ≡ z → Evaluates (Ok n) z (is_narrow z)
exact n z f e = (e, ap is_narrow (sym e) ∙ narrow_of n f)

pub operated_same : (op : Operator) (l r x y : ℤ) → l ≡ x → r ≡ y → operated op l r ≡ operated op x y
operated_same op l r x y e h = ap (λ (m : ℤ). operated op m r) e ∙ ap (operated op x) h

pub operated_some : (op : Operator) (l r n x y : ℤ) (f g : Bool) → (l ≡ x) × (f ≡ true) → (r ≡ y) × (g ≡ true) → FitsSigned w128 (operated op l r) × (n ≡ operated op l r) → Evaluates (Ok n) (operated op x y) (f && g && is_narrow (operated op x y))
operated_some op l r n x y f g a b d =
    let z = operated_same op l r x y a.0 b.0 in
    (d.1 ∙ z, and_true (f && g) _ (and_true f g a.1 b.1) (ap is_narrow (sym z) ∙ narrow_of (operated op l r) d.0))

pub operated_none : (op : Operator) (l r x y : ℤ) (f g : Bool) → l ≡ x → r ≡ y → (FitsSigned w128 (operated op l r) → ⊥) → (f && g && is_narrow (operated op x y)) ≡ false
operated_none op l r x y f g a b w =
    right_false (f && g) _ (ap is_narrow (sym (operated_same op l r x y a b)) ∙ wide_of (operated op l r) w)

pub related_ok : (op : Relation) (l r x y : ℤ) (b f g : Bool) → (l ≡ x) × (f ≡ true) → (r ≡ y) × (g ≡ true) → b ≡ related op l r → Evaluates (Ok b) (related op x y) (f && g)
related_ok op l r x y b f g p q is =
    (is ∙ ap (λ (m : ℤ). related op m r) p.0 ∙ ap (related op x) q.0, and_true f g p.1 q.1)

pub connected_ok : (op : Connective) (l r x y b f g : Bool) → (l ≡ x) × (f ≡ true) → (r ≡ y) × (g ≡ true) → b ≡ connected op l r → Evaluates (Ok b) (connected op x y) (f && g)
connected_ok op l r x y b f g p q is =
    (is ∙ ap (λ (m : Bool). connected op m r) p.0 ∙ ap (connected op x) q.0, and_true f g p.1 q.1)

-- what is asked of a map, whose values fit
pub asked_of : (r : Result ℤ EvalStop) (q : Question) (m n : Map) (f : Bool) → m ≡ n → f ≡ true → Evaluates r (answer q m) (is_narrow (answer q m)) → Evaluates r (answer q n) (f && is_narrow (answer q n))
asked_of r q m n f e t k =
    subst (λ (b : Bool). Evaluates r (answer q n) (b && is_narrow (answer q n))) (sym t)
    (subst (λ (p : Map). Evaluates r (answer q p) (is_narrow (answer q p))) e k)

-- one of the questions
pub at_question : (q p : Question) (m : Map) (z : ℤ) → q ≡ p → FitsSigned w128 z → z ≡ answer p m → Evaluates (Ok z) (answer q m) (is_narrow (answer q m))
at_question q p m z is f e = exact z (answer q m) f (e ∙ ap (λ (x : Question). answer x m) (sym is))

-- ---- what callers read

pub value_of : {A : Type 0} (r : Result A EvalStop) (x : A) (f : Bool) → Evaluates r x f → IfOk r (λ y. y ≡ x)
value_of (Ok y) x f h = h.0
value_of (Err e) x f h = tt

pub fits_where_ok : {A : Type 0} (r : Result A EvalStop) (x : A) (f : Bool) → Evaluates r x f → OnOk r (f ≡ true)
fits_where_ok (Ok y) x f h = h.1
fits_where_ok (Err e) x f h = tt

pub wide_where_width : {A : Type 0} (r : Result A EvalStop) (x : A) (f : Bool) → Evaluates r x f → r ≡ Err Width → f ≡ false
wide_where_width {A} r x f h is = subst (λ (q : Result A EvalStop). Evaluates q x f) is h
