-- Nodes of terms: the answer at a node, from those at its children.
use Rattle.std.proofs.Common.{◌≡◌, ◌⊎◌, inl, inr, ℤ, pos, Bool, true, false, ◌&&◌, Result, Ok, Err, refl, sym, ap, subst, ◌∙◌}
use Rattle.std.specs.Prelude.{FitsSigned}
use Rattle.std.specs.Int.{w128}
use Rattle.sync_terms.specs.declared.nodes.Sym.{Sym}
use Rattle.sync_terms.specs.declared.nodes.TermId.{TermId}
use Rattle.sync_terms.specs.declared.nodes.Node.{Node}
use Rattle.sync_terms.specs.declared.nodes.Node.TheVariants as node
use Rattle.sync_terms.specs.Stored.{Stored, tree, shape}
use Rattle.sync_terms.specs.Maps.{Map, nil, put, del, bump}
use Rattle.sync_terms.specs.Values.{Valuation, num, mapped}
use Rattle.sync_exchange_values.specs.declared.stops.EvalStop.{EvalStop}
use Rattle.sync_exchange_values.specs.declared.questions.Question.{Question}
use Rattle.sync_exchange_values.specs.declared.questions.Question.TheVariants as question
use Rattle.sync_exchange_values.specs.declared.operators.Operator.TheVariants as operator
use Rattle.sync_exchange_values.specs.Fitting.{number_fits, map_fits, values_fit}
use Rattle.sync_entries.specs.Narrow.{is_narrow}
use Rattle.sync_exchange_values.specs.Steps.{Evaluates, answer, operated}
use Rattle.sync_exchange_values.proofs.Narrowness.{left_false, right_false, narrow_of}
use Rattle.sync_exchange_values.proofs.Evaluating.{exact, asked_of, stop}

-- the answers at an id of the store
abbrev pub NumberAt : Valuation → Stored → TermId → Result ℤ EvalStop → Type 0
NumberAt v s t r = Evaluates r (num v (tree s t)) (number_fits is_narrow v (tree s t))

abbrev pub MapAt : Valuation → Stored → TermId → Result Map EvalStop → Type 0
MapAt v s t r = Evaluates r (mapped v (tree s t)) (map_fits is_narrow v (tree s t))

abbrev pub AnswerAt : Valuation → Stored → TermId → Question → Result ℤ EvalStop → Type 0
AnswerAt v s t q r = Evaluates r (answer q (mapped v (tree s t))) (map_fits is_narrow v (tree s t) && is_narrow (answer q (mapped v (tree s t))))

abbrev Combines : (op : ℤ → ℤ → ℤ) → Result ℤ EvalStop → Result ℤ EvalStop → Result ℤ EvalStop → Type 0
Combines op l r res = (x y : ℤ) (f g : Bool) → Evaluates l x f → Evaluates r y g → Evaluates res (op x y) (f && g && is_narrow (op x y))

at_number : (v : Valuation) (s : Stored) (t : TermId) (n k : Node) (r : Result ℤ EvalStop) → n ≡ k → shape s n ≡ tree s t → Evaluates r (num v (shape s k)) (number_fits is_narrow v (shape s k)) → NumberAt v s t r
at_number v s t n k r is value e = subst (λ x. Evaluates r (num v x) (number_fits is_narrow v x)) (ap (shape s) (sym is) ∙ value) e

at_map : (v : Valuation) (s : Stored) (t : TermId) (n k : Node) (r : Result Map EvalStop) → n ≡ k → shape s n ≡ tree s t → Evaluates r (mapped v (shape s k)) (map_fits is_narrow v (shape s k)) → MapAt v s t r
at_map v s t n k r is value e = subst (λ x. Evaluates r (mapped v x) (map_fits is_narrow v x)) (ap (shape s) (sym is) ∙ value) e

pub lit_at : (v : Valuation) (s : Stored) (t : TermId) (n : Node) (k z : ℤ) → n ≡ node.Lit k → shape s n ≡ tree s t → FitsSigned w128 z → z ≡ k → NumberAt v s t (Ok z)
unfolding shape tree number_fits
lit_at v s t n k z is value f e = at_number v s t n (node.Lit k) (Ok z) is value (exact z k f e)

pub name_at : (v : Valuation) (s : Stored) (t : TermId) (n : Node) (x : Sym) (z : ℤ) → n ≡ node.Name x → shape s n ≡ tree s t → FitsSigned w128 z → z ≡ v.number x.0 → NumberAt v s t (Ok z)
unfolding shape tree number_fits
name_at v s t n x z is value f e = at_number v s t n (node.Name x) (Ok z) is value (exact z (v.number x.0) f e)

pub add_at : (v : Valuation) (s : Stored) (t : TermId) (n : Node) (a b : TermId) (l r res : Result ℤ EvalStop) → n ≡ node.Add a b → shape s n ≡ tree s t → NumberAt v s a l → NumberAt v s b r → Combines (operated operator.Plus) l r res → NumberAt v s t res
unfolding shape tree number_fits
add_at v s t n a b l r res is value p q h =
    at_number v s t n (node.Add a b) res is value
    (h (num v (tree s a)) (num v (tree s b)) (number_fits is_narrow v (tree s a)) (number_fits is_narrow v (tree s b)) p q)

pub sub_at : (v : Valuation) (s : Stored) (t : TermId) (n : Node) (a b : TermId) (l r res : Result ℤ EvalStop) → n ≡ node.Sub a b → shape s n ≡ tree s t → NumberAt v s a l → NumberAt v s b r → Combines (operated operator.Minus) l r res → NumberAt v s t res
unfolding shape tree number_fits
sub_at v s t n a b l r res is value p q h =
    at_number v s t n (node.Sub a b) res is value
    (h (num v (tree s a)) (num v (tree s b)) (number_fits is_narrow v (tree s a)) (number_fits is_narrow v (tree s b)) p q)

pub scale_at : (v : Valuation) (s : Stored) (t : TermId) (n : Node) (k z : ℤ) (a : TermId) (r res : Result ℤ EvalStop) → n ≡ node.Scale k a → shape s n ≡ tree s t → FitsSigned w128 k → z ≡ k → NumberAt v s a r → Combines (operated operator.Times) (Ok z) r res → NumberAt v s t res
unfolding shape tree number_fits
scale_at v s t n k z a r res is value f e p h =
    at_number v s t n (node.Scale k a) res is value
    (h k (num v (tree s a)) (is_narrow k) (number_fits is_narrow v (tree s a)) (e, narrow_of k f) p)

-- a question's own part holds
and_mid : (f g h : Bool) → g ≡ true → (f && h) ≡ (f && g && h)
and_mid true g h e = ap (λ b. b && h) (sym e)
and_mid false g h e = refl

pub get_at : (v : Valuation) (s : Stored) (t : TermId) (n : Node) (m k : TermId) (z : ℤ) (res : Result ℤ EvalStop) → n ≡ node.Get m k → shape s n ≡ tree s t → NumberAt v s k (Ok z) → AnswerAt v s m (question.Get z) res → NumberAt v s t res
unfolding shape tree number_fits
get_at v s t n m k z res is value key h =
    at_number v s t n (node.Get m k) res is value
    (subst (λ b. Evaluates res (answer (question.Get (num v (tree s k))) (mapped v (tree s m))) b)
    (and_mid (map_fits is_narrow v (tree s m)) (number_fits is_narrow v (tree s k)) (is_narrow (answer (question.Get (num v (tree s k))) (mapped v (tree s m)))) key.1)
    (subst (λ (q : ℤ). AnswerAt v s m (question.Get q) res) key.0 h))

pub has_at : (v : Valuation) (s : Stored) (t : TermId) (n : Node) (m k : TermId) (z : ℤ) (res : Result ℤ EvalStop) → n ≡ node.Has m k → shape s n ≡ tree s t → NumberAt v s k (Ok z) → AnswerAt v s m (question.Has z) res → NumberAt v s t res
unfolding shape tree number_fits
has_at v s t n m k z res is value key h =
    at_number v s t n (node.Has m k) res is value
    (subst (λ b. Evaluates res (answer (question.Has (num v (tree s k))) (mapped v (tree s m))) b)
    (and_mid (map_fits is_narrow v (tree s m)) (number_fits is_narrow v (tree s k)) (is_narrow (answer (question.Has (num v (tree s k))) (mapped v (tree s m)))) key.1)
    (subst (λ (q : ℤ). AnswerAt v s m (question.Has q) res) key.0 h))

pub get_stop : (v : Valuation) (s : Stored) (t : TermId) (n : Node) (m k : TermId) (e : EvalStop) → n ≡ node.Get m k → shape s n ≡ tree s t → NumberAt v s k (Err e) → NumberAt v s t (Err e)
unfolding shape tree number_fits
get_stop v s t n m k e is value h =
    at_number v s t n (node.Get m k) (Err e) is value
    (stop e _ _ (number_fits is_narrow v (tree s k)) _ (λ w. left_false _ _ (right_false (map_fits is_narrow v (tree s m)) _ w)) h)

pub has_stop : (v : Valuation) (s : Stored) (t : TermId) (n : Node) (m k : TermId) (e : EvalStop) → n ≡ node.Has m k → shape s n ≡ tree s t → NumberAt v s k (Err e) → NumberAt v s t (Err e)
unfolding shape tree number_fits
has_stop v s t n m k e is value h =
    at_number v s t n (node.Has m k) (Err e) is value
    (stop e _ _ (number_fits is_narrow v (tree s k)) _ (λ w. left_false _ _ (right_false (map_fits is_narrow v (tree s m)) _ w)) h)

pub size_at : (v : Valuation) (s : Stored) (t : TermId) (n : Node) (m : TermId) (res : Result ℤ EvalStop) → n ≡ node.Size m → shape s n ≡ tree s t → AnswerAt v s m question.Size res → NumberAt v s t res
unfolding shape tree number_fits
size_at v s t n m res is value h = at_number v s t n (node.Size m) res is value h

pub sum_at : (v : Valuation) (s : Stored) (t : TermId) (n : Node) (m : TermId) (res : Result ℤ EvalStop) → n ≡ node.Sum m → shape s n ≡ tree s t → AnswerAt v s m question.Sum res → NumberAt v s t res
unfolding shape tree number_fits
sum_at v s t n m res is value h = at_number v s t n (node.Sum m) res is value h

-- a map where a number is wanted
pub no_number : (v : Valuation) (s : Stored) (t : TermId) (n : Node) (z : ℤ) → shape s n ≡ tree s t → z ≡ pos 0
    → (n ≡ node.Nil) ⊎ (((m : TermId) × (k : TermId) × (w : TermId) × (n ≡ node.Put m k w)) ⊎ (((m : TermId) × (k : TermId) × (n ≡ node.Del m k)) ⊎ ((m : TermId) × (k : TermId) × (w : TermId) × (n ≡ node.Bump m k w))))
    → NumberAt v s t (Ok z)
unfolding shape tree number_fits
no_number v s t n z value e (inl h) = at_number v s t n node.Nil (Ok z) h value (e, refl)
no_number v s t n z value e (inr (inl h)) = at_number v s t n (node.Put h.0 h.1 h.2) (Ok z) h.3 value (e, refl)
no_number v s t n z value e (inr (inr (inl h))) = at_number v s t n (node.Del h.0 h.1) (Ok z) h.2 value (e, refl)
no_number v s t n z value e (inr (inr (inr h))) = at_number v s t n (node.Bump h.0 h.1 h.2) (Ok z) h.3 value (e, refl)

-- ---- maps

pub named_at : (v : Valuation) (s : Stored) (t : TermId) (n : Node) (x : Sym) (m : Map) (res : Result Map EvalStop) → n ≡ node.Name x → shape s n ≡ tree s t → m ≡ v.mapping x.0 → Evaluates res m (values_fit is_narrow m) → MapAt v s t res
unfolding shape tree map_fits
named_at v s t n x m res is value e h =
    at_map v s t n (node.Name x) res is value (subst (λ (q : Map). Evaluates res q (values_fit is_narrow q)) e h)

pub put_at : (v : Valuation) (s : Stored) (t : TermId) (n : Node) (m k w : TermId) (a : Result Map EvalStop) (b c : Result ℤ EvalStop) (res : Result Map EvalStop) → n ≡ node.Put m k w → shape s n ≡ tree s t → MapAt v s m a → NumberAt v s k b → NumberAt v s w c
    → ((m : Map) (k w : ℤ) (f g h : Bool) → Evaluates a m f → Evaluates b k g → Evaluates c w h → Evaluates res (put m k w) (f && g && h)) → MapAt v s t res
unfolding shape tree map_fits
put_at v s t n m k w a b c res is value p q r h =
    at_map v s t n (node.Put m k w) res is value
    (h (mapped v (tree s m)) (num v (tree s k)) (num v (tree s w)) (map_fits is_narrow v (tree s m)) (number_fits is_narrow v (tree s k)) (number_fits is_narrow v (tree s w)) p q r)

pub del_at : (v : Valuation) (s : Stored) (t : TermId) (n : Node) (m k : TermId) (a : Result Map EvalStop) (b : Result ℤ EvalStop) (res : Result Map EvalStop) → n ≡ node.Del m k → shape s n ≡ tree s t → MapAt v s m a → NumberAt v s k b
    → ((m : Map) (k : ℤ) (f g : Bool) → Evaluates a m f → Evaluates b k g → Evaluates res (del m k) (f && g)) → MapAt v s t res
unfolding shape tree map_fits
del_at v s t n m k a b res is value p q h =
    at_map v s t n (node.Del m k) res is value
    (h (mapped v (tree s m)) (num v (tree s k)) (map_fits is_narrow v (tree s m)) (number_fits is_narrow v (tree s k)) p q)

pub bump_at : (v : Valuation) (s : Stored) (t : TermId) (n : Node) (m k w : TermId) (a : Result Map EvalStop) (b c : Result ℤ EvalStop) (res : Result Map EvalStop) → n ≡ node.Bump m k w → shape s n ≡ tree s t → MapAt v s m a → NumberAt v s k b → NumberAt v s w c
    → ((m : Map) (k w : ℤ) (f g h : Bool) → Evaluates a m f → Evaluates b k g → Evaluates c w h → Evaluates res (bump m k w) (f && g && h && values_fit is_narrow (bump m k w))) → MapAt v s t res
unfolding shape tree map_fits
bump_at v s t n m k w a b c res is value p q r h =
    at_map v s t n (node.Bump m k w) res is value
    (h (mapped v (tree s m)) (num v (tree s k)) (num v (tree s w)) (map_fits is_narrow v (tree s m)) (number_fits is_narrow v (tree s k)) (number_fits is_narrow v (tree s w)) p q r)

-- a number where a map is wanted, or the empty map
abbrev IsNoMap : Node → Type 0
IsNoMap node.Nil = Unit {0}
IsNoMap (node.Lit k) = Unit {0}
IsNoMap (node.Add a b) = Unit {0}
IsNoMap (node.Sub a b) = Unit {0}
IsNoMap (node.Scale k a) = Unit {0}
IsNoMap (node.Get m k) = Unit {0}
IsNoMap (node.Has m k) = Unit {0}
IsNoMap (node.Size m) = Unit {0}
IsNoMap (node.Sum m) = Unit {0}
IsNoMap (node.Name x) = ⊥
IsNoMap (node.Put m k w) = ⊥
IsNoMap (node.Del m k) = ⊥
IsNoMap (node.Bump m k w) = ⊥

no_map : (v : Valuation) (s : Stored) (n : Node) (e : Map) → IsNoMap n → e ≡ nil → Evaluates (Ok e) (mapped v (shape s n)) (map_fits is_narrow v (shape s n))
unfolding shape tree map_fits
no_map v s node.Nil e h is = (is, refl)
no_map v s (node.Lit k) e h is = (is, refl)
no_map v s (node.Add a b) e h is = (is, refl)
no_map v s (node.Sub a b) e h is = (is, refl)
no_map v s (node.Scale k a) e h is = (is, refl)
no_map v s (node.Get m k) e h is = (is, refl)
no_map v s (node.Has m k) e h is = (is, refl)
no_map v s (node.Size m) e h is = (is, refl)
no_map v s (node.Sum m) e h is = (is, refl)
no_map v s (node.Name x) e h is = absurd h
no_map v s (node.Put m k w) e h is = absurd h
no_map v s (node.Del m k) e h is = absurd h
no_map v s (node.Bump m k w) e h is = absurd h

pub empty_at : (v : Valuation) (s : Stored) (t : TermId) (n : Node) (e : Map) → shape s n ≡ tree s t → e ≡ nil
    → (n ≡ node.Nil) ⊎ (((k : ℤ) × (n ≡ node.Lit k)) ⊎ (((a : TermId) × (b : TermId) × (n ≡ node.Add a b)) ⊎ (((a : TermId) × (b : TermId) × (n ≡ node.Sub a b)) ⊎ (((k : ℤ) × (a : TermId) × (n ≡ node.Scale k a)) ⊎ (((m : TermId) × (k : TermId) × (n ≡ node.Get m k)) ⊎ (((m : TermId) × (k : TermId) × (n ≡ node.Has m k)) ⊎ (((m : TermId) × (n ≡ node.Size m)) ⊎ ((m : TermId) × (n ≡ node.Sum m)))))))))
    → MapAt v s t (Ok e)
empty_at v s t n e value is h =
    subst (λ x. Evaluates (Ok e) (mapped v x) (map_fits is_narrow v x)) value (no_map v s n e (none n h) is) where
      none : (n : Node)
          → (n ≡ node.Nil) ⊎ (((k : ℤ) × (n ≡ node.Lit k)) ⊎ (((a : TermId) × (b : TermId) × (n ≡ node.Add a b)) ⊎ (((a : TermId) × (b : TermId) × (n ≡ node.Sub a b)) ⊎ (((k : ℤ) × (a : TermId) × (n ≡ node.Scale k a)) ⊎ (((m : TermId) × (k : TermId) × (n ≡ node.Get m k)) ⊎ (((m : TermId) × (k : TermId) × (n ≡ node.Has m k)) ⊎ (((m : TermId) × (n ≡ node.Size m)) ⊎ ((m : TermId) × (n ≡ node.Sum m)))))))))
          → IsNoMap n
      none n (inl e) = subst IsNoMap (sym e) tt
      none n (inr (inl e)) = subst IsNoMap (sym e.1) tt
      none n (inr (inr (inl e))) = subst IsNoMap (sym e.2) tt
      none n (inr (inr (inr (inl e)))) = subst IsNoMap (sym e.2) tt
      none n (inr (inr (inr (inr (inl e))))) = subst IsNoMap (sym e.2) tt
      none n (inr (inr (inr (inr (inr (inl e)))))) = subst IsNoMap (sym e.2) tt
      none n (inr (inr (inr (inr (inr (inr (inl e))))))) = subst IsNoMap (sym e.2) tt
      none n (inr (inr (inr (inr (inr (inr (inr (inl e)))))))) = subst IsNoMap (sym e.1) tt
      none n (inr (inr (inr (inr (inr (inr (inr (inr e)))))))) = subst IsNoMap (sym e.1) tt

-- ---- questions

pub named_answer : (v : Valuation) (s : Stored) (t : TermId) (n : Node) (x : Sym) (q : Question) (m : Map) (res : Result ℤ EvalStop) → n ≡ node.Name x → shape s n ≡ tree s t → m ≡ v.mapping x.0 → Evaluates res (answer q m) (is_narrow (answer q m)) → values_fit is_narrow m ≡ true → AnswerAt v s t q res
unfolding shape tree map_fits
named_answer v s t n x q m res is value e h narrow =
    subst (λ y. Evaluates res (answer q (mapped v y)) (map_fits is_narrow v y && is_narrow (answer q (mapped v y)))) (ap (shape s) (sym is) ∙ value)
    (asked_of res q m (v.mapping x.0) (values_fit is_narrow (v.mapping x.0)) e (ap (values_fit is_narrow) (sym e) ∙ narrow) h)

pub built_answer : (v : Valuation) (s : Stored) (t : TermId) (q : Question) (m : Map) (res : Result ℤ EvalStop) → MapAt v s t (Ok m) → Evaluates res (answer q m) (is_narrow (answer q m)) → AnswerAt v s t q res
built_answer v s t q m res h e = asked_of res q m (mapped v (tree s t)) (map_fits is_narrow v (tree s t)) h.0 h.1 e

pub stopped_answer : (v : Valuation) (s : Stored) (t : TermId) (q : Question) (e : EvalStop) → MapAt v s t (Err e) → AnswerAt v s t q (Err e)
stopped_answer v s t q e h = stop e _ _ (map_fits is_narrow v (tree s t)) _ (λ w. left_false _ _ w) h
