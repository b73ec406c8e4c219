-- A bound on numbers makes no difference where it is not left.
use Rattle.std.proofs.Common.{◌≡◌, ℕ, ℤ, Bool, true, false, ◌&&◌, List, [], ◌∷◌, ◌⊎◌, inl, inr, Option, Some, None, Result, Ok, Err, refl, sym, ap, ◌∙◌}
use Rattle.std.specs.List.{list_all}
use Rattle.std.specs.FinMap as finmap
use Rattle.sync_base.specs.Outcome.{◌>>=◌}
use Rattle.sync_terms.specs.Trees.{Tree, Lit, Name, Add, Sub, Scale, Get, Has, Size, Sum, Nil, Put, Del, Bump, Formula, Le, Lt, Eq, Not, And, Or, Imp}
use Rattle.sync_terms.specs.Values.{Valuation, truth, mapped}
use Rattle.sync_terms.specs.Maps as maps
use Rattle.sync_machine.specs.declared.fields.Field.{Field}
use Rattle.sync_machine.specs.Machines.{PatternTree, Bind, Term, PlaceTree, ActTree, StepTree, OperationTree}
use Rattle.sync_machine.specs.Machines as acts
use Rattle.sync_machine.specs.States.{Sort, Numbers, Maps, sort_of, strategy_at}
use Rattle.sync_machine.specs.Statements.{key_of, one}
use Rattle.sync_exchange_values.specs.Fitting.{values_fit, number_fits, map_fits, form_fits}
use Rattle.sync_exchange.specs.declared.hands.XStop.{XStop}
use Rattle.sync_exchange.specs.declared.hands.XStop.TheVariants.{Width, RequireFalse}
use Rattle.sync_exchange.specs.Exchange.{Exchanging, Answer, unless, outcome, beginning, place_fits, term_fits, use_variables, variable_slots, does, does_all}
use Rattle.sync_exchange.specs.Laws.{BoundAlone}
use Rattle.sync_exchange.proofs.Asking.{both-true}

abbrev pub unbounded : ℤ → Bool
unbounded n = true

-- ---- with no bound everything fits

all-free : (ns : List ℤ) → list_all unbounded ns ≡ true
all-free [] = refl
all-free (n ∷ ns) = all-free ns

values-free : (m : maps.Map) → values_fit unbounded m ≡ true
values-free m = all-free (finmap.values m)

three : (a b : Bool) → a ≡ true → b ≡ true → ((a && b) && true) ≡ true
three a b p q = both-true (a && b) true (both-true a b p q) refl

both-fit : (v : Valuation) (t : Tree) → (number_fits unbounded v t ≡ true) × (map_fits unbounded v t ≡ true)
unfolding number_fits map_fits
both-fit v (Lit n) = (refl, refl)
both-fit v (Name x) = (refl, values-free (v.mapping x))
both-fit v (Add a b) = (three (number_fits unbounded v a) (number_fits unbounded v b) (both-fit v a).0 (both-fit v b).0, refl)
both-fit v (Sub a b) = (three (number_fits unbounded v a) (number_fits unbounded v b) (both-fit v a).0 (both-fit v b).0, refl)
both-fit v (Scale n a) = (both-true (number_fits unbounded v a) true (both-fit v a).0 refl, refl)
both-fit v (Get m k) = (three (map_fits unbounded v m) (number_fits unbounded v k) (both-fit v m).1 (both-fit v k).0, refl)
both-fit v (Has m k) = (three (map_fits unbounded v m) (number_fits unbounded v k) (both-fit v m).1 (both-fit v k).0, refl)
both-fit v (Size m) = (both-true (map_fits unbounded v m) true (both-fit v m).1 refl, refl)
both-fit v (Sum m) = (both-true (map_fits unbounded v m) true (both-fit v m).1 refl, refl)
both-fit v Nil = (refl, refl)
both-fit v (Put m k w) = (refl, both-true (map_fits unbounded v m && number_fits unbounded v k) (number_fits unbounded v w) (both-true (map_fits unbounded v m) (number_fits unbounded v k) (both-fit v m).1 (both-fit v k).0) (both-fit v w).0)
both-fit v (Del m k) = (refl, both-true (map_fits unbounded v m) (number_fits unbounded v k) (both-fit v m).1 (both-fit v k).0)
both-fit v (Bump m k n) = (
  refl,
  both-true ((map_fits unbounded v m && number_fits unbounded v k) && number_fits unbounded v n) (values_fit unbounded (mapped v (Bump m k n)))
      (both-true (map_fits unbounded v m && number_fits unbounded v k) (number_fits unbounded v n) (both-true (map_fits unbounded v m) (number_fits unbounded v k) (both-fit v m).1 (both-fit v k).0) (both-fit v n).0)
      (values-free (mapped v (Bump m k n))),
)

pub form-fit : (v : Valuation) (f : Formula) → form_fits unbounded v f ≡ true
unfolding form_fits
form-fit v (Le a b) = both-true (number_fits unbounded v a) (number_fits unbounded v b) (both-fit v a).0 (both-fit v b).0
form-fit v (Lt a b) = both-true (number_fits unbounded v a) (number_fits unbounded v b) (both-fit v a).0 (both-fit v b).0
form-fit v (Eq a b) = both-true (number_fits unbounded v a) (number_fits unbounded v b) (both-fit v a).0 (both-fit v b).0
form-fit v (Not f) = form-fit v f
form-fit v (And f g) = both-true (form_fits unbounded v f) (form_fits unbounded v g) (form-fit v f) (form-fit v g)
form-fit v (Or f g) = both-true (form_fits unbounded v f) (form_fits unbounded v g) (form-fit v f) (form-fit v g)
form-fit v (Imp f g) = both-true (form_fits unbounded v f) (form_fits unbounded v g) (form-fit v f) (form-fit v g)

amount-fit : (k : Option Tree) (w : Option PatternTree) (x : Exchanging) → place_fits unbounded (record { key = k; value = w }) x ≡ true
amount-fit k None x = both-true (number_fits unbounded x.names (key_of (record { key = k; value = None }))) (number_fits unbounded x.names one) (both-fit x.names (key_of (record { key = k; value = None }))).0 (both-fit x.names one).0
amount-fit k (Some (Bind y)) x = both-true (number_fits unbounded x.names (key_of (record { key = k; value = Some (Bind y) }))) true (both-fit x.names (key_of (record { key = k; value = Some (Bind y) }))).0 refl
amount-fit k (Some (Term t)) x = both-true (number_fits unbounded x.names (key_of (record { key = k; value = Some (Term t) }))) (number_fits unbounded x.names t) (both-fit x.names (key_of (record { key = k; value = Some (Term t) }))).0 (both-fit x.names t).0

pub place-fit : (p : PlaceTree) (x : Exchanging) → place_fits unbounded p x ≡ true
place-fit p x = amount-fit p.key p.value x

pub term-fit : (s : Sort) (t : Tree) (x : Exchanging) → term_fits unbounded s t x ≡ true
term-fit Numbers t x = (both-fit x.names t).0
term-fit Maps t x = (both-fit x.names t).1

-- ---- the bound is left, or it makes no difference

abbrev SameButWide : {A : Type 0} → Result A XStop → Result A XStop → Type 0
SameButWide r w = (r ≡ Err Width) ⊎ (r ≡ w)

same-unless : (b c : Bool) (a : Answer) → c ≡ true → SameButWide (unless Width b a) (unless Width c a)
same-unless true c a e = inr (sym (ap (λ d. unless Width d a) e))
same-unless false c a e = inl refl

same-bind : {A B : Type 0} (r : Result A XStop) (f g : A → Result B XStop) → ((a : A) → SameButWide (f a) (g a)) → SameButWide (r >>= f) (r >>= g)
same-bind (Ok a) f g h = h a
same-bind (Err e) f g h = inr refl

same-steps : {A B : Type 0} (r w : Result A XStop) (f g : A → Result B XStop) → SameButWide r w → ((a : A) → SameButWide (f a) (g a)) → SameButWide (r >>= f) (w >>= g)
same-steps r w f g (inl e) h = inl (ap (λ q. q >>= f) e)
same-steps r w f g (inr e) h = onto (same-bind r f g h) where
  onto : SameButWide (r >>= f) (r >>= g) → SameButWide (r >>= f) (w >>= g)
  onto (inl k) = inl k
  onto (inr k) = inr (k ∙ ap (λ q. q >>= g) e)

does-same : (fits : ℤ → Bool) (fs : List Field) (a : ActTree) (line : ℕ) (x : Exchanging) → SameButWide (does fits fs (record { act = a; line = line }) x) (does unbounded fs (record { act = a; line = line }) x)
unfolding does
does-same fits fs (acts.Require form) line x = same-unless (form_fits fits x.names form) (form_fits unbounded x.names form) (unless (RequireFalse line) (truth x.names form) (Ok x)) (form-fit x.names form)
does-same fits fs (acts.Assert form) line x = inr refl
does-same fits fs (acts.HaveVariable f) line x = inr refl
does-same fits fs (acts.Init f t) line x = same-unless _ _ _ (term-fit (sort_of (strategy_at fs f)) t x)
does-same fits fs (acts.Update f t) line x = same-unless _ _ _ (term-fit (sort_of (strategy_at fs f)) t x)
does-same fits fs (acts.Remove f p) line x = same-bind _ _ _ (λ t. same-unless (place_fits fits p x) (place_fits unbounded p x) _ (place-fit p x))
does-same fits fs (acts.Have f p) line x = same-bind _ _ _ (λ t. same-unless (place_fits fits p x) (place_fits unbounded p x) _ (place-fit p x))
does-same fits fs (acts.Add f p) line x = same-unless (place_fits fits p x) (place_fits unbounded p x) _ (place-fit p x)
does-same fits fs (acts.Deposit f p) line x = same-bind _ _ _ (λ t. same-unless (place_fits fits p x) (place_fits unbounded p x) _ (place-fit p x))
does-same fits fs (acts.Withdraw f p) line x = same-unless (place_fits fits p x) (place_fits unbounded p x) _ (place-fit p x)
does-same fits fs (acts.Guard f p) line x = same-unless (place_fits fits p x) (place_fits unbounded p x) _ (place-fit p x)

all-same : (fits : ℤ → Bool) (fs : List Field) (ss : List StepTree) (x : Exchanging) → SameButWide (does_all fits fs ss x) (does_all unbounded fs ss x)
all-same fits fs [] x = inr refl
all-same fits fs (s ∷ ss) x = same-steps (does fits fs s x) (does unbounded fs s x) (does_all fits fs ss) (does_all unbounded fs ss) (does-same fits fs s.act s.line x) (all-same fits fs ss)

ended : (r w : Answer) → SameButWide r w → (outcome r ≡ Err Width → ⊥) → outcome r ≡ outcome w
ended r w (inl e) h = absurd (h (ap outcome e))
ended r w (inr e) h = ap outcome e

pub bound-alone : BoundAlone
bound-alone fits fs o args tokens given whole hand kept h =
    let start = use_variables (variable_slots fs o) (beginning fs o args tokens given whole hand kept) in
    ended (start >>= does_all fits fs o.steps) (start >>= does_all unbounded fs o.steps) (same-bind start (does_all fits fs o.steps) (does_all unbounded fs o.steps) (all-same fits fs o.steps)) h
