-- The exchange of a plain operation does not look at the whole state.
use Rattle.std.proofs.Common.{◌≡◌, ℕ, ℤ, Bool, true, false, List, [], ◌∷◌, ◌++◌, Option, Some, None, Ok, Err, refl, sym, ap, subst, ◌∙◌, if◌then◌else◌, nat_eq}
use Rattle.std.proofs.lemmas.Bool.{eq-eqb}
use Rattle.sync_base.specs.Outcome.{◌>>=◌}
use Rattle.sync_terms.specs.Maps as maps
use Rattle.sync_terms.specs.Values.{Valuation, with_value}
use Rattle.sync_machine.specs.declared.fields.Field.{Field}
use Rattle.sync_base.specs.declared.strategies.Strategy.{Strategy}
use Rattle.sync_base.specs.declared.strategies.Strategy.TheVariants.{Variable, Constant, NotTokenized, Option as OptionField, Map, Set, Multiset, Count, PersistentOption, PersistentMap, PersistentSet, PersistentCount, StorageMap}
use Rattle.sync_machine.specs.Machines.{PatternTree, Bind, Term, PlaceTree, ActTree, StepTree}
use Rattle.sync_machine.specs.Machines as acts
use Rattle.sync_machine.specs.Statements.{binds, field_of}
use Rattle.sync_machine.specs.States.{Value, sort_of, strategy_at}
use Rattle.sync_machine.specs.Naming.{bound_by}
use Rattle.sync_rules.specs.Locality.{place_names_only}
use Rattle.sync_rules.specs.Shapes.{fits}
use Rattle.sync_join.specs.declared.tokens.Token.{Token}
use Rattle.sync_join.specs.Shards.{perm}
use Rattle.sync_join.specs.Join.{record_at, number_of}
use Rattle.sync_exchange.specs.declared.hands.XStop.{XStop}
use Rattle.sync_exchange.specs.declared.hands.XStop.TheVariants.{Missing, Differs, RequireFalse, StoreEmpty, Width}
use Rattle.sync_exchange.specs.Exchange.{Exchanging, Answer, outcome, held_as, next_name, unless, named, is_at_place, stored_at, withdrawn, permission, token_of, token_name, after_reading, after_taking, after_seeing, after_giving, binding, recording, storing, revaluing, key_at, amount_at, place_fits, is_asked, asked_token, asked_object, raised, started, updated, new_value, does}
use Rattle.sync_exchange.proofs.Terms.{Same, truth-same, value-same}
use Rattle.sync_exchange.proofs.Fitting.{two, form_fits-same, place_fits-same, is_asked-same, key_at-same, term_fits-same}
use Rattle.sync_exchange.proofs.Strategies.{some_is}
use Rattle.sync_exchange.proofs.Passing.{either}
use Rattle.sync_exchange.proofs.Lawful.{reads_only, IsLawful, place-amount}
use Rattle.sync_exchange.proofs.OneStrategy.{nothing-bound}
use Rattle.sync_exchange.proofs.Going.{IsSameAt, started-names, updated-names}

-- the same exchange on its way, with other values for symbols
abbrev pub renamed : Valuation → Exchanging → Exchanging
renamed w x = record x { names = w }

-- both stop in the same way, or leave the same up to what symbols stand for
abbrev pub Alike : (Exchanging → Valuation → Type 0) → Answer → Answer → Type 0
Alike P (Ok y) (Ok z) = (w : Valuation) × (z ≡ renamed w y) × P y w
Alike P (Err a) (Err b) = a ≡ b
Alike P (Ok y) (Err b) = ⊥
Alike P (Err a) (Ok z) = ⊥

pub alike-bind : (P Q : Exchanging → Valuation → Type 0) (r s : Answer) (g : Exchanging → Answer) → Alike P r s → ((y : Exchanging) (w : Valuation) → P y w → Alike Q (g y) (g (renamed w y))) → Alike Q (r >>= g) (s >>= g)
alike-bind P Q (Ok y) (Ok z) g h next = subst (λ u. Alike Q (g y) (g u)) (sym h.1) (next y h.0 h.2)
alike-bind P Q (Err a) (Err b) g h next = h
alike-bind P Q (Ok y) (Err b) g h next = absurd h
alike-bind P Q (Err a) (Ok z) g h next = absurd h

pub alike-unless : (P : Exchanging → Valuation → Type 0) (stop : XStop) (b c : Bool) (r s : Answer) → b ≡ c → Alike P r s → Alike P (unless stop b r) (unless stop c s)
alike-unless P stop true true r s e h = h
alike-unless P stop false false r s e h = refl
alike-unless P stop true false r s e h = absurd (cc)
alike-unless P stop false true r s e h = absurd (cc)

alike-same : (P : Exchanging → Valuation → Type 0) (r s u v : Answer) → r ≡ u → s ≡ v → Alike P u v → Alike P r s
alike-same P r s u v p q h = subst (λ k. Alike P k s) (sym p) (subst (λ k. Alike P u k) (sym q) h)

pub alike-outcome : (P : Exchanging → Valuation → Type 0) (r s : Answer) → Alike P r s → outcome r ≡ outcome s
alike-outcome P (Ok y) (Ok z) h = ap (λ (u : Exchanging). outcome (Ok u)) (sym h.1)
alike-outcome P (Err a) (Err b) h = ap Err h
alike-outcome P (Ok y) (Err b) h = absurd h
alike-outcome P (Err a) (Ok z) h = absurd h

-- ---- tokens and objects that are asked for

named-none : (x : Exchanging) → held_as (next_name x.tokens) x.hand ≡ None → named x ≡ Err (Missing x.slot)
named-none x e = rw e refl

named-some : (x : Exchanging) (t : Token) → held_as (next_name x.tokens) x.hand ≡ Some t → named x ≡ Ok t
named-some x t e = rw e refl

pub named-alike : (P : Exchanging → Valuation → Type 0) (x : Exchanging) (w : Valuation) (g h : Token → Answer) → ((t : Token) → Alike P (g t) (h t)) → Alike P (named x >>= g) (named (renamed w x) >>= h)
named-alike P x w g h next =
    either (held_as (next_name x.tokens) x.hand) (Alike P (named x >>= g) (named (renamed w x) >>= h))
    (λ none. alike-same P _ _ (Err (Missing x.slot)) (Err (Missing x.slot)) (ap (λ r. r >>= g) (named-none x none)) (ap (λ r. r >>= h) (named-none (renamed w x) none)) refl)
    (λ t some. alike-same P _ _ (g t) (h t) (ap (λ r. r >>= g) (named-some x t some)) (ap (λ r. r >>= h) (named-some (renamed w x) t some)) (next t))

object-none : (fit : ℤ → Bool) (f : ℕ) (p : PlaceTree) (x : Exchanging) (next : ℤ → Exchanging) → stored_at f (key_at p x) x.kept.stored ≡ None → asked_object fit f p x next ≡ unless Width (place_fits fit p x) (Err (StoreEmpty x.slot))
object-none fit f p x next e = rw e refl

object-some : (fit : ℤ → Bool) (f : ℕ) (p : PlaceTree) (x : Exchanging) (next : ℤ → Exchanging) (n : ℤ) → stored_at f (key_at p x) x.kept.stored ≡ Some n
    → asked_object fit f p x next ≡ unless Width (place_fits fit p x) (unless (Differs x.slot) (is_asked p n x) (Ok (next n)))
object-some fit f p x next n e = rw e refl

module _ (fit : ℤ → Bool) (q : ℕ → Bool) (x : Exchanging) (w : Valuation) (same : Same q x.names w) where
  pub token-alike : (P : Exchanging → Valuation → Type 0) (f : ℕ) (p : PlaceTree) (g h : Token → Exchanging) → place_names_only q p ≡ true → ((t : Token) → Alike P (Ok (g t)) (Ok (h t)))
      → Alike P (asked_token fit f p x g) (asked_token fit f p (renamed w x) h)
  token-alike P f p g h reads next =
      named-alike P x w _ _ (λ t.
      alike-unless P Width _ _ _ _ (place_fits-same fit q x (renamed w x) same p reads)
      (alike-unless P (Differs x.slot) _ _ _ _ (two _ _ _ _ (ap (λ k. is_at_place f k t) (key_at-same fit q x (renamed w x) same p reads)) (is_asked-same fit q x (renamed w x) same p t.value reads)) (next t)))

  pub object-alike : (P : Exchanging → Valuation → Type 0) (f : ℕ) (p : PlaceTree) (g h : ℤ → Exchanging) → place_names_only q p ≡ true → ((n : ℤ) → Alike P (Ok (g n)) (Ok (h n)))
      → Alike P (asked_object fit f p x g) (asked_object fit f p (renamed w x) h)
  object-alike P f p g h reads next =
      let key = key_at-same fit q x (renamed w x) same p reads in
      let fitting = place_fits-same fit q x (renamed w x) same p reads in
      either (stored_at f (key_at p x) x.kept.stored) (Alike P (asked_object fit f p x g) (asked_object fit f p (renamed w x) h))
      (λ none. alike-same P _ _ _ _ (object-none fit f p x g none) (object-none fit f p (renamed w x) h (ap (λ k. stored_at f k x.kept.stored) (sym key) ∙ none))
      (alike-unless P Width _ _ (Err (StoreEmpty x.slot)) (Err (StoreEmpty x.slot)) fitting refl))
      (λ n some. alike-same P _ _ _ _ (object-some fit f p x g n some) (object-some fit f p (renamed w x) h n (ap (λ k. stored_at f k x.kept.stored) (sym key) ∙ some))
      (alike-unless P Width _ _ _ _ fitting (alike-unless P (Differs x.slot) _ _ _ _ (is_asked-same fit q x (renamed w x) same p n reads) (next n))))

-- ---- statements

-- what was the same stays so, and the name that is bound is the same
abbrev pub Keeps : Exchanging → Valuation → ActTree → Exchanging → Valuation → Type 0
Keeps x w a y u = ((z : ℕ) → IsSameAt z x.names w → IsSameAt z y.names u) × ((z : ℕ) → bound_by a ≡ Some z → IsSameAt z y.names u)

pub with-both : (y z : ℕ) (n : ℤ) (v w : Valuation) → IsSameAt z v w → IsSameAt z (with_value y n maps.nil v) (with_value y n maps.nil w)
with-both y z n v w h = record { number = ap (λ k. if nat_eq z y then n else k) h.number; mapping = ap (λ k. if nat_eq z y then maps.nil else k) h.mapping }

pub with-own : (y z : ℕ) (n : ℤ) (v w : Valuation) → y ≡ z → IsSameAt z (with_value y n maps.nil v) (with_value y n maps.nil w)
with-own y z n v w same = let e : nat_eq z y ≡ true = eq-eqb z y (sym same) in record { number = rw e refl; mapping = rw e refl }

binding-alike : (o : Option ℕ) (n : ℤ) (x : Exchanging) (w : Valuation) → Alike (λ y u. ((z : ℕ) → IsSameAt z x.names w → IsSameAt z y.names u) × ((z : ℕ) → o ≡ Some z → IsSameAt z y.names u)) (Ok (binding o n x)) (Ok (binding o n (renamed w x)))
binding-alike None n x w = (w, refl, ((λ z h. h), (λ z e. absurd (cc))))
binding-alike (Some y) n x w = (with_value y n maps.nil w, refl, ((λ z h. with-both y z n x.names w h), (λ z e. with-own y z n x.names w (some_is y z e))))

revaluing-renamed : (f : ℕ) (n : ℤ) (w : Valuation) (x : Exchanging) → revaluing f n (renamed w x) ≡ renamed w (revaluing f n x)
revaluing-renamed f n w x = either (token_name f x.variables) (revaluing f n (renamed w x) ≡ renamed w (revaluing f n x)) (λ none. rw none refl) (λ name some. rw some refl)

started-renamed : (s : Strategy) (f : ℕ) (u : Value) (w : Valuation) (x : Exchanging) → started s f u (renamed w x) ≡ renamed w (started s f u x)
started-renamed Variable f u w x = revaluing-renamed f (number_of u) w x
started-renamed Constant f u w x = refl
started-renamed NotTokenized f u w x = refl
started-renamed OptionField f u w x = refl
started-renamed Map f u w x = refl
started-renamed Set f u w x = refl
started-renamed Multiset f u w x = refl
started-renamed Count f u w x = refl
started-renamed PersistentOption f u w x = refl
started-renamed PersistentMap f u w x = refl
started-renamed PersistentSet f u w x = refl
started-renamed PersistentCount f u w x = refl
started-renamed StorageMap f u w x = refl

updated-renamed : (s : Strategy) (f : ℕ) (u : Value) (w : Valuation) (x : Exchanging) → updated s f u (renamed w x) ≡ renamed w (updated s f u x)
updated-renamed Variable f u w x = revaluing-renamed f (number_of u) w x
updated-renamed Constant f u w x = refl
updated-renamed NotTokenized f u w x = refl
updated-renamed OptionField f u w x = refl
updated-renamed Map f u w x = refl
updated-renamed Set f u w x = refl
updated-renamed Multiset f u w x = refl
updated-renamed Count f u w x = refl
updated-renamed PersistentOption f u w x = refl
updated-renamed PersistentMap f u w x = refl
updated-renamed PersistentSet f u w x = refl
updated-renamed PersistentCount f u w x = refl
updated-renamed StorageMap f u w x = refl

no-name : (o : Option ℕ) → o ≡ None → (n : ℕ) → o ≡ Some n → ⊥
no-name o e n h = let k : None ≡ Some n = sym e ∙ h in cc

same-names : (z : ℕ) (v u w : Valuation) → v ≡ u → IsSameAt z v w → IsSameAt z u w
same-names z v u w e h = subst (λ k. IsSameAt z k w) e h

module _ (fit : ℤ → Bool) (fs : List Field) (q : ℕ → Bool) (x : Exchanging) (w : Valuation) (same : Same q x.names w) where
  -- an answer without a new name
  plain-answer : (a : ActTree) (y z : Exchanging) → ((n : ℕ) → bound_by a ≡ Some n → ⊥) → x.names ≡ y.names → z ≡ renamed w y → Alike (Keeps x w a) (Ok y) (Ok z)
  plain-answer a y z none names is = (w, is, ((λ n h. same-names n x.names y.names w names h), (λ n e. absurd (none n e))))

  pub does-alike : (line : ℕ) (a : ActTree) → IsLawful fs q a → Alike (Keeps x w a) (does fit fs (record { act = a; line = line }) x) (does fit fs (record { act = a; line = line }) (renamed w x))
  unfolding does bound_by reads_only fits field_of
  does-alike line (acts.Require form) law =
      alike-unless (Keeps x w (acts.Require form)) Width _ _ _ _ (form_fits-same fit q x.names w same form law.reads)
      (alike-unless (Keeps x w (acts.Require form)) (RequireFalse line) _ _ _ _ (truth-same q x.names w same form law.reads) (plain-answer (acts.Require form) x (renamed w x) (λ n e. absurd (cc)) refl refl))
  does-alike line (acts.Assert form) law = plain-answer (acts.Assert form) x (renamed w x) (λ n e. absurd (cc)) refl refl
  does-alike line (acts.HaveVariable f) law = plain-answer (acts.HaveVariable f) x (renamed w x) (λ n e. absurd (cc)) refl refl
  does-alike line (acts.Init f t) law =
      alike-unless (Keeps x w (acts.Init f t)) Width _ _ _ _ (term_fits-same fit q x (renamed w x) same (sort_of (strategy_at fs f)) t law.reads)
      (plain-answer (acts.Init f t) _ _ (λ n e. absurd (cc)) (started-names (strategy_at fs f) f (new_value fs f t x) x)
      (ap (λ u. started (strategy_at fs f) f u (renamed w x)) (sym (value-same q x.names w same (sort_of (strategy_at fs f)) t law.reads)) ∙ started-renamed (strategy_at fs f) f (new_value fs f t x) w x))
  does-alike line (acts.Update f t) law =
      alike-unless (Keeps x w (acts.Update f t)) Width _ _ _ _ (term_fits-same fit q x (renamed w x) same (sort_of (strategy_at fs f)) t law.reads)
      (plain-answer (acts.Update f t) _ _ (λ n e. absurd (cc)) (updated-names (strategy_at fs f) f (new_value fs f t x) x)
      (ap (λ u. updated (strategy_at fs f) f u (renamed w x)) (sym (value-same q x.names w same (sort_of (strategy_at fs f)) t law.reads)) ∙ updated-renamed (strategy_at fs f) f (new_value fs f t x) w x))
  does-alike line (acts.Remove f p) law = token-alike fit q x w same (Keeps x w (acts.Remove f p)) f p _ _ law.reads (λ t. binding-alike (binds p) t.value (after_taking x) w)
  does-alike line (acts.Have f p) law = token-alike fit q x w same (Keeps x w (acts.Have f p)) f p _ _ law.reads (λ t. binding-alike (binds p) t.value (after_reading x) w)
  does-alike line (acts.Add f p) law =
      let none = nothing-bound (strategy_at fs f) p law.fit in
      let key = key_at-same fit q x (renamed w x) same p law.reads in
      let amount : amount_at p x ≡ amount_at p (renamed w x) = place-amount q w p x same law.reads none in
      let r = record_at x.kept f in
      let s = strategy_at fs f in
      alike-unless (Keeps x w (acts.Add f p)) Width _ _ _ _ (place_fits-same fit q x (renamed w x) same p law.reads)
      (plain-answer (acts.Add f p) _ _ (no-name (binds p) none) refl
      (ap (λ k. recording f (raised s r k (amount_at p (renamed w x))) (after_giving (token_of f k (amount_at p (renamed w x))) (renamed w x))) (sym key)
      ∙ ap (λ n. recording f (raised s r (key_at p x) n) (after_giving (token_of f (key_at p x) n) (renamed w x))) (sym amount)))
  does-alike line (acts.Deposit f p) law =
      let none = nothing-bound (strategy_at fs f) p law.fit in
      let key = key_at-same fit q x (renamed w x) same p law.reads in
      let amount : amount_at p x ≡ amount_at p (renamed w x) = place-amount q w p x same law.reads none in
      token-alike fit q x w same (Keeps x w (acts.Deposit f p)) perm p _ _ law.reads (λ t. plain-answer (acts.Deposit f p) _ _ (no-name (binds p) none) refl
      (ap (λ k. storing (x.kept.stored ++ token_of f k (amount_at p (renamed w x)) ∷ []) (after_taking (renamed w x))) (sym key)
      ∙ ap (λ n. storing (x.kept.stored ++ token_of f (key_at p x) n ∷ []) (after_taking (renamed w x))) (sym amount)))
  does-alike line (acts.Withdraw f p) law =
      let key = key_at-same fit q x (renamed w x) same p law.reads in
      object-alike fit q x w same (Keeps x w (acts.Withdraw f p)) f p _ _ law.reads (λ n.
      subst (λ k. Alike (Keeps x w (acts.Withdraw f p)) (Ok (binding (binds p) n (storing (withdrawn f (key_at p x) x.kept.stored) (after_giving (permission (key_at p x) n) x))))
      (Ok (binding (binds p) n (storing (withdrawn f k x.kept.stored) (after_giving (permission k n) (renamed w x)))))) key
      (binding-alike (binds p) n (storing (withdrawn f (key_at p x) x.kept.stored) (after_giving (permission (key_at p x) n) x)) w))
  does-alike line (acts.Guard f p) law = object-alike fit q x w same (Keeps x w (acts.Guard f p)) f p _ _ law.reads (λ n. binding-alike (binds p) n (after_seeing x) w)
