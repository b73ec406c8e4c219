-- An exchange of an init by a holder of permissions is a declared start.
use Rattle.std.proofs.Common.{◌≡◌, ℕ, zero, suc, ◌+◌, ◌<◌, ◌≤◌, ℤ, pos, ◌≤ℤ◌, Bool, true, false, not, ◌||◌, List, [], ◌∷◌, ◌++◌, length, get_or, Option, Some, None, is_none, Ok, inl, inr, ◌⊎◌, refl, sym, ap, subst, ◌∙◌, arith, cond, nat_eq, nat_lt, slice_get}
use Rattle.std.specs.Prelude.{Contains}
use Rattle.std.specs.List.{AllByRecursion, range_with_len, list_all}
use Rattle.std.proofs.lemmas.Bool.{eqb-true, eq-eqb, le-ltb}
use Rattle.std.proofs.lemmas.List.{length-map}
use Rattle.std.proofs.lemmas.List.Folds.{list_any-append}
use Rattle.sync_base.specs.Outcome.{◌>>=◌}
use Rattle.sync_base.specs.declared.stops.Rule.TheVariants.{N4}
use Rattle.sync_terms.specs.Trees.{Tree, Nil}
use Rattle.sync_terms.specs.Values.{Valuation}
use Rattle.sync_machine.specs.declared.fields.Field.{Field}
use Rattle.sync_base.specs.declared.strategies.Strategy.{Strategy}
use Rattle.sync_base.specs.declared.strategies.Strategy.TheVariants.{Variable, Constant, NotTokenized, Option as OptionField, Map, Set, Multiset, Count, PersistentOption, PersistentMap, PersistentSet, PersistentCount, StorageMap}
use Rattle.sync_base.specs.declared.strategies.OpMode.TheVariants as mode
use Rattle.sync_machine.specs.Machines.{PlaceTree, PatternTree, Bind, Term, ActTree, StepTree, OperationTree, MachineTree}
use Rattle.sync_machine.specs.Machines as acts
use Rattle.sync_machine.specs.Statements.{field_of}
use Rattle.sync_machine.specs.States.{Value, Number, Mapped, Sort, Numbers, Maps, State, IsInit, AreGiven, Starts, sort_of, strategy_at, blank, first_values, last_values, values_in, AreMet, IsKeptSafe}
use Rattle.sync_machine.specs.Naming.{bound_names, is_in, is_started, start_fault, IsTextName}
use Rattle.sync_rules.specs.Order.{may_start}
use Rattle.sync_rules.specs.Locality.{names_only, key_names_only, pattern_names_only, place_names_only, is_local, is_variable, has_local_terms}
use Rattle.sync_join.specs.declared.tokens.Token.{Token}
use Rattle.sync_join.specs.Shards.{Kept, perm, IsToken, IsOf, AreRecords}
use Rattle.sync_join.specs.Join.{tokens_of, record_at, value_at, joined}
use Rattle.sync_join.proofs.States.{joined-state}
use Rattle.sync_join.proofs.Through.{append-nothing}
use Rattle.sync_exchange.specs.declared.hands.Held.{Held}
use Rattle.sync_exchange.specs.Exchange.{Exchanging, tokens_in, token_name, argument, beginning, variable_slots, use_variables, does_all}
use Rattle.sync_exchange.specs.Projection.{AreNames, ArePermissions, IsBlank, AreBlank, Begins, Initialises}
use Rattle.sync_exchange.proofs.Answering.{Answers, all-answered, used-bind-nothing}
use Rattle.sync_exchange.proofs.Terms.{only-more, form-only-more, and_left, and_right, and_both}
use Rattle.sync_exchange.proofs.OneStrategy.{perm-other}
use Rattle.sync_exchange.proofs.Passing.{bind-ok}
use Rattle.sync_exchange.proofs.Lawful.{reads_only}
use Rattle.sync_exchange.proofs.Standing.{bag_at, IsUnderWay, IsReady}
use Rattle.sync_exchange.proofs.Doing.{no-permission}
use Rattle.sync_exchange.proofs.Going.{IsSameAt, AreLawful, AreUsed, AreDone, total_gives, known-in, names-kept_all, going, Walk, walked}
use Rattle.sync_exchange.proofs.Rules.{broken-none, IsRegular, AreRuled, AreReading, regular, are-lawful}
use Rattle.sync_exchange.proofs.Whole.{values-list, params-apart, are-given}
use Rattle.sync_exchange.proofs.Trusting.{past-end}
use Rattle.sync_exchange.proofs.Owning.{names-once, names-enough}
use Rattle.sync_exchange.proofs.Beginning.{all-both, all-in, text-outside, variable-inside, some-name}
use Rattle.sync_exchange.proofs.Transitions.{outcome-ok, at-number}
use Rattle.sync_exchange.proofs.Starting.{doing-init}
use Rattle.sync_exchange.proofs.FirstValues.{is_started_in, starts_in, AreInside, AreWaiting, are-ordered, waiting-next}
use Rattle.sync_exchange.proofs.Opening.{blank_value, IsOpen, IsOpened, opening}

-- ---- what an init reads

-- a symbol that is no field's
abbrev pub is_outside : List Field → ℕ → Bool
is_outside fs z = not (nat_lt z (length fs))

none-is : {A : Type 0} (o : Option A) → is_none o ≡ true → o ≡ None
none-is None e = refl
none-is (Some x) e = absurd (cc)

local-outside : (fs : List Field) (z : ℕ) → is_local fs mode.Init z ≡ true → is_outside fs z ≡ true
local-outside fs z e = ap not (le-ltb z (length fs) (past-end fs z (none-is (slice_get fs z) e)))

module _ (fs : List Field) where
  tree-outside : (t : Tree) → names_only (is_local fs mode.Init) t ≡ true → names_only (is_outside fs) t ≡ true
  tree-outside t e = only-more (is_local fs mode.Init) (is_outside fs) t (λ z named h. local-outside fs z h) e

  key-outside : (o : Option Tree) → key_names_only (is_local fs mode.Init) o ≡ true → key_names_only (is_outside fs) o ≡ true
  key-outside None e = refl
  key-outside (Some t) e = tree-outside t e

  pattern-outside : (o : Option PatternTree) → pattern_names_only (is_local fs mode.Init) o ≡ true → pattern_names_only (is_outside fs) o ≡ true
  pattern-outside None e = refl
  pattern-outside (Some (Bind z)) e = refl
  pattern-outside (Some (Term t)) e = tree-outside t e

  place-outside : (p : PlaceTree) → place_names_only (is_local fs mode.Init) p ≡ true → place_names_only (is_outside fs) p ≡ true
  place-outside p e = and_both _ _ (key-outside p.key (and_left _ _ e)) (pattern-outside p.value (and_right (key_names_only (is_local fs mode.Init) p.key) _ e))

  act-outside : (a : ActTree) → may_start a ≡ true → has_local_terms fs mode.Init a ≡ true → reads_only (is_outside fs) a ≡ true
  unfolding may_start has_local_terms reads_only
  act-outside (acts.Init f t) start e = tree-outside t e
  act-outside (acts.Require form) start e = form-only-more (is_local fs mode.Init) (is_outside fs) form (λ z named h. local-outside fs z h) e
  act-outside (acts.Add f p) start e = place-outside p e
  act-outside (acts.Deposit f p) start e = place-outside p e
  act-outside (acts.Assert form) start e = absurd (cc)
  act-outside (acts.Update f t) start e = absurd (cc)
  act-outside (acts.HaveVariable f) start e = absurd (cc)
  act-outside (acts.Remove f p) start e = absurd (cc)
  act-outside (acts.Have f p) start e = absurd (cc)
  act-outside (acts.Withdraw f p) start e = absurd (cc)
  act-outside (acts.Guard f p) start e = absurd (cc)

  pub init-reading : (before ss : List StepTree) → AreRuled fs mode.Init before ss → AreReading (is_outside fs) ss
  init-reading before [] rules = tt
  init-reading before (s ∷ ss) rules = (act-outside s.act rules.0.stands rules.0.local, init-reading (before ++ s ∷ []) ss rules.1)

  pub all-start : (before ss : List StepTree) → AreRuled fs mode.Init before ss → AllByRecursion (λ (s : StepTree). may_start s.act ≡ true) ss
  all-start before [] rules = tt
  all-start before (s ∷ ss) rules = (rules.0.stands, all-start (before ++ s ∷ []) ss rules.1)

  pub all-inside : (test : ℕ → Bool) (params : List ℕ) (before ss : List StepTree) → AreLawful fs test params before ss → AreInside fs ss
  all-inside test params before [] laws = tt
  all-inside test params before (s ∷ ss) laws = (laws.0.inside, all-inside test params (before ++ s ∷ []) ss laws.2)

-- ---- each field gets its first value once

not-false : (b : Bool) → not b ≡ false → b ≡ true
not-false true e = refl
not-false false e = absurd (cc)

all-true : (p : ℕ → Bool) (ns : List ℕ) → list_all p ns ≡ true → AllByRecursion (λ n. p n ≡ true) ns
all-true p [] e = tt
all-true p (n ∷ ns) e = (and_left _ _ e, all-true p ns (and_right (p n) _ e))

pub starts-once : (fs : List Field) (ss : List StepTree) → start_fault fs mode.Init ss ≡ None → (f : ℕ) → f < length fs → starts_in f ss ≡ 1
unfolding is_started
starts-once fs ss e f lt =
    let all : is_started fs ss ≡ true = not-false (is_started fs ss) (broken-none (not (is_started fs ss)) N4 e) in
    eqb-true (starts_in f ss) 1 (at-number (λ n. nat_eq (starts_in n ss) 1 ≡ true) (length fs) f (all-true (λ n. nat_eq (starts_in n ss) 1) (range_with_len 0 (length fs)) all) lt)

-- ---- nothing is there before

no-tokens : (n f : ℕ) (ts : List Token) → n ≤ 32 → f < n → AllByRecursion (λ (t : Token). t.field ≡ perm) ts → tokens_of f ts ≡ []
no-tokens n f [] few lt h = refl
no-tokens n f (t ∷ ts) few lt h = ap (λ b. cond b (t ∷ tokens_of f ts) (tokens_of f ts)) (perm-other n t.field f few lt h.0) ∙ no-tokens n f ts few lt h.1

perms-tokens : (fs : List Field) (ts : List Token) → AllByRecursion (λ (t : Token). t.field ≡ perm) ts → AllByRecursion (IsToken fs) ts
perms-tokens fs [] h = tt
perms-tokens fs (t ∷ ts) h = (inl h.0, perms-tokens fs ts h.1)

perms-natural : (fs : List Field) (ts : List Token) → length fs ≤ 32 → AllByRecursion (λ (t : Token). t.field ≡ perm) ts → AllByRecursion (λ (t : Token). strategy_at fs t.field ≡ Count → pos 0 ≤ℤ t.value) ts
perms-natural fs [] few h = tt
perms-natural fs (t ∷ ts) few h = ((λ count. absurd (no-permission fs few (ap (strategy_at fs) (sym h.0) ∙ count))), perms-natural fs ts few h.1)

blank-sort : (s : Sort) (w : Value) → IsBlank s w → IsOf s w
blank-sort Numbers w e = subst (IsOf Numbers) (sym e) tt
blank-sort Maps w e = subst (IsOf Maps) (sym e) tt

blank-records : (fs : List Field) (rs : List Value) → AreBlank fs rs → AreRecords fs rs
blank-records [] [] h = tt
blank-records (f ∷ fs) (r ∷ rs) h = (blank-sort (sort_of f.strategy) r h.0, blank-records fs rs h.1)
blank-records [] (r ∷ rs) h = absurd h
blank-records (f ∷ fs) [] h = absurd h

blank-at : (fs : List Field) (rs : List Value) (f : ℕ) → AreBlank fs rs → f < length fs → IsBlank (sort_of (strategy_at fs f)) (get_or rs f (Number (pos 0)))
blank-at [] [] f h lt = absurd (omega arith)
blank-at (g ∷ fs) (r ∷ rs) zero h lt = h.0
blank-at (g ∷ fs) (r ∷ rs) (suc f) h lt = blank-at fs rs f h.1 (omega arith)
blank-at [] (r ∷ rs) f h lt = absurd h
blank-at (g ∷ fs) [] f h lt = absurd h

blank-joined : (s : Strategy) (v : Valuation) (r : Value) → is_variable s ≡ false → IsBlank (sort_of s) r → joined s [] r [] ≡ Some (blank_value v s)
unfolding sort_of
blank-joined Variable v r var h = absurd (cc)
blank-joined Constant v r var h = ap Some h
blank-joined NotTokenized v r var h = ap Some h
blank-joined OptionField v r var h = refl
blank-joined Map v r var h = refl
blank-joined Set v r var h = refl
blank-joined Multiset v r var h = refl
blank-joined Count v r var h = refl
blank-joined PersistentOption v r var h = ap Some h
blank-joined PersistentMap v r var h = ap Some h
blank-joined PersistentSet v r var h = ap Some h
blank-joined PersistentCount v r var h = ap Some h
blank-joined StorageMap v r var h = refl

first-blank : (fs : List Field) (f : ℕ) → f < length fs → get_or (first_values fs mode.Init) f Nil ≡ blank (sort_of (strategy_at fs f))
first-blank [] f lt = absurd (omega arith)
first-blank (g ∷ fs) zero lt = refl
first-blank (g ∷ fs) (suc f) lt = first-blank fs f (omega arith)

-- ---- the start

module _ (fs : List Field) (o : OperationTree) (args : List ℤ) (tokens given : List ℕ) (hand : List Held) (kept : Kept) (whole : State)
    (few : length fs ≤ 32) (names : AreNames fs o tokens given hand) (perms : ArePermissions (tokens_in hand)) (blanks : AreBlank fs kept.records) (empty : kept.stored ≡ []) where
  abbrev begun : Exchanging
  begun = beginning fs o args tokens given whole hand kept

  bag-perms : AllByRecursion (λ (t : Token). t.field ≡ perm) (bag_at [] begun)
  bag-perms = subst (AllByRecursion (λ (t : Token). t.field ≡ perm)) (sym (append-nothing (tokens_in (hand ++ [])) ∙ ap (λ hs. tokens_in hs) (append-nothing hand))) perms.permissions

  pub start-open : (v : Valuation) → IsOpen fs v begun.names 0 begun
  unfolding token_name
  start-open v = record {
    values = λ f lt c. from f lt c;
    free = λ f lt c. no-tokens (length fs) f (bag_at [] begun) few lt bag-perms;
    sound = record {
      shaped = record { tokens = perms-tokens fs (bag_at [] begun) bag-perms; records = blank-records fs kept.records blanks; stored = subst (AllByRecursion (λ (t : Token). strategy_at fs t.field ≡ StorageMap)) (sym empty) tt };
      natural = perms-natural fs (bag_at [] begun) few bag-perms;
    };
    once = names-once fs o tokens given hand names;
    named = λ g name e. absurd (cc);
    fields = λ g name e. absurd (cc);
    used = λ f lt var. absurd (omega arith);
    beyond = λ z e. record { number = refl; mapping = refl };
  } where
    from : (f : ℕ) → f < length fs → (is_variable (strategy_at fs f) ≡ false) ⊎ (f < 0) → value_at fs (bag_at [] begun) kept f ≡ Some (blank_value v (strategy_at fs f))
    from f lt (inl var) =
        ap (λ ts. joined (strategy_at fs f) ts (record_at kept f) (tokens_of f kept.stored)) (no-tokens (length fs) f (bag_at [] begun) few lt bag-perms)
        ∙ ap (λ st. joined (strategy_at fs f) [] (record_at kept f) (tokens_of f st)) empty
        ∙ blank-joined (strategy_at fs f) v (record_at kept f) var (blank-at fs kept.records f blanks lt)
    from f lt (inr l) = absurd (omega arith)

pub open-stands : (fs : List Field) (v : Valuation) (begun : Valuation) (y : Exchanging) → IsOpen fs v begun (length fs) y → IsUnderWay fs v [] y (first_values fs mode.Init)
open-stands fs v from_start y h = record {
  makes = record {
    values = λ f lt. h.values f lt (inr lt) ∙ ap (λ t. Some (Rattle.sync_machine.specs.States.value_in v (sort_of (strategy_at fs f)) t)) (sym (first-blank fs f lt));
    sound = h.sound;
    many = length-map fs (λ (f : Field). blank (sort_of f.strategy));
  };
  once = h.once;
  named = h.named;
  fields = h.fields;
}

-- ---- the whole

all-used : (fs : List Field) (vars : List (ℕ × ℕ)) (ss : List StepTree) → ((f : ℕ) → is_variable (strategy_at fs f) ≡ true → (name : ℕ) × (token_name f vars ≡ Some name)) → AreUsed fs vars ss
all-used fs vars [] h = tt
all-used fs vars (s ∷ ss) h = ((λ f changed var. h f var), all-used fs vars ss h)

init-inside : (fs : List Field) (v : Valuation) (q : ℕ → Bool) (x y : Exchanging) (cur : List Tree) (f : ℕ) (t : Tree) → IsReady fs v q x y cur (acts.Init f t) → f < length fs
unfolding field_of
init-inside fs v q x y cur f t r = r.lawful.inside f refl

started-first : (f : ℕ) (t : Tree) (line : ℕ) (ss : List StepTree) → is_started_in f (record { act = acts.Init f t; line = line } ∷ ss) ≡ true
started-first f t line ss = let e : nat_eq f f ≡ true = eq-eqb f f refl in rw e refl

module _ (fit : ℤ → Bool) (m : MachineTree) (o : OperationTree) (args : List ℤ) (tokens given : List ℕ) (hand : List Held) (kept : Kept) (whole : State)
    (init : IsInit o) (names : AreNames m.fields o tokens given hand) (rules : IsRegular m.fields o) (perms : ArePermissions (tokens_in hand)) (blanks : AreBlank m.fields kept.records) (empty : kept.stored ≡ [])
    (y0 y : Exchanging) (first : use_variables (variable_slots m.fields o) (beginning m.fields o args tokens given whole hand kept) ≡ Ok y0) (rest : does_all fit m.fields o.steps y0 ≡ Ok y) where
  abbrev start : Exchanging
  start = beginning m.fields o args tokens given whole hand kept

  ruled : AreRuled m.fields mode.Init [] o.steps
  ruled = subst (λ k. AreRuled m.fields k [] o.steps) init rules.rules

  once : (f : ℕ) → f < length m.fields → starts_in f o.steps ≡ 1
  once = starts-once m.fields o.steps (subst (λ k. start_fault m.fields k o.steps ≡ None) init rules.started)

  at-least : (f : ℕ) → f < length m.fields → 1 ≤ starts_in f o.steps
  at-least f lt = let e = once f lt in omega (arith, e)

  at-most : (f : ℕ) → f < length m.fields → starts_in f o.steps ≤ 1
  at-most f lt = let e = once f lt in omega (arith, e)

  laws : AreLawful m.fields (is_outside m.fields) o.params [] o.steps
  laws = are-lawful m.fields o.mode (is_outside m.fields) o.params [] o.steps rules.few rules.rules rules.statements rules.texts.bound (init-reading m.fields [] o.steps ruled)

  opened : IsOpened m.fields o.steps y.names start.names at-least (total_gives m.fields o.steps) y0
  opened =
      let enough = names-enough m.fields o tokens given hand names in
      opening m.fields o.steps y.names start.names at-least (total_gives m.fields o.steps) (length m.fields) 0 start y0 (omega arith) first (omega (arith, enough))
      (start-open m.fields o args tokens given hand kept whole rules.few names perms blanks empty y.names)

  waiting : AreWaiting m.fields [] o.steps y0 (first_values m.fields mode.Init)
  waiting = record {
    ordered = are-ordered m.fields [] o.steps ruled (all-inside m.fields (is_outside m.fields) o.params [] o.steps laws) at-most;
    starts = all-start m.fields [] o.steps ruled;
    untouched = λ f lt k. first-blank m.fields f lt;
    free = λ f lt k var. opened.all.free f lt (inl var);
  }

  used : AreUsed m.fields y0.variables o.steps
  used = all-used m.fields y0.variables o.steps (λ f var. some-name (token_name f y0.variables) (opened.all.used f (variable-inside m.fields f var) var))

  pub walk : IsKeptSafe m.fields y.names (first_values m.fields mode.Init) o.steps → Walk fit m.fields y.names [] (first_values m.fields mode.Init) o.steps y0 y
  walk safe =
      going fit m.fields rules.few (is_outside m.fields) o.params y.names [] (λ ss x c. AreWaiting m.fields [] ss x c)
      (λ q x z c f t line ss h r extra e.
      let lt = init-inside m.fields y.names q x z c f t r in
      doing-init m.fields y.names [] q x z c h f t r lt (extra.untouched f lt (started-first f t line ss)) (extra.free f lt (started-first f t line ss)) _ e)
      (λ q s ss x z c k h e extra. waiting-next fit m.fields rules.few y.names [] s ss x z c h e extra)
      (λ z e. ap not e) [] o.steps y0 y (first_values m.fields mode.Init) laws rest (open-stands m.fields y.names start.names y0 opened.all) safe
      (record { number = λ z e. refl; mapping = λ z e. refl }) opened.enough used waiting

  done : IsKeptSafe m.fields y.names (first_values m.fields mode.Init) o.steps → AreDone m.fields y.names [] y (first_values m.fields mode.Init) o.steps
  done safe = walked fit m.fields y.names [] o.steps y0 y (first_values m.fields mode.Init) (walk safe)

  param-value : (z : ℕ) → IsTextName z → is_in z o.params ≡ true → y.names.number z ≡ argument o.params args z
  param-value z text has =
      let out : nat_lt z (length m.fields) ≡ false = text-outside m.fields z rules.few text in
      let here : is_in z (o.params ++ bound_names []) ≡ true = list_any-append (nat_eq z) o.params [] ∙ ap (λ b. b || false) has in
      let kept_to : IsSameAt z y0.names y.names = names-kept_all fit m.fields rules.few (is_outside m.fields) o.params [] o.steps y0 y laws rest z (known-in m.fields (o.params ++ bound_names []) z here) in
      let from : IsSameAt z start.names y0.names = opened.all.beyond z out in
      let is : start.names.number z ≡ argument o.params args z = rw out refl in
      sym kept_to.number ∙ sym from.number ∙ is

  pub given-args : length args ≡ length o.params → AreGiven o.params args y.names
  given-args long = are-given y.names o.params args long (params-apart m.fields [] o.params rules.params).1
      (all-both IsTextName (λ z. is_in z o.params ≡ true) (λ z. y.names.number z ≡ argument o.params args z) o.params param-value rules.texts.params (all-in o.params))

  answers : Answers o.steps y0 y y.names
  answers = all-answered fit m.fields rules.few (is_outside m.fields) o.params y.names [] o.steps y0 y laws rest (λ z out. refl)

  given-bound : AreGiven (bound_names o.steps) y.bound y.names
  given-bound =
      let none-yet : start.bound ≡ y0.bound = used-bind-nothing (variable_slots m.fields o) start y0 first in
      let all : y.bound ≡ answers.values = answers.bound ∙ ap (λ (bs : List ℤ). bs ++ answers.values) (sym none-yet) in
      subst (λ (bs : List ℤ). AreGiven (bound_names o.steps) bs y.names) (sym all) answers.given

  pub begins : Contains m.ops o → length args ≡ length o.params → (AreGiven o.params args y.names → IsKeptSafe m.fields y.names (first_values m.fields o.mode) o.steps) → Begins m o args y.bound (tokens_in (y.hand ++ y.entered) ++ []) y.kept
  begins has long safe =
      let args_are = given-args long in
      let d = done (subst (λ k. IsKeptSafe m.fields y.names (first_values m.fields k) o.steps) init (safe args_are)) in
      let last = last_values m.fields (first_values m.fields mode.Init) o.steps in
      record {
        sound = d.stands.makes.sound;
        state = values_in y.names m.fields last;
        joined = joined-state m.fields (bag_at [] y) y.kept _ (values-list y.names (value_at m.fields (bag_at [] y) y.kept) 0 m.fields last d.stands.makes.many
            (λ i lt. let e : 0 + i ≡ i = omega arith in ap (value_at m.fields (bag_at [] y) y.kept) e ∙ d.stands.makes.values i lt));
        start = record {
          names = y.names;
          declared = has;
          is_init = init;
          given = args_are;
          met = subst (λ k. AreMet m.fields y.names (first_values m.fields k) o.steps) (sym init) d.met;
          leaves = ap (λ k. values_in y.names m.fields (last_values m.fields (first_values m.fields k) o.steps)) (sym init);
        };
        answered = given-bound;
        safe = safe args_are;
      }

-- the theorem for numbers within any bound
pub initialises-in : (fit : ℤ → Bool) → Initialises fit
initialises-in fit m proved o has init args long tokens given hand names perms kept blanks empty whole x e =
    let rules = regular m proved.symbols proved.named proved.strategies o has in
    let out = outcome-ok (use_variables (variable_slots m.fields o) (beginning m.fields o args tokens given whole hand kept) >>= does_all fit m.fields o.steps) x e in
    let y = out.0 in
    let a = bind-ok (use_variables (variable_slots m.fields o) (beginning m.fields o args tokens given whole hand kept)) (does_all fit m.fields o.steps) y out.1 in
    let b = begins fit m o args tokens given hand kept whole init names rules perms blanks empty a.0 y a.1 a.2 has long (λ gives. proved.holds.starts_safe o has init args y.names gives) in
    subst (λ (bs : List ℤ). Begins m o args bs (tokens_in x.hand) x.kept) (sym out.2.bound)
    (subst (λ k. Begins m o args y.bound (tokens_in x.hand) k) (sym out.2.kept)
    (subst (λ ts. Begins m o args y.bound ts y.kept) (append-nothing (tokens_in (y.hand ++ y.entered)) ∙ sym out.2.hand) b))
