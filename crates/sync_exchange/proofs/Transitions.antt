-- An exchange of a transition or property is a declared step of the whole, whatever the other holders have.
use Rattle.std.proofs.Common.{◌≡◌, ℕ, zero, suc, ◌+◌, ◌<◌, ◌≤◌, ℤ, Bool, true, false, ◌||◌, List, [], ◌∷◌, ◌++◌, length, map, get_or, Some, is_some, Ok, Err, inl, inr, ◌⊎◌, refl, sym, ap, subst, ◌∙◌, arith, nat_eq, nat_lt}
use Rattle.std.specs.Prelude.{Contains}
use Rattle.std.specs.List.{AllByRecursion, range_with_len}
use Rattle.std.proofs.lemmas.Bool.{lt-ltb, le-ltb, cases_lt}
use Rattle.std.proofs.lemmas.List.FromFn.{get_or-range_with_len, length-range_with_len}
use Rattle.std.proofs.lemmas.List.Folds.{list_any-append}
use Rattle.sync_base.specs.Outcome.{◌>>=◌}
use Rattle.sync_terms.specs.Trees.{Tree, Name}
use Rattle.sync_terms.specs.Values.{Valuation}
use Rattle.sync_machine.specs.declared.fields.Field.{Field}
use Rattle.sync_machine.specs.Machines.{ActTree, StepTree, OperationTree, MachineTree}
use Rattle.sync_machine.specs.Machines as acts
use Rattle.sync_machine.specs.States.{State, IsInit, IsAt, AreGiven, strategy_at, last_values, first_values, values_in, AreMet, IsKeptSafe}
use Rattle.sync_machine.specs.Naming.{bound_names, is_in, IsTextName}
use Rattle.sync_machine.proofs.Names.{at_place}
use Rattle.sync_rules.specs.Strategies.{kind_of}
use Rattle.sync_join.specs.declared.tokens.Token.{Token}
use Rattle.sync_join.specs.Shards.{Kept, AreSoundShards}
use Rattle.sync_join.specs.Join.{join_of, value_at}
use Rattle.sync_join.proofs.States.{joined-state}
use Rattle.sync_rules.specs.Slots.{field_slot}
use Rattle.sync_exchange.specs.declared.hands.Held.{Held}
use Rattle.sync_exchange.specs.Exchange.{Exchanging, Exchanged, Answer, outcome, tokens_in, token_name, argument, beginning, variable_slots, use_variables, does_all}
use Rattle.sync_rules.specs.Plain.{is_plain}
use Rattle.sync_exchange.specs.Projection.{AreNames, LeadsOn, Projects}
use Rattle.sync_exchange.proofs.Terms.{Same}
use Rattle.sync_exchange.proofs.Passing.{bind-ok}
use Rattle.sync_exchange.proofs.Standing.{bag_at, GoesAlong}
use Rattle.sync_exchange.proofs.Going.{IsSameAt, same-through, is_known_by, AreLawful, AreDone, Walk, walked, known-in, names-kept_all, going}
use Rattle.sync_exchange.proofs.Answering.{Answers, all-answered, used-bind-nothing}
use Rattle.sync_exchange.proofs.Rules.{IsRegular, regular, are-lawful}
use Rattle.sync_exchange.proofs.Using.{HasNoInit, AreKnown, using}
use Rattle.sync_exchange.proofs.Whole.{state-length, first-names, first-name, values-list, AreApart, params-apart, are-given}
use Rattle.sync_exchange.proofs.Owning.{names-enough}
use Rattle.sync_exchange.proofs.Beginning.{valuation, same-outside, at-state, Trust, trust, no-inits, start-nil, start-stands, start-same, are-used, all-both, all-one, all-in, text-outside}

-- what an exchange leaves
pub record IsOutcome (x : Exchanged) (y : Exchanging) : Type 0 where
  pub hand : tokens_in x.hand ≡ tokens_in (y.hand ++ y.entered)
  pub kept : x.kept ≡ y.kept
  pub bound : x.bound ≡ y.bound

pub outcome-ok : (r : Answer) (x : Exchanged) → outcome r ≡ Ok x → (y : Exchanging) × (r ≡ Ok y) × IsOutcome x y
outcome-ok (Err stop) x e = absurd (cc)
outcome-ok (Ok y) x e =
    let is : ◌≡◌ {A = Exchanged} (record { hand = y.hand ++ y.entered; kept = y.kept; bound = y.bound }) x = cc in
    (y, refl, record { hand = ap (λ (w : Exchanged). tokens_in w.hand) (sym is); kept = ap (λ (w : Exchanged). w.kept) (sym is); bound = ap (λ (w : Exchanged). w.bound) (sym is) })

range-below : (n k : ℕ) → AllByRecursion (λ (f : ℕ). f < k + n) (range_with_len k n)
range-below zero k = tt
range-below (suc n) k = (omega arith, all-one (λ f. f < (k + 1) + n) (λ f. f < k + suc n) (range_with_len (k + 1) n) (λ f h. omega (arith, h)) (range-below n (k + 1)))

pub below-length : (n : ℕ) → AllByRecursion (λ (f : ℕ). f < n) (range_with_len 0 n)
below-length n = all-one (λ f. f < 0 + n) (λ f. f < n) (range_with_len 0 n) (λ f h. omega (arith, h)) (range-below n 0)

-- what holds of each number below n
pub at-number : (P : ℕ → Type 0) (n f : ℕ) → AllByRecursion P (range_with_len 0 n) → f < n → P f
at-number P n f h lt =
    let long = length-range_with_len 0 n in
    let is : get_or (range_with_len 0 n) f f ≡ f = get_or-range_with_len 0 n f f lt ∙ (let e : 0 + f ≡ f = omega arith in e) in
    subst P is (at_place P (range_with_len 0 n) f f h (omega (arith, lt, long)))

pub field-known : (fs : List Field) (names : List ℕ) (z : ℕ) → z < length fs → is_known_by fs names z ≡ true
field-known fs names z lt = let e : nat_lt z (length fs) ≡ true = lt-ltb z (length fs) lt in rw e refl

-- ---- the steps of a transition

pub no-first : (fs : List Field) (f : ℕ) (t : Tree) (line : ℕ) (ss : List StepTree) (P : Type 0) → HasNoInit (record { act = acts.Init f t; line = line } ∷ ss) → P
unfolding kind_of
no-first fs f t line ss P h = let e = h.0 in absurd (cc)

module _ (fit : ℤ → Bool) (m : MachineTree) (o : OperationTree) (args : List ℤ) (tokens given : List ℕ) (hand : List Held) (others : List Token) (kept : Kept) (s whole : State)
    (joined : join_of m.fields (tokens_in hand ++ others) kept ≡ Some s) (sound : AreSoundShards m.fields (tokens_in hand ++ others) kept)
    (other : IsInit o → ⊥) (names : AreNames m.fields o tokens given hand) (rules : IsRegular m.fields o) (t : Trust m.fields o s whole) (y0 y : Exchanging)
    (first : use_variables (variable_slots m.fields o) (beginning m.fields o args tokens given whole hand kept) ≡ Ok y0)
    (rest : does_all fit m.fields o.steps y0 ≡ Ok y) where
  abbrev start : Exchanging
  start = beginning m.fields o args tokens given whole hand kept

  abbrev names_of : Valuation
  names_of = valuation m.fields s y.names

  abbrev none : HasNoInit o.steps
  none = no-inits m.fields o.mode [] o.steps other rules.rules

  abbrev cur : List Tree
  cur = map Name (range_with_len 0 (length m.fields))

  pub known : AreKnown m.fields names_of others o.steps none cur (first-name m.fields) (start-nil m.fields o args tokens given hand others kept s whole joined sound y.names) (range_with_len 0 (length m.fields)) start y0
  known = using m.fields names_of others o.steps none cur (first-name m.fields) (start-nil m.fields o args tokens given hand others kept s whole joined sound y.names)
      (range_with_len 0 (length m.fields)) start y0 (below-length (length m.fields)) first
      (start-stands m.fields o args tokens given hand others kept s whole joined sound y.names names)

  pub laws : AreLawful m.fields t.test o.params [] o.steps
  laws = are-lawful m.fields o.mode t.test o.params [] o.steps rules.few rules.rules rules.statements rules.texts.bound t.reading

  field-first : (z : ℕ) → z < length m.fields → t.test z ≡ true → IsSameAt z y0.names names_of
  field-first z lt e = cases (t.knows z lt e) where
    cases : ((Rattle.sync_rules.specs.Plain.is_kept (strategy_at m.fields z) ≡ true) ⊎ (get_or whole z Rattle.sync_exchange.proofs.Whole.nothing ≡ get_or s z Rattle.sync_exchange.proofs.Whole.nothing)) ⊎ (is_some (field_slot m.fields o.steps z) ≡ true) → IsSameAt z y0.names names_of
    cases (inl h) = known.keeps z (start-same m.fields o args tokens given hand others kept s whole joined sound y.names z lt h)
    cases (inr h) = (at-number (λ f. is_some (field_slot m.fields o.steps f) ≡ true → IsSameAt f y0.names names_of × (is_some (token_name f y0.variables) ≡ true)) (length m.fields) z known.learns lt h).0

  turned : (z : ℕ) (a b : Valuation) → IsSameAt z a b → IsSameAt z b a
  turned z a b h = record { number = sym h.number; mapping = sym h.mapping }

  at-end : (z : ℕ) → t.test z ≡ true → IsSameAt z y.names names_of
  at-end z e = cases (cases_lt z (length m.fields)) where
    cases : (z < length m.fields) ⊎ (length m.fields ≤ z) → IsSameAt z y.names names_of
    cases (inl lt) = same-through z y.names y0.names names_of
        (turned z y0.names y.names (names-kept_all fit m.fields rules.few t.test o.params [] o.steps y0 y laws rest z (field-known m.fields (o.params ++ bound_names []) z lt)))
        (field-first z lt e)
    cases (inr le) = same-outside m.fields s y.names z (le-ltb z (length m.fields) le)

  pub same : Same t.test y.names names_of
  same = record { number = λ z e. (at-end z e).number; mapping = λ z e. (at-end z e).mapping }

  param-value : (z : ℕ) → IsTextName z → is_in z o.params ≡ true → names_of.number z ≡ argument o.params args z
  param-value z text has =
      let out : nat_lt z (length m.fields) ≡ false = text-outside m.fields z rules.few text in
      let here : is_in z (o.params ++ bound_names []) ≡ true = list_any-append (nat_eq z) o.params [] ∙ ap (λ b. b || false) has in
      let kept_to : IsSameAt z y0.names y.names = names-kept_all fit m.fields rules.few t.test o.params [] o.steps y0 y laws rest z (known-in m.fields (o.params ++ bound_names []) z here) in
      let begun : IsSameAt z start.names y0.names = known.beyond z out in
      let is : start.names.number z ≡ argument o.params args z = rw out refl in
      sym (same-outside m.fields s y.names z out).number ∙ sym kept_to.number ∙ sym begun.number ∙ is

  pub given-args : length args ≡ length o.params → AreGiven o.params args names_of
  given-args long = are-given names_of o.params args long (params-apart m.fields [] o.params rules.params).1
      (all-both IsTextName (λ z. is_in z o.params ≡ true) (λ z. names_of.number z ≡ argument o.params args z) o.params param-value rules.texts.params (all-in o.params))

  pub walk : IsKeptSafe m.fields names_of cur o.steps → Walk fit m.fields names_of others cur o.steps y0 y
  walk safe =
      let long : y0.given ≡ given = known.given in
      let many : length y0.given ≡ length given = ap length long in
      let enough = names-enough m.fields o tokens given hand names in
      going fit m.fields rules.few t.test o.params names_of others (λ ss x c. HasNoInit ss)
      (λ q x z c f tree line ss h r extra e. no-first m.fields f tree line ss (GoesAlong m.fields names_of others x z c (acts.Init f tree)) extra)
      (λ q s ss x z c h k e extra. extra.1)
      t.outside [] o.steps y0 y cur laws rest known.stands safe same (omega (arith, many, enough))
      (are-used m.fields o.mode o.steps [] o.steps y0.variables refl none rules.rules
      (λ f lt slot. (at-number (λ f. is_some (field_slot m.fields o.steps f) ≡ true → IsSameAt f y0.names names_of × (is_some (token_name f y0.variables) ≡ true)) (length m.fields) f known.learns lt slot).1))
      none

  pub done : IsKeptSafe m.fields names_of cur o.steps → AreDone m.fields names_of others y cur o.steps
  done safe = walked fit m.fields names_of others o.steps y0 y cur (walk safe)

  answers : Answers o.steps y0 y names_of
  answers = all-answered fit m.fields rules.few t.test o.params names_of [] o.steps y0 y laws rest (λ z out. (same-outside m.fields s y.names z out).number)

  given-bound : AreGiven (bound_names o.steps) y.bound names_of
  given-bound =
      let none-yet : start.bound ≡ y0.bound = used-bind-nothing (variable_slots m.fields o) start y0 first in
      let all : y.bound ≡ answers.values = answers.bound ∙ ap (λ (bs : List ℤ). bs ++ answers.values) (sym none-yet) in
      subst (λ (bs : List ℤ). AreGiven (bound_names o.steps) bs names_of) (sym all) answers.given

  pub leads : Contains m.ops o → length args ≡ length o.params → (IsAt s names_of → AreGiven o.params args names_of → IsKeptSafe m.fields names_of (first_values m.fields o.mode) o.steps)
      → LeadsOn m s o args y.bound (tokens_in (y.hand ++ y.entered) ++ others) y.kept
  leads has long safe =
      let at = at-state m.fields s y.names (state-length m.fields (tokens_in hand ++ others) kept s joined) in
      let args_are = given-args long in
      let firsts : first_values m.fields o.mode ≡ map Name (range_with_len 0 (length m.fields)) = first-names m.fields o.mode other in
      let d = done (subst (λ c. IsKeptSafe m.fields (valuation m.fields s y.names) c o.steps) firsts (safe at args_are)) in
      let last = last_values m.fields (map Name (range_with_len 0 (length m.fields))) o.steps in
      record {
        sound = d.stands.makes.sound;
        state = values_in (valuation m.fields s y.names) m.fields last;
        joined = joined-state m.fields (bag_at others y) y.kept _ (values-list (valuation m.fields s y.names) (value_at m.fields (bag_at others y) y.kept) 0 m.fields last d.stands.makes.many
            (λ i lt. let e : 0 + i ≡ i = omega arith in ap (value_at m.fields (bag_at others y) y.kept) e ∙ d.stands.makes.values i lt));
        step = record {
          names = valuation m.fields s y.names;
          declared = has;
          no_init = other;
          before = at;
          given = args_are;
          met = subst (λ c. AreMet m.fields (valuation m.fields s y.names) c o.steps) (sym firsts) d.met;
          leaves = ap (λ c. values_in (valuation m.fields s y.names) m.fields (last_values m.fields c o.steps)) (sym firsts);
        };
        answered = given-bound;
        safe = safe at args_are;
      }

-- the theorem for numbers within any bound
pub projects-in : (fit : ℤ → Bool) → Projects fit
projects-in fit m proved o has other args long tokens given hand names others kept sound s joined reached whole either x e =
    let rules = regular m proved.symbols proved.named proved.strategies o has in
    let out = outcome-ok (use_variables (variable_slots m.fields o) (beginning m.fields o args tokens given whole hand kept) >>= does_all fit m.fields o.steps) x e in
    let y = out.0 in
    let a = bind-ok (use_variables (variable_slots m.fields o) (beginning m.fields o args tokens given whole hand kept)) (does_all fit m.fields o.steps) y out.1 in
    let t = trust m.fields o s whole other rules.rules either in
    let l = leads fit m o args tokens given hand others kept s whole joined sound other names rules t a.0 y a.1 a.2 has long
    (λ at gives. proved.holds.safe s reached o has other args _ at gives) in
    subst (λ (bs : List ℤ). LeadsOn m s o args bs (tokens_in x.hand ++ others) x.kept) (sym out.2.bound)
    (subst (λ k. LeadsOn m s o args y.bound (tokens_in x.hand ++ others) k) (sym out.2.kept)
    (subst (λ ts. LeadsOn m s o args y.bound (ts ++ others) y.kept) (sym out.2.hand) l))
