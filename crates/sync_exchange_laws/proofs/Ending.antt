-- The names at the end of an exchange are those of the state, the arguments and the values that it answers.
use Rattle.std.proofs.Common.{◌≡◌, ℕ, ◌+◌, ◌≤◌, ℤ, pos, Bool, true, false, ◌||◌, List, [], ◌∷◌, ◌++◌, length, map, get_or, Option, Some, None, is_some, Ok, refl, sym, ap, subst, ◌∙◌, arith, ◌⊎◌, if◌then◌else◌, nat_eq, nat_lt}
use Rattle.std.specs.Prelude.{Contains}
use Rattle.std.specs.List.{AllByRecursion, cons_option, range_with_len}
use Rattle.std.proofs.lemmas.Bool.{eqb-true, eq-eqb, ltb-false}
use Rattle.std.proofs.lemmas.List.Folds.{list_any-append}
use Rattle.std.proofs.lemmas.List.{get_or_past}
use Rattle.sync_base.specs.Outcome.{◌>>=◌}
use Rattle.sync_terms.specs.Trees.{Name}
use Rattle.sync_terms.specs.Maps as maps
use Rattle.sync_terms.specs.Values.{Valuation}
use Rattle.sync_machine.specs.declared.fields.Field.{Field}
use Rattle.sync_base.specs.declared.strategies.Strategy.{Strategy}
use Rattle.sync_machine.specs.Machines.{ActTree, StepTree, OperationTree, MachineTree}
use Rattle.sync_machine.specs.Machines as acts
use Rattle.sync_machine.specs.Named.{own_names}
use Rattle.sync_machine.specs.Naming.{bound_by, bound_names, is_in}
use Rattle.sync_machine.specs.Statements.{binds}
use Rattle.sync_machine.specs.States.{State, strategy_at, last_values, first_values, values_in, IsInit, IsAt, AreGiven, AreMet, IsKeptSafe, IsReached}
use Rattle.sync_machine.proofs.Tests.{conditions-are-tests, safety-is-a-test}
use Rattle.sync_rules.specs.Plain.{is_plain}
use Rattle.sync_rules.specs.Slots.{field_slot}
use Rattle.sync_join.specs.declared.tokens.Token.{Token}
use Rattle.sync_join.specs.Shards.{Kept, perm, AreRecords, AreSoundShards}
use Rattle.sync_join.specs.Join.{number_of, entries_of, value_at, join_of}
use Rattle.sync_join.proofs.States.{joined-state}
use Rattle.sync_exchange.specs.declared.hands.Held.{Held}
use Rattle.sync_exchange.specs.declared.hands.XStop.TheVariants.{Width, RequireFalse}
use Rattle.sync_exchange.specs.Exchange.{Exchanging, Exchanged, argument, seen, key_at, after_reading, after_taking, after_seeing, after_giving, binding, storing, withdrawn, permission, token_name, new_value, tokens_in, use_variables, variable_slots, beginning, does, does_all, outcome, exchange_in}
use Rattle.sync_exchange.specs.Projection.{AreNames, IsProved}
use Rattle.sync_exchange.proofs.Passing.{unless-ok, ok_is, bind-ok, asked-token, asked-object}
use Rattle.sync_exchange.proofs.Making.{records-length}
use Rattle.sync_exchange.proofs.Standing.{bag_at}
use Rattle.sync_exchange.proofs.Doing.{beyond}
use Rattle.sync_exchange.proofs.Going.{IsSameAt, Walk, walked, started-names, updated-names, names-kept}
use Rattle.sync_exchange.proofs.Answering.{all-answered, used-bind-nothing}
use Rattle.sync_exchange.proofs.Rules.{regular}
use Rattle.sync_exchange.proofs.Beginning.{valuation, same-outside, at-state, all-one, trust}
use Rattle.sync_exchange.proofs.Transitions.{outcome-ok, laws, given-args, known, walk}
use Rattle.sync_exchange.proofs.Whole.{nothing, state-length, first-names, values-list}
use Rattle.sync_exchange_laws.specs.Along.{ended}
use Rattle.sync_exchange_laws.specs.Conditions.{valuation_at, ExchangesMeetConditions}

-- ---- arguments by their names

eq-cases : (b : Bool) (n m k : ℤ) → (b ≡ true → n ≡ k) → (b ≡ false → m ≡ k) → (if b then n else m) ≡ k
eq-cases true n m k h g = h refl
eq-cases false n m k h g = g refl

or-cases : (b c : Bool) (P : Type 0) → (b || c) ≡ true → (b ≡ true → P) → (c ≡ true → P) → P
or-cases true c P e h g = h refl
or-cases false c P e h g = g e

pub or-neither : (b c : Bool) → (b || c) ≡ false → (b ≡ false) × (c ≡ false)
or-neither true c e = absurd (cc)
or-neither false c e = (refl, e)

pub is-argument : (ps : List ℕ) (ns : List ℤ) (v : Valuation) (z : ℕ) → AreGiven ps ns v → is_in z ps ≡ true
    → argument ps ns z ≡ v.number z
unfolding argument
is-argument [] ns v z given e = absurd (cc)
is-argument (p ∷ ps) [] v z given e = absurd given
is-argument (p ∷ ps) (n ∷ ns) v z given e =
    eq-cases (nat_eq z p) n (argument ps ns z) (v.number z)
    (λ same. sym given.0 ∙ ap v.number (sym (eqb-true z p same)))
    (λ other. or-cases (nat_eq z p) (is_in z ps) (argument ps ns z ≡ v.number z) e (λ same. let no = sym same ∙ other in absurd (cc)) (λ later. is-argument ps ns v z given.1 later))

pub no-argument : (ps : List ℕ) (ns : List ℤ) (z : ℕ) → is_in z ps ≡ false → argument ps ns z ≡ pos 0
unfolding argument
no-argument [] ns z e = refl
no-argument (p ∷ ps) [] z e = refl
no-argument (p ∷ ps) (n ∷ ns) z e =
    let parts = or-neither (nat_eq z p) (is_in z ps) e in
    eq-cases (nat_eq z p) n (argument ps ns z) (pos 0) (λ same. let no = sym same ∙ parts.0 in absurd (cc))
    (λ other. no-argument ps ns z parts.1)

pub given-append : (ps qs : List ℕ) (ns ms : List ℤ) (v : Valuation) → AreGiven ps ns v → AreGiven qs ms v
    → AreGiven (ps ++ qs) (ns ++ ms) v
given-append [] qs [] ms v a b = b
given-append [] qs (n ∷ ns) ms v a b = absurd a
given-append (p ∷ ps) qs [] ms v a b = absurd a
given-append (p ∷ ps) qs (n ∷ ns) ms v a b = (a.0, given-append ps qs ns ms v a.1 b)

-- a symbol that is none of the names is 0
pub own-or-free : (o : OperationTree) (args bound : List ℤ) (v w : Valuation) (z : ℕ)
    → AreGiven (own_names o) (args ++ bound) v → w.number z ≡ v.number z
    → (is_in z o.params ≡ false → is_in z (bound_names o.steps) ≡ false → w.number z ≡ pos 0)
    → w.number z ≡ argument (own_names o) (args ++ bound) z
own-or-free o args bound v w z own same free = cases (is_in z (own_names o)) refl where
  cases : (b : Bool) → is_in z (own_names o) ≡ b → w.number z ≡ argument (own_names o) (args ++ bound) z
  cases true e = same ∙ sym (is-argument (own_names o) (args ++ bound) v z own e)
  cases false e =
      let parts =
      or-neither (is_in z o.params) (is_in z (bound_names o.steps))
      (sym (list_any-append (nat_eq z) o.params (bound_names o.steps)) ∙ e) in
      free parts.0 parts.1 ∙ sym (no-argument (own_names o) (args ++ bound) z e)

pub start-number : (fs : List Field) (o : OperationTree) (args : List ℤ) (tokens given : List ℕ) (hand : List Held) (kept : Kept) (whole : State) (z : ℕ) → nat_lt z (length fs) ≡ false
    → (beginning fs o args tokens given whole hand kept).names.number z ≡ argument o.params args z
start-number fs o args tokens given hand kept whole z out = rw out refl

-- ---- a symbol that no statement binds stands for what it did

some-is : (z y : ℕ) → ◌≡◌ {A = Option ℕ} (Some y) (Some z) → y ≡ z
some-is z y e = cc

not-bound : (o : Option ℕ) (ps : List ℕ) (z : ℕ) → is_in z (cons_option o ps) ≡ false → (o ≡ Some z → ⊥)
    × (is_in z ps ≡ false)
not-bound None ps z e = ((λ h. absurd (cc)), e)
not-bound (Some y) ps z e =
    let parts = or-neither (nat_eq z y) (is_in z ps) e in
    ((λ h. let yes = eq-eqb z y (sym (some-is z y h)) in let no = sym yes ∙ parts.0 in absurd (cc)), parts.1)

pub unbound-kept : (fit : ℤ → Bool) (fs : List Field) (ss : List StepTree) (x y : Exchanging) (z : ℕ)
    → does_all fit fs ss x ≡ Ok y → is_in z (bound_names ss) ≡ false → x.names.number z ≡ y.names.number z
unbound-kept fit fs [] x y z e free = ap (λ (w : Exchanging). w.names.number z) (ok_is x y e)
unbound-kept fit fs (s ∷ ss) x y z e free =
    let a = bind-ok (does fit fs s x) (does_all fit fs ss) y e in
    let parts = not-bound (bound_by s.act) (bound_names ss) z free in
    (names-kept fit fs x a.0 z s.line s.act a.1 parts.0).number ∙ unbound-kept fit fs ss a.0 y z a.2 parts.1

-- ---- bound names are no maps

nil-cases : (b : Bool) (m : maps.Map) → m ≡ maps.nil → (if b then maps.nil else m) ≡ maps.nil
nil-cases true m e = refl
nil-cases false m e = e

binding-nil : (o : Option ℕ) (n : ℤ) (x : Exchanging) (z : ℕ) → x.names.mapping z ≡ maps.nil
    → (binding o n x).names.mapping z ≡ maps.nil
binding-nil None n x z e = e
binding-nil (Some y) n x z e = nil-cases (nat_eq z y) (x.names.mapping z) e

module _ (fit : ℤ → Bool) (fs : List Field) (x y : Exchanging) (z : ℕ) (nil : x.names.mapping z ≡ maps.nil) where
  nil-at : (u : Exchanging) → u.names.mapping z ≡ maps.nil → u ≡ y → y.names.mapping z ≡ maps.nil
  nil-at u h e = ap (λ (w : Exchanging). w.names.mapping z) (sym e) ∙ h

  pub does-nil : (line : ℕ) (a : ActTree) → does fit fs (record { act = a; line = line }) x ≡ Ok y
      → y.names.mapping z ≡ maps.nil
  unfolding does
  does-nil line (acts.Require form) e =
      let a = unless-ok Width _ _ y e in let b = unless-ok (RequireFalse line) _ (Ok x) y a.1 in
      nil-at x nil (ok_is x y b.1)
  does-nil line (acts.Assert form) e = nil-at x nil (ok_is x y e)
  does-nil line (acts.HaveVariable f) e = nil-at x nil (ok_is x y e)
  does-nil line (acts.Init f t) e =
      let a = unless-ok Width _ _ y e in
      let w = new_value fs f t x in
      nil-at _ (ap (λ (v : Valuation). v.mapping z) (sym (started-names (strategy_at fs f) f w x)) ∙ nil)
      (ok_is _ y a.1)
  does-nil line (acts.Update f t) e =
      let a = unless-ok Width _ _ y e in
      let w = new_value fs f t x in
      nil-at _ (ap (λ (v : Valuation). v.mapping z) (sym (updated-names (strategy_at fs f) f w x)) ∙ nil)
      (ok_is _ y a.1)
  does-nil line (acts.Remove f p) e =
      let a = asked-token fit f p x _ y e in
      nil-at _ (binding-nil (binds p) a.token.value (after_taking x) z nil) a.answer
  does-nil line (acts.Have f p) e =
      let a = asked-token fit f p x _ y e in
      nil-at _ (binding-nil (binds p) a.token.value (after_reading x) z nil) a.answer
  does-nil line (acts.Add f p) e = let a = unless-ok Width _ _ y e in nil-at _ nil (ok_is _ y a.1)
  does-nil line (acts.Deposit f p) e = let a = asked-token fit perm p x _ y e in nil-at _ nil a.answer
  does-nil line (acts.Withdraw f p) e =
      let a = asked-object fit f p x _ y e in
      let u = storing (withdrawn f (key_at p x) x.kept.stored) (after_giving (permission (key_at p x) a.number) x) in
      nil-at _ (binding-nil (binds p) a.number u z nil) a.answer
  does-nil line (acts.Guard f p) e =
      let a = asked-object fit f p x _ y e in nil-at _ (binding-nil (binds p) a.number (after_seeing x) z nil) a.answer

pub all-nil : (fit : ℤ → Bool) (fs : List Field) (ss : List StepTree) (x y : Exchanging) (z : ℕ)
    → x.names.mapping z ≡ maps.nil → does_all fit fs ss x ≡ Ok y → y.names.mapping z ≡ maps.nil
all-nil fit fs [] x y z nil e = ap (λ (w : Exchanging). w.names.mapping z) (sym (ok_is x y e)) ∙ nil
all-nil fit fs (s ∷ ss) x y z nil e =
    let a = bind-ok (does fit fs s x) (does_all fit fs ss) y e in
    all-nil fit fs ss a.0 y z (does-nil fit fs x a.0 z nil s.line s.act a.1) a.2

-- beyond the fields nothing is recorded
pub first-nil : (fs : List Field) (kept : Kept) (whole : State) (z : ℕ) → AreRecords fs kept.records → length fs ≤ z
    → entries_of (seen (strategy_at fs z) kept whole z) ≡ maps.nil
first-nil fs kept whole z records le =
    let long = records-length fs kept.records records in
    ap (λ (s : Strategy). entries_of (seen s kept whole z)) (beyond fs z le)
    ∙ ap entries_of (get_or_past kept.records z nothing (omega (arith, le, long)))

-- ---- two valuations that are the same beyond the fields

inside-or : {A : Type 0} (b : Bool) (n m k : A) → (b ≡ false → m ≡ k) → (if b then n else m) ≡ (if b then n else k)
inside-or true n m k h = refl
inside-or false n m k h = h refl

pub valuations-same : (fs : List Field) (s : State) (v w : Valuation)
    → ((z : ℕ) → nat_lt z (length fs) ≡ false → v.number z ≡ w.number z)
    → ((z : ℕ) → nat_lt z (length fs) ≡ false → v.mapping z ≡ w.mapping z) → valuation fs s v ≡ valuation fs s w
valuations-same fs s v w number mapping = λ i. record {
  number = λ z. inside-or (nat_lt z (length fs)) (number_of (get_or s z nothing)) (v.number z) (w.number z) (number z) i;
  mapping = λ z. inside-or (nat_lt z (length fs)) (entries_of (get_or s z nothing)) (v.mapping z) (w.mapping z) (mapping z) i;
}

-- ---- an exchange that succeeds, along the names at its end

pub record IsWalked (fit : ℤ → Bool) (m : MachineTree) (s : State) (o : OperationTree) (args : List ℤ)
    (tokens given : List ℕ) (hand : List Held) (others : List Token)
    (kept : Kept) (whole : State) (x : Exchanged) : Type 0 where
  pub begun : Exchanging
  pub end : Exchanging
  pub first : use_variables (variable_slots m.fields o) (beginning m.fields o args tokens given whole hand kept) ≡ Ok begun
  pub leaves : x ≡ ended end
  -- behind their slots the variables stand for the state's values
  pub learns : AllByRecursion (λ (f : ℕ). is_some (field_slot m.fields o.steps f) ≡ true → begun.names.number f ≡ (valuation_at m.fields s o args x.bound).number f) (range_with_len 0 (length m.fields))
  pub before : IsAt s (valuation_at m.fields s o args x.bound)
  pub named_as : AreGiven (own_names o) (args ++ x.bound) (valuation_at m.fields s o args x.bound)
  pub safe : IsKeptSafe m.fields (valuation_at m.fields s o args x.bound) (map Name (range_with_len 0 (length m.fields))) o.steps
  pub walk : Walk fit m.fields (valuation_at m.fields s o args x.bound) others (map Name (range_with_len 0 (length m.fields))) o.steps begun end

pub walked-at : (fit : ℤ → Bool) (m : MachineTree) → IsProved m → (o : OperationTree) → Contains m.ops o
    → (IsInit o → ⊥)
    → (args : List ℤ) → length args ≡ length o.params
    → (tokens given : List ℕ) (hand : List Held) → AreNames m.fields o tokens given hand
    → (others : List Token) (kept : Kept) → AreSoundShards m.fields (tokens_in hand ++ others) kept
    → (s : State) → join_of m.fields (tokens_in hand ++ others) kept ≡ Some s → IsReached m s
    → (whole : State) → (whole ≡ s) ⊎ (is_plain m.fields o ≡ true)
    → (x : Exchanged) → exchange_in fit m.fields o args tokens given whole hand kept ≡ Ok x
    → IsWalked fit m s o args tokens given hand others kept whole x
walked-at fit m proved o has other args long tokens given hand names others kept sound s joined reached whole either
    x e =
    let rules = regular m proved.symbols proved.named proved.strategies o has in
    let start = beginning m.fields o args tokens given whole hand kept in
    let r = use_variables (variable_slots m.fields o) start >>= does_all fit m.fields o.steps in
    let out = outcome-ok r x e in
    let y = out.0 in
    let a = bind-ok (use_variables (variable_slots m.fields o) start) (does_all fit m.fields o.steps) y out.1 in
    let t = trust m.fields o s whole other rules.rules either in
    let v = valuation m.fields s y.names in
    let at = at-state m.fields s y.names (state-length m.fields (tokens_in hand ++ others) kept s joined) in
    let args_are =
    given-args fit m o args tokens given hand others kept s whole joined sound other names rules t a.0 y a.1 a.2
    long in
    let firsts : first_values m.fields o.mode ≡ map Name (range_with_len 0 (length m.fields)) =
    first-names m.fields o.mode other in
    let safe =
    subst (λ c. IsKeptSafe m.fields v c o.steps) firsts
    (proved.holds.safe s reached o has other args v at args_are) in
    let w =
    walk fit m o args tokens given hand others kept s whole joined sound other names rules t a.0 y a.1 a.2 safe in
    let lawful =
    laws fit m o args tokens given hand others kept s whole joined sound other names rules t a.0 y a.1 a.2 in
    let answers =
    all-answered fit m.fields rules.few t.test o.params v [] o.steps a.0 y lawful a.2
    (λ z outside. (same-outside m.fields s y.names z outside).number) in
    let none-yet : start.bound ≡ a.0.bound = used-bind-nothing (variable_slots m.fields o) start a.0 a.1 in
    let values : x.bound ≡ answers.values =
    out.2.bound ∙ answers.bound ∙ ap (λ (bs : List ℤ). bs ++ answers.values) (sym none-yet) in
    let answered : AreGiven (bound_names o.steps) x.bound v =
    subst (λ (bs : List ℤ). AreGiven (bound_names o.steps) bs v) (sym values) answers.given in
    let own : AreGiven (own_names o) (args ++ x.bound) v =
    given-append o.params (bound_names o.steps) args x.bound v args_are answered in
    let begins =
    known fit m o args tokens given hand others kept s whole joined sound other names rules t a.0 y a.1 a.2 in
    let far : (z : ℕ) → nat_lt z (length m.fields) ≡ false → length m.fields ≤ z = λ z out. ltb-false z (length m.fields) out in
    let mapping : (z : ℕ) → nat_lt z (length m.fields) ≡ false → y.names.mapping z ≡ maps.nil = λ z out.
    all-nil fit m.fields o.steps a.0 y z
    (sym (begins.beyond z out).mapping ∙ first-nil m.fields kept whole z sound.shaped.records (far z out)) a.2 in
    let number : (z : ℕ) → nat_lt z (length m.fields) ≡ false → y.names.number z ≡ argument (own_names o) (args ++ x.bound) z = λ z out.
    own-or-free o args x.bound v y.names z own (same-outside m.fields s y.names z out).number
    (λ no_param free. sym (unbound-kept fit m.fields o.steps a.0 y z a.2 free) ∙ sym (begins.beyond z out).number ∙ start-number m.fields o args tokens given hand kept whole z out ∙ no-argument o.params args z no_param) in
    let same : v ≡ valuation_at m.fields s o args x.bound =
    valuations-same m.fields s y.names
    (record { number = argument (own_names o) (args ++ x.bound); mapping = λ z. maps.nil }) number mapping in
    record {
      begun = a.0;
      end = y;
      first = a.1;
      leaves = sym (ok_is _ x (ap outcome (sym out.1) ∙ e));
      learns = subst (λ (u : Valuation). AllByRecursion (λ (f : ℕ). is_some (field_slot m.fields o.steps f) ≡ true → a.0.names.number f ≡ u.number f) (range_with_len 0 (length m.fields))) same
          (all-one (λ (f : ℕ). is_some (field_slot m.fields o.steps f) ≡ true → IsSameAt f a.0.names v × (is_some (token_name f a.0.variables) ≡ true)) (λ (f : ℕ). is_some (field_slot m.fields o.steps f) ≡ true → a.0.names.number f ≡ v.number f) (range_with_len 0 (length m.fields)) (λ f h some. (h some).0.number) begins.learns);
      before = subst (IsAt s) same at;
      named_as = subst (AreGiven (own_names o) (args ++ x.bound)) same own;
      safe = subst (λ u. IsKeptSafe m.fields u (map Name (range_with_len 0 (length m.fields))) o.steps) same safe;
      walk = subst (λ u. Walk fit m.fields u others (map Name (range_with_len 0 (length m.fields))) o.steps a.0 y) same w;
    }

-- ---- conditions at the names at the end

pub exchanges-meet-conditions : ExchangesMeetConditions
exchanges-meet-conditions fit m proved o has other args long tokens given hand names others kept sound s joined
    reached whole either x e =
    let w =
    walked-at fit m proved o has other args long tokens given hand names others kept sound s joined reached whole
    either x e in
    let v = valuation_at m.fields s o args x.bound in
    let d = walked fit m.fields v others o.steps w.begun w.end (map Name (range_with_len 0 (length m.fields))) w.walk in
    let firsts : first_values m.fields o.mode ≡ map Name (range_with_len 0 (length m.fields)) =
    first-names m.fields o.mode other in
    let last = last_values m.fields (map Name (range_with_len 0 (length m.fields))) o.steps in
    let bag : bag_at others w.end ≡ tokens_in x.hand ++ others =
    ap (λ (u : Exchanged). tokens_in u.hand ++ others) (sym w.leaves) in
    let rest : w.end.kept ≡ x.kept = ap (λ (u : Exchanged). u.kept) (sym w.leaves) in
    let ends : join_of m.fields (bag_at others w.end) w.end.kept ≡ Some (values_in v m.fields last) =
    joined-state m.fields (bag_at others w.end) w.end.kept _
    (values-list v (value_at m.fields (bag_at others w.end) w.end.kept) 0 m.fields last d.stands.makes.many
    (λ i lt. let at : 0 + i ≡ i = omega arith in ap (value_at m.fields (bag_at others w.end) w.end.kept) at ∙ d.stands.makes.values i lt)) in
    record {
      before = w.before;
      named_as = w.named_as;
      conditions = (conditions-are-tests m.fields v (first_values m.fields o.mode) o.steps).1 (subst (λ c. AreMet m.fields v c o.steps) (sym firsts) d.met);
      safe = (safety-is-a-test m.fields v (first_values m.fields o.mode) o.steps).1 (subst (λ c. IsKeptSafe m.fields v c o.steps) (sym firsts) w.safe);
      joined = ap (λ ts. join_of m.fields ts x.kept) (sym bag)
          ∙ ap (join_of m.fields (bag_at others w.end)) (sym rest) ∙ ends
          ∙ ap (λ c. Some (values_in v m.fields (last_values m.fields c o.steps))) (sym firsts);
    }
