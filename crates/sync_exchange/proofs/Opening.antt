-- The slots of variables in an init: each variable gets a new token of value 0.
use Rattle.std.proofs.Common.{◌≡◌, ℕ, zero, suc, ◌+◌, ◌<◌, ◌≤◌, ℤ, pos, Bool, true, false, List, [], ◌∷◌, ◌++◌, length, append_assoc, filter_map, Option, Some, None, is_some, Ok, inl, inr, ◌⊎◌, refl, sym, ap, subst, ◌∙◌, arith, cond, if◌then◌else◌, nat_eq, nat_lt}
use Rattle.std.specs.List.{cons_option, range_with_len}
use Rattle.std.proofs.lemmas.Bool.{eqb-true, eq-eqb, lt-ltb, cases_lt}
use Rattle.sync_base.specs.Outcome.{first}
use Rattle.sync_terms.specs.Maps as maps
use Rattle.sync_terms.specs.Values.{Valuation, num, with_value}
use Rattle.sync_machine.specs.declared.fields.Field.{Field}
use Rattle.sync_base.specs.declared.strategies.Strategy.{Strategy}
use Rattle.sync_base.specs.declared.strategies.Strategy.TheVariants.{Variable, Count}
use Rattle.sync_machine.specs.Machines.{ActTree, StepTree}
use Rattle.sync_machine.specs.Machines as acts
use Rattle.sync_machine.specs.States.{Value, strategy_at, sort_of, value_in, blank}
use Rattle.sync_machine.specs.Naming.{initialises}
use Rattle.sync_rules.specs.Locality.{is_variable}
use Rattle.sync_join.specs.declared.tokens.Token.{Token}
use Rattle.sync_join.specs.Shards.{IsTokenOf, AreSoundShards}
use Rattle.sync_join.specs.Join.{tokens_of, record_at, value_at, only_value}
use Rattle.sync_rules.specs.declared.slots.Role.TheVariants.{Given}
use Rattle.sync_rules.specs.Slots.{SlotTree, started_at, given_by, changed_by, read_by, earliest, field_slot}
use Rattle.sync_exchange.specs.Exchange.{Exchanging, held_as, token_name, next_name, later_names, after_giving, knowing, use_variable, use_variables}
use Rattle.sync_exchange.specs.Projection.{names_new}
use Rattle.sync_exchange.proofs.Tokens.{occurs, holds, under, given-part, held_as-last}
use Rattle.sync_exchange.proofs.Making.{part-other, part-own, sound-in}
use Rattle.sync_exchange.proofs.Storing.{nat_eq-turned}
use Rattle.sync_exchange.proofs.OneStrategy.{variable-only, variable-only-value}
use Rattle.sync_exchange.proofs.Passing.{ok_is, bind-ok}
use Rattle.sync_exchange.proofs.Standing.{bag_at, AreNamed, AreVariables, once-given, later-length, named-given}
use Rattle.sync_exchange.proofs.Going.{IsSameAt, same-through}
use Rattle.sync_exchange.proofs.Using.{valued-is, earliest-some, field-slot, token-cases}
use Rattle.sync_exchange.proofs.Trusting.{first-left, first-right, variable-slotted}
use Rattle.sync_exchange.proofs.Beginning.{valued-some}
use Rattle.sync_exchange.proofs.Owning.{new_slots, slot_gives, option-slots}
use Rattle.sync_exchange.proofs.FirstValues.{starts_in, starts-cons, part-tokens}

-- ---- every variable is given

first-is : {A : Type 0} (a b : Option A) (y : A) → is_some a ≡ true → first a b ≡ Some y → a ≡ Some y
first-is (Some x) b y e h = h
first-is None b y e h = absurd (cc)

initialises-started : (f : ℕ) (a : ActTree) → initialises f a ≡ true → is_some (started_at f a) ≡ true
unfolding started_at
initialises-started f (acts.Init g t) e = rw e refl
initialises-started f (acts.Require form) e = absurd (cc)
initialises-started f (acts.Assert form) e = absurd (cc)
initialises-started f (acts.Update g t) e = absurd (cc)
initialises-started f (acts.HaveVariable g) e = absurd (cc)
initialises-started f (acts.Add g p) e = absurd (cc)
initialises-started f (acts.Remove g p) e = absurd (cc)
initialises-started f (acts.Have g p) e = absurd (cc)
initialises-started f (acts.Deposit g p) e = absurd (cc)
initialises-started f (acts.Withdraw g p) e = absurd (cc)
initialises-started f (acts.Guard g p) e = absurd (cc)

given-cases : (f : ℕ) (s : StepTree) (ss : List StepTree) (b : Bool) → initialises f s.act ≡ b → 1 ≤ cond b 1 0 + starts_in f ss → (1 ≤ starts_in f ss → is_some (earliest (given_by f) ss) ≡ true)
    → is_some (first (given_by f s) (earliest (given_by f) ss)) ≡ true
given-cases f s ss true is h later = first-left (given_by f s) (earliest (given_by f) ss) (valued-some Given f s.line (started_at f s.act) (initialises-started f s.act is))
given-cases f s ss false is h later = first-right (given_by f s) (earliest (given_by f) ss) (later (omega (arith, h)))

pub earliest-given : (f : ℕ) (ss : List StepTree) → 1 ≤ starts_in f ss → is_some (earliest (given_by f) ss) ≡ true
earliest-given f [] h = absurd (omega arith)
earliest-given f (s ∷ ss) h = given-cases f s ss (initialises f s.act) refl (subst (λ n. 1 ≤ n) (starts-cons f s ss) h) (earliest-given f ss)

given-slot : (fs : List Field) (ss : List StepTree) (f : ℕ) (sl : SlotTree) → 1 ≤ starts_in f ss → field_slot fs ss f ≡ Some sl → (sl.field ≡ f) × (sl.role ≡ Given)
given-slot fs ss f sl h e =
    let v = (field-slot fs ss f sl e).1 in
    let a = first-is (earliest (given_by f) ss) _ sl (earliest-given f ss h) v in
    let s = earliest-some (given_by f) ss sl a in
    valued-is Given f s.0.line (started_at f s.0.act) sl s.1

-- ---- tokens and names

abbrev pub blank_value : Valuation → Strategy → Value
blank_value v s = value_in v (sort_of s) (blank (sort_of s))

token-more : (g f name : ℕ) (vs : List (ℕ × ℕ)) → is_some (token_name g vs) ≡ true → is_some (token_name g ((f, name) ∷ vs)) ≡ true
unfolding token_name
token-more g f name vs e = cases (nat_eq g f) where
  cases : (b : Bool) → is_some (if b then Some name else token_name g vs) ≡ true
  cases true = refl
  cases false = e

token-here : (f name : ℕ) (vs : List (ℕ × ℕ)) → is_some (token_name f ((f, name) ∷ vs)) ≡ true
unfolding token_name
token-here f name vs = let e : nat_eq f f ≡ true = eq-eqb f f refl in rw e refl

next-occurs : (gs : List ℕ) → 1 ≤ length gs → 1 ≤ occurs (next_name gs) gs
unfolding occurs
next-occurs [] h = absurd (omega arith)
next-occurs (g ∷ gs) h = let own : nat_eq g g ≡ true = eq-eqb g g refl in rw own (omega arith)

with-other : (f z : ℕ) (n : ℤ) (w : Valuation) → nat_eq z f ≡ false → IsSameAt z w (with_value f n maps.nil w)
with-other f z n w e = record { number = rw e refl; mapping = rw e refl }

apart-below : (z f n : ℕ) → nat_lt z n ≡ false → f < n → nat_eq z f ≡ false
apart-below z f n e lt = cases (nat_eq z f) refl where
  cases : (b : Bool) → nat_eq z f ≡ b → b ≡ false
  cases false is = refl
  cases true is = let h : nat_lt z n ≡ true = ap (λ m. nat_lt m n) (eqb-true z f is) ∙ lt-ltb f n lt in absurd (cc)

not-same : (k f : ℕ) → (k ≡ f → ⊥) → nat_eq k f ≡ false
not-same k f h = cases (nat_eq k f) refl where
  cases : (b : Bool) → nat_eq k f ≡ b → b ≡ false
  cases true e = absurd (h (eqb-true k f e))
  cases false e = refl

lower : (f k : ℕ) → nat_eq f k ≡ false → f < k + 1 → f < k
lower f k e lt = cases (cases_lt f k) where
  cases : (f < k) ⊎ (k ≤ f) → f < k
  cases (inl l) = l
  cases (inr l) = let same : f ≡ k = omega (arith, lt, l) in let h : nat_eq f k ≡ true = eq-eqb f k same in absurd (cc)

clash : (b : Bool) → b ≡ true → b ≡ false → ⊥
clash b p q = let e : true ≡ false = sym p ∙ q in cc

-- the variables below k have their tokens
pub record IsOpen (fs : List Field) (v : Valuation) (begun : Valuation) (k : ℕ) (x : Exchanging) : Type 0 where
  pub values : (f : ℕ) → f < length fs → (is_variable (strategy_at fs f) ≡ false) ⊎ (f < k) → value_at fs (bag_at [] x) x.kept f ≡ Some (blank_value v (strategy_at fs f))
  pub free : (f : ℕ) → f < length fs → (is_variable (strategy_at fs f) ≡ false) ⊎ (k ≤ f) → tokens_of f (bag_at [] x) ≡ []
  pub sound : AreSoundShards fs (bag_at [] x) x.kept
  pub once : (name : ℕ) → holds name (x.hand ++ x.entered) + occurs name x.given ≤ 1
  pub named : AreNamed x.variables (x.hand ++ x.entered)
  pub fields : AreVariables fs x.variables
  pub used : (f : ℕ) → f < k → is_variable (strategy_at fs f) ≡ true → is_some (token_name f x.variables) ≡ true
  pub beyond : (z : ℕ) → nat_lt z (length fs) ≡ false → IsSameAt z begun x.names

module _ (fs : List Field) (ss : List StepTree) (v begun : Valuation) (starts : (f : ℕ) → f < length fs → 1 ≤ starts_in f ss) where
  -- a field that is no variable is passed over
  pass : (k : ℕ) (x : Exchanging) → is_variable (strategy_at fs k) ≡ false → IsOpen fs v begun k x → IsOpen fs v begun (k + 1) x
  pass k x var h = record {
    values = λ f lt c. h.values f lt (below f (nat_eq f k) refl c);
    free = λ f lt c. h.free f lt (above f c);
    sound = h.sound;
    once = h.once;
    named = h.named;
    fields = h.fields;
    used = λ f lt is. used-cases f lt is (nat_eq f k) refl;
    beyond = h.beyond;
  } where
    below : (f : ℕ) (b : Bool) → nat_eq f k ≡ b → (is_variable (strategy_at fs f) ≡ false) ⊎ (f < k + 1) → (is_variable (strategy_at fs f) ≡ false) ⊎ (f < k)
    below f b e (inl c) = inl c
    below f true e (inr c) = inl (ap (λ n. is_variable (strategy_at fs n)) (eqb-true f k e) ∙ var)
    below f false e (inr c) = inr (lower f k e c)

    above : (f : ℕ) → (is_variable (strategy_at fs f) ≡ false) ⊎ (k + 1 ≤ f) → (is_variable (strategy_at fs f) ≡ false) ⊎ (k ≤ f)
    above f (inl c) = inl c
    above f (inr c) = inr (omega (arith, c))

    used-cases : (f : ℕ) → f < k + 1 → is_variable (strategy_at fs f) ≡ true → (b : Bool) → nat_eq f k ≡ b → is_some (token_name f x.variables) ≡ true
    used-cases f lt is true e = let n : is_variable (strategy_at fs f) ≡ false = ap (λ n. is_variable (strategy_at fs n)) (eqb-true f k e) ∙ var in absurd (cc)
    used-cases f lt is false e = h.used f (lower f k e lt) is

  abbrev opened : ℕ → Exchanging → Exchanging
  opened k x = knowing k (next_name x.given) (pos 0) (after_giving (record { field = k; key = pos 0; value = pos 0 }) x)

  -- a variable gets its token
  give : (k : ℕ) (x : Exchanging) → k < length fs → is_variable (strategy_at fs k) ≡ true → 1 ≤ length x.given → IsOpen fs v begun k x → IsOpen fs v begun (k + 1) (opened k x)
  unfolding sort_of
  give k x lt var some h =
      let is = variable-only (strategy_at fs k) var in
      let tk : Token = record { field = k; key = pos 0; value = pos 0 } in
      let u = opened k x in
      let name = next_name x.given in
      let part = given-part name tk x.hand x.entered [] in
      let none = h.free k lt (inr (omega arith)) in
      let own = part-own fs x.kept tk (bag_at [] u) (bag_at [] x) k part (eq-eqb k k refl)
      ∙ variable-only-value (strategy_at fs k) v (blank (sort_of (strategy_at fs k))) (tk ∷ tokens_of k (bag_at [] x)) (record_at x.kept k) (tokens_of k x.kept.stored) is
      (ap (λ ts. only_value (tk ∷ ts)) none ∙ ap Some (sym (ap (λ s. num v (blank (sort_of s))) is))) in
      record {
        values = λ f below c. value-cases f below c (nat_eq f k) refl own (λ e. part-other fs x.kept tk (bag_at [] u) (bag_at [] x) f part e);
        free = λ f below c. part-tokens tk (bag_at [] u) (bag_at [] x) f part (away f c) ∙ h.free f below (above f c);
        sound = sound-in fs x.kept tk (bag_at [] u) (bag_at [] x) part
            (inr (lt, subst (λ s. IsTokenOf s tk) (sym is) (record { tokens = refl; keys = λ e. refl; elements = λ e. absurd (cc) })))
            (λ count. let clash : Variable ≡ Count = sym is ∙ count in absurd (cc)) h.sound;
        once = once-given x.hand x.entered x.given tk some h.once;
        named = λ g n e. token-cases g k name n x.variables ((t : Token) × (held_as n (x.hand ++ (x.entered ++ under name tk ∷ [])) ≡ Some t) × (t.field ≡ g)) e
            (λ same at. (tk, subst (λ m. held_as m (x.hand ++ (x.entered ++ under name tk ∷ [])) ≡ Some tk) at (new-held tk), sym same))
            (λ later. named-given x.variables x.hand x.entered (under name tk) h.named g n later);
        fields = λ g n e. token-cases g k name n x.variables ((g < length fs) × (is_variable (strategy_at fs g) ≡ true)) e
            (λ same at. (subst (λ m. m < length fs) (sym same) lt, ap (λ m. is_variable (strategy_at fs m)) same ∙ var))
            (λ later. h.fields g n later);
        used = λ f below is. used-cases f below is (nat_eq f k) refl;
        beyond = λ z e. same-through z begun x.names u.names (h.beyond z e) (with-other k z (pos 0) x.names (apart-below z k (length fs) e lt));
      } where
        value-cases : (f : ℕ) → f < length fs → (is_variable (strategy_at fs f) ≡ false) ⊎ (f < k + 1) → (b : Bool) → nat_eq f k ≡ b → value_at fs (bag_at [] (opened k x)) x.kept k ≡ Some (blank_value v (strategy_at fs k))
            → (nat_eq k f ≡ false → value_at fs (bag_at [] (opened k x)) x.kept f ≡ value_at fs (bag_at [] x) x.kept f) → value_at fs (bag_at [] (opened k x)) x.kept f ≡ Some (blank_value v (strategy_at fs f))
        value-cases f below c true e own other = subst (λ n. value_at fs (bag_at [] (opened k x)) x.kept n ≡ Some (blank_value v (strategy_at fs n))) (sym (eqb-true f k e)) own
        value-cases f below (inl c) false e own other = other (nat_eq-turned k f ∙ e) ∙ h.values f below (inl c)
        value-cases f below (inr c) false e own other = other (nat_eq-turned k f ∙ e) ∙ h.values f below (inr (lower f k e c))

        away : (f : ℕ) → (is_variable (strategy_at fs f) ≡ false) ⊎ (k + 1 ≤ f) → nat_eq k f ≡ false
        away f (inl c) = not-same k f (λ same. let e : is_variable (strategy_at fs f) ≡ true = ap (λ n. is_variable (strategy_at fs n)) (sym same) ∙ var in clash (is_variable (strategy_at fs f)) e c)
        away f (inr c) = not-same k f (λ same. omega (arith, c, same))

        above : (f : ℕ) → (is_variable (strategy_at fs f) ≡ false) ⊎ (k + 1 ≤ f) → (is_variable (strategy_at fs f) ≡ false) ⊎ (k ≤ f)
        above f (inl c) = inl c
        above f (inr c) = inr (omega (arith, c))

        new-held : (tk : Token) → held_as (next_name x.given) (x.hand ++ (x.entered ++ under (next_name x.given) tk ∷ [])) ≡ Some tk
        new-held tk =
            let a = h.once (next_name x.given) in
            let b = next-occurs x.given some in
            ap (held_as (next_name x.given)) (sym (append_assoc x.hand x.entered (under (next_name x.given) tk ∷ []))) ∙ held_as-last (next_name x.given) (x.hand ++ x.entered) tk (omega (arith, a, b))

        used-cases : (f : ℕ) → f < k + 1 → is_variable (strategy_at fs f) ≡ true → (b : Bool) → nat_eq f k ≡ b → is_some (token_name f ((k, next_name x.given) ∷ x.variables)) ≡ true
        used-cases f below is true e = subst (λ n. is_some (token_name n ((k, next_name x.given) ∷ x.variables)) ≡ true) (sym (eqb-true f k e)) (token-here k (next_name x.given) x.variables)
        used-cases f below is false e = token-more f k (next_name x.given) x.variables (h.used f (lower f k e below) is)

  slot-there : (k : ℕ) → k < length fs → is_variable (strategy_at fs k) ≡ true → is_some (field_slot fs ss k) ≡ true
  slot-there k lt var = variable-slotted fs ss k var (first-left (earliest (given_by k) ss) (first (earliest (changed_by k) ss) (earliest (read_by fs k) ss)) (earliest-given k ss (starts k lt)))

  not-variable : (k : ℕ) → k < length fs → field_slot fs ss k ≡ None → is_variable (strategy_at fs k) ≡ false
  not-variable k lt none = cases (is_variable (strategy_at fs k)) refl where
    cases : (b : Bool) → is_variable (strategy_at fs k) ≡ b → b ≡ false
    cases false e = refl
    cases true e = let h = slot-there k lt e in let n : is_some (field_slot fs ss k) ≡ false = ap is_some none in absurd (cc)

  pub record IsOpened (more : ℕ) (y : Exchanging) : Type 0 where
    pub all : IsOpen fs v begun (length fs) y
    pub enough : more ≤ length y.given

  open-next : (more k : ℕ) (ns : List ℕ) (x y : Exchanging) (o : Option SlotTree) → field_slot fs ss k ≡ o → k < length fs → use_variables (cons_option o (filter_map (field_slot fs ss) ns)) x ≡ Ok y
      → new_slots (cons_option o (filter_map (field_slot fs ss) ns)) + more ≤ length x.given → IsOpen fs v begun k x
      → ((z : Exchanging) → use_variables (filter_map (field_slot fs ss) ns) z ≡ Ok y → new_slots (filter_map (field_slot fs ss) ns) + more ≤ length z.given → IsOpen fs v begun (k + 1) z → IsOpened more y) → IsOpened more y
  unfolding slot_gives
  open-next more k ns x y None slot lt e enough h later = later x e enough (pass k x (not-variable k lt slot) h)
  open-next more k ns x y (Some sl) slot lt e enough h later =
      let a = bind-ok (use_variable sl.field sl.role x) (use_variables (filter_map (field_slot fs ss) ns)) y e in
      let g = given-slot fs ss k sl (starts k lt) slot in
      let is : opened k x ≡ a.0 = ok_is (opened k x) a.0 (ap (λ n. use_variable n Given x) (sym g.0) ∙ ap (λ r. use_variable sl.field r x) (sym g.1) ∙ a.1) in
      let one : slot_gives (Some sl) ≡ 1 = ap (λ r. cond (names_new r) 1 0) g.1 in
      let count = option-slots (Some sl) (filter_map (field_slot fs ss) ns) in
      let some : 1 ≤ length x.given = omega (arith, one, count, enough) in
      let length_is : length a.0.given ≡ length (later_names x.given) = ap (λ (w : Exchanging). length w.given) (sym is) in
      let fewer = later-length x.given some in
      later a.0 a.2 (omega (arith, one, count, enough, length_is, fewer)) (subst (λ w. IsOpen fs v begun (k + 1) w) is (give k x lt (field-slot fs ss k sl slot).0 some h))

  pub opening : (more n k : ℕ) (x y : Exchanging) → k + n ≡ length fs → use_variables (filter_map (field_slot fs ss) (range_with_len k n)) x ≡ Ok y
      → new_slots (filter_map (field_slot fs ss) (range_with_len k n)) + more ≤ length x.given → IsOpen fs v begun k x → IsOpened more y
  opening more zero k x y at e enough h =
      let end : k ≡ length fs = omega (arith, at) in
      let is : x ≡ y = ok_is x y e in
      record { all = subst (λ w. IsOpen fs v begun (length fs) w) is (subst (λ n. IsOpen fs v begun n x) end h); enough = subst (λ (w : Exchanging). more ≤ length w.given) is (omega (arith, enough)) }
  opening more (suc n) k x y at e enough h =
      open-next more k (range_with_len (k + 1) n) x y (field_slot fs ss k) refl (omega (arith, at)) e enough h (λ z d some g. opening more n (k + 1) z y (omega (arith, at)) d some g)
