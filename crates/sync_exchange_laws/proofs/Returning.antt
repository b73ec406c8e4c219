-- An exchange that can go along a valuation succeeds.
use Rattle.std.proofs.Common.{◌≡◌, ℕ, ◌<◌, ◌≤◌, ℤ, Bool, true, false, ◌&&◌, ◌||◌, List, [], ◌∷◌, ◌++◌, length, map, get_or, append_assoc, append-nil, length-append, Option, Some, None, is_some, Ok, inl, inr, ◌⊎◌, refl, sym, ap, subst, ◌∙◌, arith, if◌then◌else◌, nat_eq, nat_lt}
use Rattle.std.specs.List.{AllByRecursion, cons_option, range_with_len}
use Rattle.std.specs.Ordering.{int_eq}
use Rattle.std.specs.Cmp.{int_eq_equiv}
use Rattle.std.proofs.lemmas.Bool.{eqb-true, eq-eqb, le-ltb, cases_lt, ltb-false}
use Rattle.std.proofs.lemmas.List.Folds.{list_any-append}
use Rattle.std.proofs.lemmas.List.Elements.{filter_map-append}
use Rattle.sync_base.specs.Outcome.{◌>>=◌}
use Rattle.sync_terms.specs.Trees.{Name}
use Rattle.sync_terms.specs.Maps as maps
use Rattle.sync_terms.specs.Values.{Valuation, num, truth}
use Rattle.sync_machine.specs.declared.fields.Field.{Field}
use Rattle.sync_base.specs.declared.strategies.Strategy.{Strategy}
use Rattle.sync_base.specs.declared.strategies.Strategy.TheVariants.{Variable}
use Rattle.sync_machine.specs.Machines.{PatternTree, Bind, Term, PlaceTree, ActTree, StepTree, OperationTree, MachineTree}
use Rattle.sync_machine.specs.Machines as acts
use Rattle.sync_machine.specs.Named.{own_names}
use Rattle.sync_machine.specs.Naming.{bound_by, bound_names, is_in, IsTextName, BindsTextName}
use Rattle.sync_machine.specs.Statements.{or_one, binds, bound_in, field_of}
use Rattle.sync_machine.specs.States.{Value, Sort, Numbers, State, IsInit, AreGiven, sort_of, strategy_at, strategy_of}
use Rattle.sync_rules.specs.Locality.{place_names_only}
use Rattle.sync_rules.specs.Plain.{is_kept}
use Rattle.sync_rules.specs.Shapes.{fits}
use Rattle.sync_rules.specs.Slots.{field_slot}
use Rattle.sync_join.specs.declared.tokens.Token.{Token}
use Rattle.sync_join.specs.Shards.{Kept, perm, AreSoundShards}
use Rattle.sync_join.specs.Join.{number_of, join_of}
use Rattle.sync_exchange.specs.declared.hands.Held.{Held}
use Rattle.sync_exchange.specs.declared.hands.XStop.TheVariants.{Width, RequireFalse}
use Rattle.sync_exchange.specs.Exchange.{Exchanging, Exchanged, Answer, unless, named, is_at_place, key_at, amount_at, is_asked, place_fits, value_fits, new_value, stored_at, withdrawn, permission, token_of, token_name, argument, asked_token, revaluing, after_reading, after_taking, after_seeing, after_giving, binding, storing, raising, started, updated, use_variables, variable_slots, beginning, does, does_all, exchange_of, outcome, tokens_in}
use Rattle.sync_exchange.specs.Projection.{AreNames}
use Rattle.sync_exchange.proofs.Asking.{both-true}
use Rattle.sync_exchange.proofs.Terms.{Same, truth-same, value-same, and_left, and_right}
use Rattle.sync_exchange.proofs.Passing.{either}
use Rattle.sync_exchange.proofs.Strategies.{some_is}
use Rattle.sync_exchange.proofs.Lawful.{IsLawful, reads_only, place-key, place-amount}
use Rattle.sync_exchange.proofs.OneStrategy.{nothing-bound}
use Rattle.sync_exchange.proofs.Standing.{binding-own}
use Rattle.sync_exchange.proofs.Going.{IsSameAt, is_known_by, AreLawful, known-in, fresh-beyond, names-kept}
use Rattle.sync_exchange.proofs.Answering.{used-bind-nothing}
use Rattle.sync_exchange.proofs.Rules.{IsRegular, regular, are-lawful}
use Rattle.sync_exchange.proofs.Using.{HasNoInit, AreKnown, using}
use Rattle.sync_exchange.proofs.Widening.{unbounded, place-fit, term-fit, form-fit}
use Rattle.sync_exchange.proofs.Whole.{nothing, AreApart, first-name, params-apart, are-given}
use Rattle.sync_exchange.proofs.Beginning.{same-outside, Trust, trust, no-inits, start-nil, start-stands, start-same, all-one, text-outside}
use Rattle.sync_exchange.proofs.Transitions.{below-length, at-number}
use Rattle.sync_exchange_laws.specs.Conditions.{valuation_at}
use Rattle.sync_exchange_laws.specs.Along.{ExchangesFollow, key_under, value_under, IsThere, left_under, AreThere, all_left, begun_under, IsAlong}
use Rattle.sync_exchange_laws.proofs.Bringing.{passed, token-asked, object-asked, is-asked-cases}
use Rattle.sync_exchange_laws.proofs.Variables.{variables-used}
use Rattle.sync_exchange_laws.proofs.Ending.{or-neither, first-nil, start-number}
use Rattle.sync_exchange_laws.proofs.Testing.{argument-front}

abbrev succeeded : Exchanging → Answer
succeeded y = Ok y

-- ---- one statement

module _ (fs : List Field) (v : Valuation) (q : ℕ → Bool) (x : Exchanging) (same : Same q x.names v) where
  -- the token that is there is the one that is asked for
  asks-token : (f : ℕ) (p : PlaceTree) (next : Token → Exchanging) → place_names_only q p ≡ true
      → named x ≡ Ok (token_of f (key_under v p) (value_under v p))
      → asked_token unbounded f p x next ≡ Ok (next (token_of f (key_under v p) (value_under v p)))
  asks-token f p next reads there =
      let k = key_under v p in
      let n = value_under v p in
      let place : is_at_place f (key_at p x) (token_of f k n) ≡ true =
      both-true (nat_eq f f) (int_eq (key_at p x) k) (eq-eqb f f refl)
      (ap (λ i. int_eq i k) (place-key q v p x same reads) ∙ int_eq_equiv.refl k) in
      let value : is_asked p n x ≡ true =
      is-asked-cases p.key p.value n x (λ none. sym (place-amount q v p x same reads none)) in
      token-asked f p x next (token_of f k n) there
      (both-true (is_at_place f (key_at p x) (token_of f k n)) (is_asked p n x) place value)

  pub does-under : (line : ℕ) (a : ActTree) → IsLawful fs q a → IsThere v a x
      → does unbounded fs (record { act = a; line = line }) x ≡ Ok (left_under fs v a x)
  unfolding does reads_only fits field_of
  does-under line (acts.Require form) lawful there =
      ap (λ b. unless Width b (unless (RequireFalse line) (truth x.names form) (Ok x))) (form-fit x.names form)
      ∙ passed (RequireFalse line) (truth x.names form) x (truth-same q x.names v same form lawful.reads ∙ there)
  does-under line (acts.Assert form) lawful there = refl
  does-under line (acts.HaveVariable f) lawful there = refl
  does-under line (acts.Init f t) lawful there =
      passed Width (value_fits unbounded fs f t x) (started (strategy_at fs f) f (new_value fs f t x) x)
      (term-fit (sort_of (strategy_at fs f)) t x)
      ∙ ap (λ (w : Value). succeeded (started (strategy_at fs f) f w x))
      (value-same q x.names v same (sort_of (strategy_at fs f)) t lawful.reads)
  does-under line (acts.Update f t) lawful there =
      passed Width (value_fits unbounded fs f t x) (updated (strategy_at fs f) f (new_value fs f t x) x)
      (term-fit (sort_of (strategy_at fs f)) t x)
      ∙ ap (λ (w : Value). succeeded (updated (strategy_at fs f) f w x))
      (value-same q x.names v same (sort_of (strategy_at fs f)) t lawful.reads)
  does-under line (acts.Remove f p) lawful there =
      asks-token f p (λ (t : Token). binding (binds p) t.value (after_taking x)) lawful.reads there
  does-under line (acts.Have f p) lawful there =
      asks-token f p (λ (t : Token). binding (binds p) t.value (after_reading x)) lawful.reads there
  does-under line (acts.Add f p) lawful there =
      let key = place-key q v p x same lawful.reads in
      let value = place-amount q v p x same lawful.reads (nothing-bound (strategy_at fs f) p lawful.fit) in
      passed Width (place_fits unbounded p x)
      (raising fs f (key_at p x) (amount_at p x) (after_giving (token_of f (key_at p x) (amount_at p x)) x))
      (place-fit p x)
      ∙ ap (λ (n : ℤ). succeeded (raising fs f (key_at p x) n (after_giving (token_of f (key_at p x) n) x))) value
      ∙ ap (λ (k : ℤ). succeeded (raising fs f k (value_under v p) (after_giving (token_of f k (value_under v p)) x)))
      key
  does-under line (acts.Deposit f p) lawful there =
      let key = place-key q v p x same lawful.reads in
      let value = place-amount q v p x same lawful.reads (nothing-bound (strategy_at fs f) p lawful.fit) in
      asks-token perm p (λ (t : Token). storing (x.kept.stored ++ token_of f (key_at p x) (amount_at p x) ∷ []) (after_taking x)) lawful.reads there
      ∙ ap (λ (n : ℤ). succeeded (storing (x.kept.stored ++ token_of f (key_at p x) n ∷ []) (after_taking x))) value
      ∙ ap (λ (k : ℤ). succeeded (storing (x.kept.stored ++ token_of f k (value_under v p) ∷ []) (after_taking x))) key
  does-under line (acts.Withdraw f p) lawful there =
      let key = place-key q v p x same lawful.reads in
      let left : ℤ → ℤ → Exchanging = λ k n. binding (binds p) n (storing (withdrawn f k x.kept.stored) (after_giving (permission k n) x)) in
      object-asked f p x (value_under v p) (left (key_at p x)) (ap (λ (k : ℤ). stored_at f k x.kept.stored) key ∙ there)
      (is-asked-cases p.key p.value (value_under v p) x (λ none. sym (place-amount q v p x same lawful.reads none)))
      ∙ ap (λ (k : ℤ). succeeded (left k (value_under v p))) key
  does-under line (acts.Guard f p) lawful there =
      let key = place-key q v p x same lawful.reads in
      object-asked f p x (value_under v p) (λ (n : ℤ). binding (binds p) n (after_seeing x))
      (ap (λ (k : ℤ). stored_at f k x.kept.stored) key ∙ there)
      (is-asked-cases p.key p.value (value_under v p) x (λ none. sym (place-amount q v p x same lawful.reads none)))

-- ---- what a statement binds has its value under the valuation

value-bound : (v : Valuation) (o : Option PatternTree) (z : ℕ) → bound_in o ≡ Some z → num v (or_one o) ≡ v.number z
value-bound v None z e = absurd (cc)
value-bound v (Some (Term t)) z e = absurd (cc)
value-bound v (Some (Bind y)) z e = ap v.number (some_is y z e)

binding-nil : (o : Option ℕ) (n : ℤ) (x : Exchanging) (z : ℕ) → o ≡ Some z → (binding o n x).names.mapping z ≡ maps.nil
binding-nil None n x z e = absurd (cc)
binding-nil (Some y) n x z e = rw (eq-eqb z y (sym (some_is y z e))) refl

-- a name that stands for its value, and for no map
pub record IsBound (v : Valuation) (z : ℕ) (x : Exchanging) : Type 0 where
  pub number : x.names.number z ≡ v.number z
  pub mapping : x.names.mapping z ≡ maps.nil

place-bound : (v : Valuation) (p : PlaceTree) (z : ℕ) (x : Exchanging) → binds p ≡ Some z
    → IsBound v z (binding (binds p) (value_under v p) x)
place-bound v p z x e = record {
  number = binding-own (binds p) (value_under v p) x z e ∙ value-bound v p.value z e;
  mapping = binding-nil (binds p) (value_under v p) x z e;
}

left-bound : (fs : List Field) (v : Valuation) (a : ActTree) (x : Exchanging) (z : ℕ)
    → fits (strategy_of fs a) a ≡ true → bound_by a ≡ Some z → IsBound v z (left_under fs v a x)
unfolding bound_by fits field_of
left-bound fs v (acts.Remove f p) x z fit e = place-bound v p z (after_taking x) e
left-bound fs v (acts.Have f p) x z fit e = place-bound v p z (after_reading x) e
left-bound fs v (acts.Withdraw f p) x z fit e =
    place-bound v p z (storing (withdrawn f (key_under v p) x.kept.stored) (after_giving (permission (key_under v p) (value_under v p)) x)) e
left-bound fs v (acts.Guard f p) x z fit e = place-bound v p z (after_seeing x) e
left-bound fs v (acts.Add f p) x z fit e =
    let none = nothing-bound (strategy_at fs f) p fit in absurd (let no = sym none ∙ e in cc)
left-bound fs v (acts.Deposit f p) x z fit e =
    let none = nothing-bound (strategy_at fs f) p fit in absurd (let no = sym none ∙ e in cc)
left-bound fs v (acts.Init f t) x z fit e = absurd (cc)
left-bound fs v (acts.Require form) x z fit e = absurd (cc)
left-bound fs v (acts.Assert form) x z fit e = absurd (cc)
left-bound fs v (acts.Update f t) x z fit e = absurd (cc)
left-bound fs v (acts.HaveVariable f) x z fit e = absurd (cc)

-- ---- which symbols are known behind a statement

pub known-cases : (b c : Bool) (s : Sort) → is_some (if b then Some s else (if c then Some Numbers else None)) ≡ true
    → (b ≡ true) ⊎ (c ≡ true)
known-cases true c s e = inl refl
known-cases false true s e = inr refl
known-cases false false s e = absurd (cc)

field-known : (fs : List Field) (names : List ℕ) (z : ℕ) → nat_lt z (length fs) ≡ true → is_known_by fs names z ≡ true
field-known fs names z is = rw is refl

bound-is : (o : Option ℕ) (z : ℕ) → is_in z (cons_option o []) ≡ true → o ≡ Some z
bound-is None z e = absurd (cc)
bound-is (Some y) z e = cases (nat_eq z y) refl e where
  cases : (b : Bool) → nat_eq z y ≡ b → (b || false) ≡ true → Some y ≡ Some z
  cases true is h = ap Some (sym (eqb-true z y is))
  cases false is h = absurd (cc)

or-else : (b c : Bool) → (b || c) ≡ true → (b ≡ true) ⊎ (c ≡ true)
or-else true c e = inl refl
or-else false c e = inr e

known-behind : (fs : List Field) (params : List ℕ) (before : List StepTree) (s : StepTree) (z : ℕ)
    → is_known_by fs (params ++ bound_names (before ++ s ∷ [])) z ≡ true
    → (is_known_by fs (params ++ bound_names before) z ≡ true) ⊎ (bound_by s.act ≡ Some z)
known-behind fs params before s z e =
    on (known-cases (nat_lt z (length fs)) (is_in z (params ++ bound_names (before ++ s ∷ []))) (sort_of (strategy_at fs z)) e) where
      parts : is_in z (params ++ bound_names (before ++ s ∷ [])) ≡ (is_in z (params ++ bound_names before) || is_in z (cons_option (bound_by s.act) []))
      parts =
          ap (is_in z) (ap (λ ys. params ++ ys) (filter_map-append (λ (t : StepTree). bound_by t.act) before (s ∷ [])) ∙ sym (append_assoc params (bound_names before) (bound_names (s ∷ []))))
          ∙ list_any-append (nat_eq z) (params ++ bound_names before) (bound_names (s ∷ []))

      later : (is_in z (params ++ bound_names before) ≡ true) ⊎ (is_in z (cons_option (bound_by s.act) []) ≡ true)
          → (is_known_by fs (params ++ bound_names before) z ≡ true) ⊎ (bound_by s.act ≡ Some z)
      later (inl h) = inl (known-in fs (params ++ bound_names before) z h)
      later (inr h) = inr (bound-is (bound_by s.act) z h)

      on : (nat_lt z (length fs) ≡ true) ⊎ (is_in z (params ++ bound_names (before ++ s ∷ [])) ≡ true)
          → (is_known_by fs (params ++ bound_names before) z ≡ true) ⊎ (bound_by s.act ≡ Some z)
      on (inl h) = inl (field-known fs (params ++ bound_names before) z h)
      on (inr h) = later (or-else _ _ (sym parts ∙ h))

-- ---- all statements

module _ (fs : List Field) (trusted : ℕ → Bool) (params : List ℕ) (v : Valuation)
    (nil : (z : ℕ) → nat_lt z (length fs) ≡ false → v.mapping z ≡ maps.nil) where
  abbrev test_of : List StepTree → ℕ → Bool
  test_of before z = trusted z && is_known_by fs (params ++ bound_names before) z

  next-same : (before : List StepTree) (s : StepTree) (x : Exchanging) → IsLawful fs (test_of before) s.act
      → ((z : ℕ) → bound_by s.act ≡ Some z → is_known_by fs (params ++ bound_names before) z ≡ false)
      → does unbounded fs s x ≡ Ok (left_under fs v s.act x) → Same (test_of before) x.names v
      → Same (test_of (before ++ s ∷ [])) (left_under fs v s.act x).names v
  next-same before s x lawful fresh did same = record { number = λ z e. (at z e).0; mapping = λ z e. (at z e).1 } where
    at : (z : ℕ) → test_of (before ++ s ∷ []) z ≡ true → ((left_under fs v s.act x).names.number z ≡ v.number z)
        × ((left_under fs v s.act x).names.mapping z ≡ v.mapping z)
    at z e = on (known-behind fs params before s z (and_right (trusted z) _ e)) where
      on : (is_known_by fs (params ++ bound_names before) z ≡ true) ⊎ (bound_by s.act ≡ Some z)
          → ((left_under fs v s.act x).names.number z ≡ v.number z)
          × ((left_under fs v s.act x).names.mapping z ≡ v.mapping z)
      on (inl known) =
          let kept =
          names-kept unbounded fs x (left_under fs v s.act x) z s.line s.act did
          (λ b. let new = fresh z b in absurd (let no = sym known ∙ new in cc)) in
          let test : test_of before z ≡ true =
          both-true (trusted z) (is_known_by fs (params ++ bound_names before) z) (and_left _ _ e) known in
          (sym kept.number ∙ same.number z test, sym kept.mapping ∙ same.mapping z test)
      on (inr bound) =
          let b = left-bound fs v s.act x z lawful.fit bound in
          (b.number, b.mapping ∙ sym (nil z (fresh-beyond fs (params ++ bound_names before) z (fresh z bound))))

  pub all-under : (before ss : List StepTree) (x : Exchanging) → AreLawful fs trusted params before ss
      → AreThere fs v ss x → Same (test_of before) x.names v
      → does_all unbounded fs ss x ≡ Ok (all_left fs v ss x)
  all-under before [] x laws there same = refl
  all-under before (s ∷ ss) x laws there same =
      let one = does-under fs v (test_of before) x same s.line s.act laws.0 there.0 in
      let next = next-same before s x laws.0 laws.1 one same in
      ap (λ r. r >>= does_all unbounded fs ss) one
      ∙ all-under (before ++ s ∷ []) ss (left_under fs v s.act x) laws.2 there.1 next

-- ---- the values that are answered

-- what is bound is under the valuation
pub record Bears (o : List ℕ) (v : Valuation) (x y : Exchanging) : Type 0 where
  pub values : List ℤ
  pub bound : y.bound ≡ x.bound ++ values
  pub given : AreGiven o values v

bears-nothing : (v : Valuation) (x y : Exchanging) → y.bound ≡ x.bound → Bears [] v x y
bears-nothing v x y e = record { values = []; bound = e ∙ sym (append-nil x.bound); given = tt }

bears-binding : (v : Valuation) (o : Option ℕ) (n : ℤ) (x u : Exchanging) → u.bound ≡ x.bound
    → ((z : ℕ) → o ≡ Some z → n ≡ v.number z) → Bears (cons_option o []) v x (binding o n u)
bears-binding v None n x u e h = bears-nothing v x u e
bears-binding v (Some z) n x u e h =
    record { values = n ∷ []; bound = ap (λ (bs : List ℤ). bs ++ n ∷ []) e; given = (sym (h z refl), tt) }

bears-place : (v : Valuation) (p : PlaceTree) (x u : Exchanging) → u.bound ≡ x.bound
    → Bears (cons_option (binds p) []) v x (binding (binds p) (value_under v p) u)
bears-place v p x u e = bears-binding v (binds p) (value_under v p) x u e (λ z b. value-bound v p.value z b)

revaluing-bound : (f : ℕ) (n : ℤ) (x : Exchanging) → (revaluing f n x).bound ≡ x.bound
revaluing-bound f n x =
    either (token_name f x.variables) ((revaluing f n x).bound ≡ x.bound) (λ none. rw none refl)
    (λ name some. rw some refl)

started-bound : (s : Strategy) (f : ℕ) (w : Value) (x : Exchanging) → (started s f w x).bound ≡ x.bound
started-bound Variable f w x = revaluing-bound f (number_of w) x
started-bound s f w x = refl

updated-bound : (s : Strategy) (f : ℕ) (w : Value) (x : Exchanging) → (updated s f w x).bound ≡ x.bound
updated-bound Variable f w x = revaluing-bound f (number_of w) x
updated-bound s f w x = refl

left-bears : (fs : List Field) (v : Valuation) (a : ActTree) (x : Exchanging) → fits (strategy_of fs a) a ≡ true
    → Bears (cons_option (bound_by a) []) v x (left_under fs v a x)
unfolding bound_by fits field_of
left-bears fs v (acts.Remove f p) x fit = bears-place v p x (after_taking x) refl
left-bears fs v (acts.Have f p) x fit = bears-place v p x (after_reading x) refl
left-bears fs v (acts.Withdraw f p) x fit =
    bears-place v p x (storing (withdrawn f (key_under v p) x.kept.stored) (after_giving (permission (key_under v p) (value_under v p)) x)) refl
left-bears fs v (acts.Guard f p) x fit = bears-place v p x (after_seeing x) refl
left-bears fs v (acts.Add f p) x fit =
    subst (λ (o : Option ℕ). Bears (cons_option o []) v x (left_under fs v (acts.Add f p) x))
    (sym (nothing-bound (strategy_at fs f) p fit)) (bears-nothing v x _ refl)
left-bears fs v (acts.Deposit f p) x fit =
    subst (λ (o : Option ℕ). Bears (cons_option o []) v x (left_under fs v (acts.Deposit f p) x))
    (sym (nothing-bound (strategy_at fs f) p fit)) (bears-nothing v x _ refl)
left-bears fs v (acts.Init f t) x fit = bears-nothing v x _ (started-bound (strategy_at fs f) f _ x)
left-bears fs v (acts.Update f t) x fit = bears-nothing v x _ (updated-bound (strategy_at fs f) f _ x)
left-bears fs v (acts.Require form) x fit = bears-nothing v x _ refl
left-bears fs v (acts.Assert form) x fit = bears-nothing v x _ refl
left-bears fs v (acts.HaveVariable f) x fit = bears-nothing v x _ refl

given-cons : (o : Option ℕ) (ps : List ℕ) (ns ms : List ℤ) (v : Valuation) → AreGiven (cons_option o []) ns v
    → AreGiven ps ms v → AreGiven (cons_option o ps) (ns ++ ms) v
given-cons None ps [] ms v a b = b
given-cons None ps (n ∷ ns) ms v a b = absurd a
given-cons (Some z) ps [] ms v a b = absurd a
given-cons (Some z) ps (n ∷ []) ms v a b = (a.0, b)
given-cons (Some z) ps (n ∷ m ∷ ns) ms v a b = absurd a.1

pub all-bear : (fs : List Field) (trusted : ℕ → Bool) (params : List ℕ) (v : Valuation) (before ss : List StepTree) (x : Exchanging) → AreLawful fs trusted params before ss
    → Bears (bound_names ss) v x (all_left fs v ss x)
all-bear fs trusted params v before [] x laws = bears-nothing v x x refl
all-bear fs trusted params v before (s ∷ ss) x laws =
    let one = left-bears fs v s.act x laws.0.fit in
    let rest = all-bear fs trusted params v (before ++ s ∷ []) ss (left_under fs v s.act x) laws.2 in
    record {
      values = one.values ++ rest.values;
      bound = rest.bound ∙ ap (λ (bs : List ℤ). bs ++ rest.values) one.bound
          ∙ append_assoc x.bound one.values rest.values;
      given = given-cons (bound_by s.act) (bound_names ss) one.values rest.values v one.given rest.given;
    }

-- two lists of values of the same names are the same
given-same : (ps : List ℕ) (ns ms : List ℤ) (v : Valuation) → AreGiven ps ns v → AreGiven ps ms v → ns ≡ ms
given-same [] [] [] v a b = refl
given-same [] [] (m ∷ ms) v a b = absurd b
given-same [] (n ∷ ns) ms v a b = absurd a
given-same (p ∷ ps) [] ms v a b = absurd a
given-same (p ∷ ps) (n ∷ ns) [] v a b = absurd b
given-same (p ∷ ps) (n ∷ ns) (m ∷ ms) v a b =
    ap (λ (i : ℤ). i ∷ ns) (sym a.0 ∙ b.0) ∙ ap (λ (is : List ℤ). m ∷ is) (given-same ps ns ms v a.1 b.1)

-- ---- no name of an operation stands twice

all-more : (P : ℕ → Type 0) (xs : List ℕ) (z : ℕ) → AllByRecursion P xs → P z → AllByRecursion P (xs ++ z ∷ [])
all-more P [] z a p = (p, tt)
all-more P (x ∷ xs) z a p = (a.0, all-more P xs z a.1 p)

apart-more : (xs : List ℕ) (z : ℕ) → AreApart xs → is_in z xs ≡ false → AreApart (xs ++ z ∷ [])
apart-more [] z a e = (tt, tt)
apart-more (x ∷ xs) z a e =
    let parts = or-neither (nat_eq z x) (is_in z xs) e in
    (all-more (λ r. nat_eq r x ≡ false) xs z a.0 parts.0, apart-more xs z a.1 parts.1)

apart-option : (names : List ℕ) (o : Option ℕ) → AreApart names → ((z : ℕ) → o ≡ Some z → is_in z names ≡ false)
    → AreApart (names ++ cons_option o [])
apart-option names None a h = subst AreApart (sym (append-nil names)) a
apart-option names (Some z) a h = apart-more names z a (h z refl)

unknown-free : (fs : List Field) (names : List ℕ) (z : ℕ) → is_known_by fs names z ≡ false → is_in z names ≡ false
unknown-free fs names z e = cases (is_in z names) refl where
  cases : (b : Bool) → is_in z names ≡ b → b ≡ false
  cases false is = refl
  cases true is = absurd (let no = sym (known-in fs names z is) ∙ e in cc)

names-apart : (fs : List Field) (trusted : ℕ → Bool) (params : List ℕ) (before ss : List StepTree)
    → AreLawful fs trusted params before ss → AreApart (params ++ bound_names before)
    → AreApart (params ++ bound_names (before ++ ss))
names-apart fs trusted params before [] laws a =
    subst (λ (ss : List StepTree). AreApart (params ++ bound_names ss)) (sym (append-nil before)) a
names-apart fs trusted params before (s ∷ ss) laws a =
    let names : params ++ bound_names (before ++ s ∷ []) ≡ (params ++ bound_names before) ++ cons_option (bound_by s.act) [] =
    ap (λ (ys : List ℕ). params ++ ys) (filter_map-append (λ (t : StepTree). bound_by t.act) before (s ∷ []))
    ∙ sym (append_assoc params (bound_names before) (bound_names (s ∷ []))) in
    let next : AreApart (params ++ bound_names (before ++ s ∷ [])) =
    subst AreApart (sym names)
    (apart-option (params ++ bound_names before) (bound_by s.act) a (λ z b. unknown-free fs (params ++ bound_names before) z (laws.1 z b))) in
    subst (λ (xs : List StepTree). AreApart (params ++ bound_names xs)) (append_assoc before (s ∷ []) ss)
    (names-apart fs trusted params (before ++ s ∷ []) ss laws.2 next)

text-names : (ss : List StepTree) → AllByRecursion (λ (s : StepTree). BindsTextName (bound_by s.act)) ss
    → AllByRecursion IsTextName (bound_names ss)
text-names [] a = tt
text-names (s ∷ ss) a = one (bound_by s.act) (bound_names ss) a.0 (text-names ss a.1) where
  one : (o : Option ℕ) (ps : List ℕ) → BindsTextName o → AllByRecursion IsTextName ps
      → AllByRecursion IsTextName (cons_option o ps)
  one None ps b c = c
  one (Some z) ps b c = (b, c)

all-joined : (P : ℕ → Type 0) (xs ys : List ℕ) → AllByRecursion P xs → AllByRecursion P ys → AllByRecursion P (xs ++ ys)
all-joined P [] ys a b = b
all-joined P (x ∷ xs) ys a b = (a.0, all-joined P xs ys a.1 b)

given-behind : (ps qs : List ℕ) (ns ms : List ℤ) (v : Valuation) → length ns ≡ length ps
    → AreGiven (ps ++ qs) (ns ++ ms) v → AreGiven qs ms v
given-behind [] qs [] ms v long h = h
given-behind [] qs (n ∷ ns) ms v long h = absurd (omega arith)
given-behind (p ∷ ps) qs [] ms v long h = absurd (omega arith)
given-behind (p ∷ ps) qs (n ∷ ns) ms v long h = given-behind ps qs ns ms v (omega arith) h.1

-- ---- the names behind the slots of the variables

module _ (m : MachineTree) (o : OperationTree) (args : List ℤ) (tokens given : List ℕ) (hand : List Held)
    (others : List Token) (kept : Kept) (s whole : State)
    (joined : join_of m.fields (tokens_in hand ++ others) kept ≡ Some s)
    (sound : AreSoundShards m.fields (tokens_in hand ++ others) kept)
    (other : IsInit o → ⊥) (names : AreNames m.fields o tokens given hand) (rules : IsRegular m.fields o)
    (t : Trust m.fields o s whole) (begun : Exchanging)
    (first : use_variables (variable_slots m.fields o) (beginning m.fields o args tokens given whole hand kept) ≡ Ok begun)
    (long : length args ≡ length o.params) (bound : List ℤ) where
  abbrev start : Exchanging
  start = beginning m.fields o args tokens given whole hand kept

  abbrev beyond_fields : Valuation
  beyond_fields = record { number = argument (own_names o) (args ++ bound); mapping = λ z. maps.nil }

  abbrev v : Valuation
  v = valuation_at m.fields s o args bound

  abbrev none : HasNoInit o.steps
  none = no-inits m.fields o.mode [] o.steps other rules.rules

  begins : AreKnown m.fields v others o.steps none (map Name (range_with_len 0 (length m.fields))) (first-name m.fields)
      (start-nil m.fields o args tokens given hand others kept s whole joined sound beyond_fields)
      (range_with_len 0 (length m.fields)) start begun
  begins = using m.fields v others o.steps none (map Name (range_with_len 0 (length m.fields))) (first-name m.fields)
      (start-nil m.fields o args tokens given hand others kept s whole joined sound beyond_fields)
      (range_with_len 0 (length m.fields)) start begun (below-length (length m.fields)) first
      (start-stands m.fields o args tokens given hand others kept s whole joined sound beyond_fields names)

  pub learned : AllByRecursion (λ (f : ℕ). is_some (field_slot m.fields o.steps f) ≡ true → begun.names.number f ≡ v.number f) (range_with_len 0 (length m.fields))
  learned = all-one (λ (f : ℕ). is_some (field_slot m.fields o.steps f) ≡ true → IsSameAt f begun.names v × (is_some (token_name f begun.variables) ≡ true)) (λ (f : ℕ). is_some (field_slot m.fields o.steps f) ≡ true → begun.names.number f ≡ v.number f) (range_with_len 0 (length m.fields)) (λ f h some. (h some).0.number) begins.learns

  at-field : (z : ℕ) → z < length m.fields → t.test z ≡ true → IsSameAt z begun.names v
  at-field z lt e = cases (t.knows z lt e) where
    cases : ((is_kept (strategy_at m.fields z) ≡ true) ⊎ (get_or whole z nothing ≡ get_or s z nothing)) ⊎ (is_some (field_slot m.fields o.steps z) ≡ true) → IsSameAt z begun.names v
    cases (inl h) =
        begins.keeps z (start-same m.fields o args tokens given hand others kept s whole joined sound beyond_fields z lt h)
    cases (inr h) =
        (at-number (λ f. is_some (field_slot m.fields o.steps f) ≡ true → IsSameAt f begun.names v × (is_some (token_name f begun.variables) ≡ true)) (length m.fields) z begins.learns lt h).0

  at-param : (z : ℕ) → nat_lt z (length m.fields) ≡ false → is_in z o.params ≡ true → IsSameAt z begun.names v
  at-param z out here = record {
    number = sym (begins.beyond z out).number ∙ start-number m.fields o args tokens given hand kept whole z out
        ∙ sym (argument-front o.params (bound_names o.steps) args bound z long here)
        ∙ (same-outside m.fields s beyond_fields z out).number;
    mapping = sym (begins.beyond z out).mapping
        ∙ first-nil m.fields kept whole z sound.shaped.records (ltb-false z (length m.fields) out)
        ∙ (same-outside m.fields s beyond_fields z out).mapping;
  }

  at-first : (z : ℕ) → t.test z ≡ true → is_known_by m.fields (o.params ++ bound_names []) z ≡ true
      → IsSameAt z begun.names v
  at-first z trusted known = cases (cases_lt z (length m.fields)) where
    out-cases : length m.fields ≤ z
        → (nat_lt z (length m.fields) ≡ true) ⊎ (is_in z (o.params ++ bound_names []) ≡ true)
        → IsSameAt z begun.names v
    out-cases le (inl h) = absurd (let no = sym h ∙ le-ltb z (length m.fields) le in cc)
    out-cases le (inr h) =
        at-param z (le-ltb z (length m.fields) le) (subst (λ (ps : List ℕ). is_in z ps ≡ true) (append-nil o.params) h)

    cases : (z < length m.fields) ⊎ (length m.fields ≤ z) → IsSameAt z begun.names v
    cases (inl lt) = at-field z lt trusted
    cases (inr le) =
        out-cases le (known-cases (nat_lt z (length m.fields)) (is_in z (o.params ++ bound_names [])) (sort_of (strategy_at m.fields z)) known)

  pub first-same : Same (λ z. t.test z && is_known_by m.fields (o.params ++ bound_names []) z) begun.names v
  first-same = record {
    number = λ z e. (at-first z (and_left _ _ e) (and_right (t.test z) _ e)).number;
    mapping = λ z e. (at-first z (and_left _ _ e) (and_right (t.test z) _ e)).mapping;
  }

  pub own-given : AreApart (own_names o) → length bound ≡ length (bound_names o.steps)
      → AreGiven (bound_names o.steps) bound v
  own-given apart many =
      let a = length-append args bound in
      let b = length-append o.params (bound_names o.steps) in
      let texts =
      all-joined IsTextName o.params (bound_names o.steps) rules.texts.params
      (text-names o.steps rules.texts.bound) in
      given-behind o.params (bound_names o.steps) args bound v long
      (are-given v (own_names o) (args ++ bound) (omega (arith, a, b, long, many)) apart
      (all-one IsTextName (λ z. v.number z ≡ argument (own_names o) (args ++ bound) z) (own_names o)
      (λ z text. sym (same-outside m.fields s beyond_fields z (text-outside m.fields z rules.few text)).number) texts))

-- ---- the whole

-- what goes along a valuation of the machine's names succeeds, and answers what they stand for
pub follows-along : (fs : List Field) (v : Valuation) (trusted : ℕ → Bool) (o : OperationTree) (args : List ℤ) (tokens given : List ℕ) (hand : List Held) (kept : Kept) (whole : State)
    → ((z : ℕ) → nat_lt z (length fs) ≡ false → v.mapping z ≡ maps.nil) → AreLawful fs trusted o.params [] o.steps
    → (x : Exchanged) → IsAlong fs v o args tokens given hand kept whole x
    → Same (λ z. trusted z && is_known_by fs (o.params ++ bound_names []) z) (begun_under fs v o args tokens given whole hand kept).names v
    → (exchange_of fs o args tokens given whole hand kept ≡ Ok x) × AreGiven (bound_names o.steps) x.bound v
follows-along fs v trusted o args tokens given hand kept whole nil lawful x along same =
    let start = beginning fs o args tokens given whole hand kept in
    let begun = begun_under fs v o args tokens given whole hand kept in
    let first = variables-used v (variable_slots fs o) start along.variables in
    let did = all-under fs trusted o.params v nil [] o.steps begun lawful along.found same in
    let bears = all-bear fs trusted o.params v [] o.steps begun lawful in
    let none-yet : start.bound ≡ begun.bound = used-bind-nothing (variable_slots fs o) start begun first in
    let values : x.bound ≡ bears.values =
    ap (λ (u : Exchanged). u.bound) along.leaves ∙ bears.bound
    ∙ ap (λ (bs : List ℤ). bs ++ bears.values) (sym none-yet) in (
      ap (λ r. outcome (r >>= does_all unbounded fs o.steps)) first ∙ ap outcome did
          ∙ ap (λ (u : Exchanged). Ok u) (sym along.leaves),
      subst (λ (bs : List ℤ). AreGiven (bound_names o.steps) bs v) (sym values) bears.given,
    )

pub exchanges-follow : ExchangesFollow
exchanges-follow m proved o has other args long tokens given hand names others kept sound s joined reached whole
    either bound many x along =
    let rules = regular m proved.symbols proved.named proved.strategies o has in
    let t = trust m.fields o s whole other rules.rules either in
    let v = valuation_at m.fields s o args bound in
    let w : Valuation = record { number = argument (own_names o) (args ++ bound); mapping = λ z. maps.nil } in
    let begun = begun_under m.fields v o args tokens given whole hand kept in
    let first =
    variables-used v (variable_slots m.fields o) (beginning m.fields o args tokens given whole hand kept)
    along.variables in
    let lawful =
    are-lawful m.fields o.mode t.test o.params [] o.steps rules.few rules.rules rules.statements rules.texts.bound
    t.reading in
    let nil : (z : ℕ) → nat_lt z (length m.fields) ≡ false → v.mapping z ≡ maps.nil = λ z out. sym (same-outside m.fields s w z out).mapping in
    let done = follows-along m.fields v t.test o args tokens given hand kept whole nil lawful x along
    (first-same m o args tokens given hand others kept s whole joined sound other names rules t begun first long bound) in
    let params : AreApart (o.params ++ bound_names []) =
    subst AreApart (sym (append-nil o.params)) (params-apart m.fields [] o.params rules.params).1 in
    let apart = names-apart m.fields t.test o.params [] o.steps lawful params in
    let own =
    own-given m o args tokens given hand others kept s whole joined sound other names rules t begun first long
    bound apart many in
    (done.0, given-same (bound_names o.steps) x.bound bound v done.1 own)
