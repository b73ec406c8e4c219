-- A transition or property at its start: what symbols stand for, and what its tokens make.
use Rattle.std.proofs.Common.{◌≡◌, ℕ, ◌+◌, ◌<◌, ◌≤◌, ℤ, Bool, true, false, not, ◌||◌, List, [], ◌∷◌, ◌++◌, length, map, get_or, append_assoc, Option, Some, None, is_some, inl, inr, ◌⊎◌, refl, sym, ap, subst, ◌∙◌, arith, if◌then◌else◌, nat_eq, nat_lt}
use Rattle.std.specs.List.{AllByRecursion, range_with_len}
use Rattle.std.proofs.lemmas.Bool.{eq-eqb, lt-ltb, le-ltb, cases_lt}
use Rattle.std.proofs.lemmas.List.FromFn.{length-map-range_with_len}
use Rattle.sync_base.specs.Outcome.{first}
use Rattle.sync_terms.specs.Trees.{Tree, Name}
use Rattle.sync_terms.specs.Maps as maps
use Rattle.sync_terms.specs.Values.{Valuation}
use Rattle.sync_machine.specs.declared.fields.Field.{Field}
use Rattle.sync_base.specs.declared.strategies.OpMode.{OpMode}
use Rattle.sync_base.specs.declared.strategies.OpMode.TheVariants as mode
use Rattle.sync_machine.specs.Machines.{PlaceTree, ActTree, StepTree, OperationTree}
use Rattle.sync_machine.specs.Machines as acts
use Rattle.sync_machine.specs.Statements as statements
use Rattle.sync_machine.specs.States.{State, IsAt, sort_of, strategy_at, strategy_of, value_in}
use Rattle.sync_machine.specs.Naming.{is_in, IsTextName}
use Rattle.sync_rules.specs.declared.kinds.OpKind.TheVariants as kinds
use Rattle.sync_rules.specs.Strategies.{has_statement, kind_of, HasKind}
use Rattle.sync_rules.specs.Order.{is_first_value}
use Rattle.sync_rules.specs.Locality.{is_variable}
use Rattle.sync_join.specs.declared.tokens.Token.{Token}
use Rattle.sync_join.specs.Shards.{Kept, IsOf, AreSoundShards}
use Rattle.sync_join.specs.Join.{tokens_of, record_at, value_at, join_of, entries_of, number_of}
use Rattle.sync_join.proofs.Through.{append-nothing}
use Rattle.sync_rules.specs.Slots.{only_if, given_by, read_by, updated_to, valued, earliest, field_slot}
use Rattle.sync_rules.specs.Slots as slots
use Rattle.sync_exchange.specs.declared.hands.Held.{Held}
use Rattle.sync_exchange.specs.Exchange.{tokens_in, token_name, names_before, beginning}
use Rattle.sync_rules.specs.Plain.{is_kept, is_at_hand, is_plain}
use Rattle.sync_exchange.specs.Projection.{AreNames}
use Rattle.sync_exchange.proofs.Making.{records-at}
use Rattle.sync_exchange.proofs.Strategies.{some_is}
use Rattle.sync_exchange.proofs.OneStrategy.{variable-only}
use Rattle.sync_exchange.proofs.Standing.{IsUnderWay}
use Rattle.sync_exchange.proofs.Doing.{beyond}
use Rattle.sync_exchange.proofs.Going.{IsSameAt, AreUsed}
use Rattle.sync_exchange.proofs.Rules.{AreRuled, AreReading}
use Rattle.sync_exchange.proofs.Using.{HasNoInit, no-init}
use Rattle.sync_exchange.proofs.Whole.{nothing, state-value, joined-sort, name-value, number-nil, seen-value, at-from, first-name}
use Rattle.sync_exchange.proofs.Trusting.{all-reading, plain-reading, or-one, first-left, first-right, earliest-there, variable-slotted}
use Rattle.sync_exchange.proofs.Owning.{names-once}

-- what symbols stand for at a state, and beyond the fields in w
abbrev pub valuation : List Field → State → Valuation → Valuation
valuation fs s w = record {
  number = λ z. if nat_lt z (length fs) then number_of (get_or s z nothing) else w.number z;
  mapping = λ z. if nat_lt z (length fs) then entries_of (get_or s z nothing) else w.mapping z;
}

module _ (fs : List Field) (s : State) (w : Valuation) where
  pub number-inside : (z : ℕ) → z < length fs → (valuation fs s w).number z ≡ number_of (get_or s z nothing)
  number-inside z lt = let e : nat_lt z (length fs) ≡ true = lt-ltb z (length fs) lt in rw e refl

  pub mapping-inside : (z : ℕ) → z < length fs → (valuation fs s w).mapping z ≡ entries_of (get_or s z nothing)
  mapping-inside z lt = let e : nat_lt z (length fs) ≡ true = lt-ltb z (length fs) lt in rw e refl

  pub same-outside : (z : ℕ) → nat_lt z (length fs) ≡ false → IsSameAt z w (valuation fs s w)
  same-outside z e = record { number = rw e refl; mapping = rw e refl }

  pub at-state : length s ≡ length fs → IsAt s (valuation fs s w)
  at-state long = at-from (valuation fs s w) 0 s (λ i lt.
      let e : 0 + i ≡ i = omega arith in
      (ap (λ n. (valuation fs s w).number n) e ∙ number-inside i (omega (arith, lt, long)), ap (λ n. (valuation fs s w).mapping n) e ∙ mapping-inside i (omega (arith, lt, long))))

-- ---- which symbols are trusted

pub record Trust (fs : List Field) (o : OperationTree) (s whole : State) : Type 0 where
  pub test : ℕ → Bool
  pub outside : (z : ℕ) → nat_lt z (length fs) ≡ false → test z ≡ true
  pub reading : AreReading test o.steps
  pub knows : (z : ℕ) → z < length fs → test z ≡ true → ((is_kept (strategy_at fs z) ≡ true) ⊎ (get_or whole z nothing ≡ get_or s z nothing)) ⊎ (is_some (field_slot fs o.steps z) ≡ true)

pub at-hand-cases : (a b c : Bool) → a ≡ true → (not a || b || c) ≡ true → (b ≡ true) ⊎ (c ≡ true)
at-hand-cases true true c e h = inl refl
at-hand-cases true false c e h = inr h
at-hand-cases false b c e h = absurd (cc)

pub no-inits : (fs : List Field) (m : OpMode) (before ss : List StepTree) → (m ≡ mode.Init → ⊥) → AreRuled fs m before ss → HasNoInit ss
no-inits fs m before [] other h = tt
no-inits fs m before (s ∷ ss) other h = (no-init m s.act other h.0.stands h.0.still, no-inits fs m (before ++ s ∷ []) ss other h.1)

pub trust : (fs : List Field) (o : OperationTree) (s whole : State) → (o.mode ≡ mode.Init → ⊥) → AreRuled fs o.mode [] o.steps → (whole ≡ s) ⊎ (is_plain fs o ≡ true) → Trust fs o s whole
trust fs o s whole other rules (inl same) = record {
  test = λ z. true;
  outside = λ z e. refl;
  reading = all-reading o.steps;
  knows = λ z lt e. inl (inr (ap (λ u. get_or u z nothing) same));
}
trust fs o s whole other rules (inr plain) = record {
  test = is_at_hand fs o.steps;
  outside = λ z e. or-one (not (nat_lt z (length fs))) _ _ (ap not e);
  reading = plain-reading fs o o.mode other [] o.steps refl (no-inits fs o.mode [] o.steps other rules) rules plain;
  knows = λ z lt e. by-hand (at-hand-cases (nat_lt z (length fs)) (is_kept (strategy_at fs z)) (is_some (field_slot fs o.steps z)) (lt-ltb z (length fs) lt) e);
} where
  by-hand : {A B C : Type 0} → A ⊎ C → (A ⊎ B) ⊎ C
  by-hand (inl a) = inl (inl a)
  by-hand (inr c) = inr c

-- ---- the start

module _ (fs : List Field) (o : OperationTree) (args : List ℤ) (tokens given : List ℕ) (hand : List Held) (others : List Token) (kept : Kept) (s whole : State)
    (joined : join_of fs (tokens_in hand ++ others) kept ≡ Some s) (sound : AreSoundShards fs (tokens_in hand ++ others) kept) where
  pub start-sort : (f : ℕ) → f < length fs → IsOf (sort_of (strategy_at fs f)) (get_or s f nothing)
  start-sort f lt =
      joined-sort (strategy_at fs f) (tokens_of f (tokens_in hand ++ others)) (record_at kept f) (tokens_of f kept.stored) (get_or s f nothing)
      (records-at fs kept.records f sound.shaped.records lt) (state-value fs (tokens_in hand ++ others) kept s f joined lt)

  pub start-nil : (w : Valuation) (f : ℕ) → f < length fs → is_variable (strategy_at fs f) ≡ true → (valuation fs s w).mapping f ≡ maps.nil
  unfolding sort_of
  start-nil w f lt var =
      mapping-inside fs s w f lt ∙ number-nil (get_or s f nothing) (subst (λ z. IsOf (sort_of z) (get_or s f nothing)) (variable-only (strategy_at fs f) var) (start-sort f lt))

  pub start-stands : (w : Valuation) → AreNames fs o tokens given hand → IsUnderWay fs (valuation fs s w) others (beginning fs o args tokens given whole hand kept) (map Name (range_with_len 0 (length fs)))
  unfolding token_name
  start-stands w names = record {
    makes = record {
      values = λ f lt.
          ap (λ hs. value_at fs (tokens_in hs ++ others) kept f) (append-nothing hand)
          ∙ state-value fs (tokens_in hand ++ others) kept s f joined lt
          ∙ ap Some (sym (ap (value_in (valuation fs s w) (sort_of (strategy_at fs f))) (first-name fs f lt)
          ∙ name-value (sort_of (strategy_at fs f)) (valuation fs s w) f (get_or s f nothing) (number-inside fs s w f lt) (mapping-inside fs s w f lt) (start-sort f lt)));
      sound = subst (λ hs. AreSoundShards fs (tokens_in hs ++ others) kept) (sym (append-nothing hand)) sound;
      many = length-map-range_with_len Name 0 (length fs);
    };
    once = names-once fs o tokens given hand names;
    named = λ g name e. absurd (cc);
    fields = λ g name e. absurd (cc);
  }

  -- what is kept or at hand has its value in the state
  pub start-same : (w : Valuation) (z : ℕ) → z < length fs → (is_kept (strategy_at fs z) ≡ true) ⊎ (get_or whole z nothing ≡ get_or s z nothing) → IsSameAt z (names_before fs o args kept whole) (valuation fs s w)
  start-same w z lt h =
      let is = seen-value (strategy_at fs z) (tokens_of z (tokens_in hand ++ others)) kept whole z (get_or s z nothing) (state-value fs (tokens_in hand ++ others) kept s z joined lt) h in
      let e : nat_lt z (length fs) ≡ true = lt-ltb z (length fs) lt in
      record { number = rw e (ap number_of is); mapping = rw e (ap entries_of is) }

-- ---- variables that statements change

changed-updated : (fs : List Field) (f : ℕ) (a : ActTree) → HasKind (strategy_of fs a) (kind_of a) → is_first_value (kind_of a) ≡ false → statements.changed_by a ≡ Some f
    → is_variable (strategy_at fs f) ≡ true → is_some (updated_to f a) ≡ true
unfolding kind_of statements.changed_by updated_to statements.field_of
changed-updated fs f (acts.Update g t) allowed first e var = let is : nat_eq f g ≡ true = eq-eqb f g (sym (some_is g f e)) in rw is refl
changed-updated fs f (acts.Init g t) allowed first e var = absurd (cc)
changed-updated fs f (acts.Add g p) allowed first e var =
    let is : has_statement (strategy_at fs g) kinds.Add ≡ false = ap (λ n. has_statement (strategy_at fs n) kinds.Add) (some_is g f e) ∙ ap (λ s. has_statement s kinds.Add) (variable-only (strategy_at fs f) var) in absurd (cc)
changed-updated fs f (acts.Remove g p) allowed first e var =
    let is : has_statement (strategy_at fs g) kinds.Remove ≡ false = ap (λ n. has_statement (strategy_at fs n) kinds.Remove) (some_is g f e) ∙ ap (λ s. has_statement s kinds.Remove) (variable-only (strategy_at fs f) var) in absurd (cc)
changed-updated fs f (acts.Deposit g p) allowed first e var =
    let is : has_statement (strategy_at fs g) kinds.Deposit ≡ false = ap (λ n. has_statement (strategy_at fs n) kinds.Deposit) (some_is g f e) ∙ ap (λ s. has_statement s kinds.Deposit) (variable-only (strategy_at fs f) var) in absurd (cc)
changed-updated fs f (acts.Withdraw g p) allowed first e var =
    let is : has_statement (strategy_at fs g) kinds.Withdraw ≡ false = ap (λ n. has_statement (strategy_at fs n) kinds.Withdraw) (some_is g f e) ∙ ap (λ s. has_statement s kinds.Withdraw) (variable-only (strategy_at fs f) var) in absurd (cc)
changed-updated fs f (acts.Require form) allowed first e var = absurd (cc)
changed-updated fs f (acts.Assert form) allowed first e var = absurd (cc)
changed-updated fs f (acts.HaveVariable g) allowed first e var = absurd (cc)
changed-updated fs f (acts.Have g p) allowed first e var = absurd (cc)
changed-updated fs f (acts.Guard g p) allowed first e var = absurd (cc)

pub valued-some : (role : Rattle.sync_rules.specs.declared.slots.Role.Role) (x line : ℕ) (o : Option Tree) → is_some o ≡ true → is_some (valued role x line o) ≡ true
valued-some role x line None e = absurd (cc)
valued-some role x line (Some t) e = refl

pub some-name : (o : Option ℕ) → is_some o ≡ true → (name : ℕ) × (o ≡ Some name)
some-name None e = absurd (cc)
some-name (Some n) e = (n, refl)

pub variable-inside : (fs : List Field) (f : ℕ) → is_variable (strategy_at fs f) ≡ true → f < length fs
variable-inside fs f var = cases (cases_lt f (length fs)) where
  cases : (f < length fs) ⊎ (length fs ≤ f) → f < length fs
  cases (inl lt) = lt
  cases (inr le) = let e : is_variable (strategy_at fs f) ≡ false = ap is_variable (beyond fs f le) in absurd (cc)

pub are-used : (fs : List Field) (m : OpMode) (steps before ss : List StepTree) (vars : List (ℕ × ℕ)) → before ++ ss ≡ steps → HasNoInit ss → AreRuled fs m before ss
    → ((f : ℕ) → f < length fs → is_some (field_slot fs steps f) ≡ true → is_some (token_name f vars) ≡ true) → AreUsed fs vars ss
are-used fs m steps before [] vars is none rules known = tt
are-used fs m steps before (s ∷ ss) vars is none rules known = (
  (λ f changed var.
      let all = before ++ s ∷ ss in
      let updated = changed-updated fs f s.act rules.0.allowed none.0 changed var in
      let there = earliest-there (slots.changed_by f) before s ss (valued-some _ f s.line (updated_to f s.act) updated) in
      let slot = variable-slotted fs all f var (first-right (earliest (given_by f) all) _ (first-left (earliest (slots.changed_by f) all) (earliest (read_by fs f) all) there)) in
      some-name (token_name f vars) (known f (variable-inside fs f var) (subst (λ xs. is_some (field_slot fs xs f) ≡ true) is slot))),
  are-used fs m steps (before ++ s ∷ []) ss vars (append_assoc before (s ∷ []) ss ∙ is) none.1 rules.1 known,
)

-- ---- arguments

pub all-both : {X : Type 0} (P Q R : X → Type 0) (xs : List X) → ((x : X) → P x → Q x → R x) → AllByRecursion P xs → AllByRecursion Q xs → AllByRecursion R xs
all-both P Q R [] h a b = tt
all-both P Q R (x ∷ xs) h a b = (h x a.0 b.0, all-both P Q R xs h a.1 b.1)

pub all-one : {X : Type 0} (P R : X → Type 0) (xs : List X) → ((x : X) → P x → R x) → AllByRecursion P xs → AllByRecursion R xs
all-one P R [] h a = tt
all-one P R (x ∷ xs) h a = (h x a.0, all-one P R xs h a.1)

in-more : (r p : ℕ) (ps : List ℕ) → is_in r ps ≡ true → is_in r (p ∷ ps) ≡ true
in-more r p ps e = cases (nat_eq r p) where
  cases : (b : Bool) → (b || is_in r ps) ≡ true
  cases true = refl
  cases false = e

in-first : (p : ℕ) (ps : List ℕ) → is_in p (p ∷ ps) ≡ true
in-first p ps = let e : nat_eq p p ≡ true = eq-eqb p p refl in rw e refl

pub all-in : (ps : List ℕ) → AllByRecursion (λ (r : ℕ). is_in r ps ≡ true) ps
all-in [] = tt
all-in (p ∷ ps) = (in-first p ps, all-one (λ r. is_in r ps ≡ true) (λ r. is_in r (p ∷ ps) ≡ true) ps (λ r e. in-more r p ps e) (all-in ps))

pub text-outside : (fs : List Field) (z : ℕ) → length fs ≤ 32 → IsTextName z → nat_lt z (length fs) ≡ false
text-outside fs z few (n, is, below) = le-ltb z (length fs) (omega (arith, is, few))
