-- For a plain operation the whole state makes no difference.
use Rattle.std.proofs.Common.{◌≡◌, ℕ, ◌<◌, ◌≤◌, ℤ, pos, Bool, true, false, not, ◌&&◌, ◌||◌, List, [], ◌∷◌, ◌++◌, length, append_assoc, filter_map, Option, Some, None, is_some, Ok, Err, inl, inr, ◌⊎◌, refl, sym, ap, subst, ◌∙◌, if◌then◌else◌, nat_eq, nat_lt}
use Rattle.std.specs.List.{AllByRecursion, cons_option, range_with_len}
use Rattle.std.proofs.lemmas.Bool.{eqb-true, lt-ltb, le-ltb, cases_lt}
use Rattle.std.proofs.lemmas.List.Folds.{list_any-append}
use Rattle.std.proofs.lemmas.List.Elements.{filter_map-append}
use Rattle.sync_terms.specs.Maps as maps
use Rattle.sync_terms.specs.Values.{Valuation, with_value}
use Rattle.sync_machine.specs.declared.fields.Field.{Field}
use Rattle.sync_base.specs.declared.strategies.Strategy.{Strategy}
use Rattle.sync_base.specs.declared.strategies.Strategy.TheVariants.{Variable, Constant, NotTokenized, Option as OptionField, Map, Set, Multiset, Count, PersistentOption, PersistentMap, PersistentSet, PersistentCount, StorageMap}
use Rattle.sync_base.specs.declared.strategies.OpMode.{OpMode}
use Rattle.sync_base.specs.declared.strategies.OpMode.TheVariants as mode
use Rattle.sync_machine.specs.Machines.{StepTree, OperationTree}
use Rattle.sync_machine.specs.States.{Sort, Numbers, State, sort_of, strategy_at}
use Rattle.sync_machine.specs.Naming.{bound_by, bound_names, is_in}
use Rattle.sync_join.specs.declared.tokens.Token.{Token}
use Rattle.sync_join.specs.Shards.{Kept}
use Rattle.sync_join.specs.Join.{entries_of, number_of}
use Rattle.sync_rules.specs.declared.slots.Role.{Role}
use Rattle.sync_rules.specs.declared.slots.Role.TheVariants.{Change, Taken, Read, Given, In, Out, Seen}
use Rattle.sync_rules.specs.Slots.{SlotTree, field_slot}
use Rattle.sync_exchange.specs.declared.hands.XStop.TheVariants.{Differs}
use Rattle.sync_exchange.specs.Exchange.{Exchanging, Answer, unless, is_at_place, knowing, next_name, after_reading, seen, names_before, beginning, use_variable, use_variables, does, does_all}
use Rattle.sync_exchange.specs.Projection.{ReadsNoState}
use Rattle.sync_rules.specs.Plain.{is_kept, is_at_hand, is_plain}
use Rattle.sync_exchange.proofs.Terms.{Same, and_left, and_right, and_both}
use Rattle.sync_exchange.proofs.Doing.{beyond}
use Rattle.sync_exchange.proofs.Going.{IsSameAt, is_known_by, AreLawful, known-in}
use Rattle.sync_exchange.proofs.Rules.{AreRuled, AreReading, regular, are-lawful}
use Rattle.sync_exchange.proofs.Using.{slot-kinds, field-slot}
use Rattle.sync_exchange.proofs.Trusting.{plain-reading}
use Rattle.sync_exchange.proofs.Beginning.{at-hand-cases, no-inits}
use Rattle.sync_exchange.proofs.Transitions.{at-number}
use Rattle.sync_exchange.proofs.Initialising.{is_outside, init-reading}
use Rattle.sync_exchange.proofs.Unread.{renamed, Alike, alike-bind, alike-unless, alike-outcome, named-alike, Keeps, with-both, with-own, does-alike}

-- ---- statements

or-cases : (a b : Bool) → (a || b) ≡ true → (a ≡ true) ⊎ (b ≡ true)
or-cases true b e = inl refl
or-cases false b e = inr e

in-option : (o : Option ℕ) (z : ℕ) → is_in z (cons_option o []) ≡ true → o ≡ Some z
in-option None z e = absurd (cc)
in-option (Some y) z e = cases (nat_eq z y) refl e where
  cases : (b : Bool) → nat_eq z y ≡ b → (b || false) ≡ true → Some y ≡ Some z
  cases true is h = ap Some (sym (eqb-true z y is))
  cases false is h = absurd (cc)

known-cases : (b c : Bool) (s : Sort) → is_some (if b then Some s else (if c then Some Numbers else None)) ≡ true → (b ≡ true) ⊎ (c ≡ true)
known-cases true c s e = inl refl
known-cases false true s e = inr refl
known-cases false false s e = absurd (cc)

-- a symbol that is known behind a statement was known before it, or is bound by it
known-split : (fs : List Field) (params : List ℕ) (before : List StepTree) (s : StepTree) (z : ℕ) → is_known_by fs (params ++ bound_names (before ++ s ∷ [])) z ≡ true
    → (is_known_by fs (params ++ bound_names before) z ≡ true) ⊎ (bound_by s.act ≡ Some z)
known-split fs params before s z e = by (known-cases (nat_lt z (length fs)) (is_in z (params ++ bound_names (before ++ s ∷ []))) (sort_of (strategy_at fs z)) e) where
  names : is_in z (params ++ bound_names (before ++ s ∷ [])) ≡ (is_in z (params ++ bound_names before) || is_in z (bound_names (s ∷ [])))
  names = ap (is_in z) (ap (λ ys. params ++ ys) (filter_map-append (λ (t : StepTree). bound_by t.act) before (s ∷ [])) ∙ sym (append_assoc params (bound_names before) (bound_names (s ∷ []))))
      ∙ list_any-append (nat_eq z) (params ++ bound_names before) (bound_names (s ∷ []))

  last : (is_in z (params ++ bound_names before) ≡ true) ⊎ (is_in z (bound_names (s ∷ [])) ≡ true) → (is_known_by fs (params ++ bound_names before) z ≡ true) ⊎ (bound_by s.act ≡ Some z)
  last (inl h) = inl (known-in fs (params ++ bound_names before) z h)
  last (inr h) = inr (in-option (bound_by s.act) z h)

  by : (nat_lt z (length fs) ≡ true) ⊎ (is_in z (params ++ bound_names (before ++ s ∷ [])) ≡ true) → (is_known_by fs (params ++ bound_names before) z ≡ true) ⊎ (bound_by s.act ≡ Some z)
  by (inl h) = inl (rw h refl)
  by (inr h) = last (or-cases _ _ (sym names ∙ h))

abbrev pub Anything : Exchanging → Valuation → Type 0
Anything y u = Unit {0}

module _ (fit : ℤ → Bool) (fs : List Field) (test : ℕ → Bool) (params : List ℕ) where
  behind : (before : List StepTree) (s : StepTree) (x y : Exchanging) (w u : Valuation) → Same (λ z. test z && is_known_by fs (params ++ bound_names before) z) x.names w → Keeps x w s.act y u
      → (z : ℕ) → (test z && is_known_by fs (params ++ bound_names (before ++ s ∷ [])) z) ≡ true → IsSameAt z y.names u
  behind before s x y w u same k z e = cases (known-split fs params before s z (and_right (test z) _ e)) where
    cases : (is_known_by fs (params ++ bound_names before) z ≡ true) ⊎ (bound_by s.act ≡ Some z) → IsSameAt z y.names u
    cases (inl h) = let both : (test z && is_known_by fs (params ++ bound_names before) z) ≡ true = and_both (test z) _ (and_left _ _ e) h in k.0 z (record { number = same.number z both; mapping = same.mapping z both })
    cases (inr h) = k.1 z h

  pub does_all-alike : (before ss : List StepTree) (x : Exchanging) (w : Valuation) → AreLawful fs test params before ss → Same (λ z. test z && is_known_by fs (params ++ bound_names before) z) x.names w
      → Alike Anything (does_all fit fs ss x) (does_all fit fs ss (renamed w x))
  does_all-alike before [] x w laws same = (w, refl, tt)
  does_all-alike before (s ∷ ss) x w laws same =
      alike-bind (Keeps x w s.act) Anything (does fit fs s x) (does fit fs s (renamed w x)) (does_all fit fs ss)
      (does-alike fit fs (λ z. test z && is_known_by fs (params ++ bound_names before) z) x w same s.line s.act laws.0)
      (λ y u k. does_all-alike (before ++ s ∷ []) ss y u laws.2 (record { number = λ z e. (behind before s x y w u same k z e).number; mapping = λ z e. (behind before s x y w u same k z e).mapping }))

-- ---- variables

-- what was the same stays so, and the variable's symbol is the same
abbrev pub Used : ℕ → Exchanging → Valuation → Exchanging → Valuation → Type 0
Used f x w y u = ((z : ℕ) → IsSameAt z x.names w → IsSameAt z y.names u) × IsSameAt f y.names u

read-alike : (f : ℕ) (n : ℤ) (x : Exchanging) (w : Valuation) → ((z : ℕ) → IsSameAt z x.names w → IsSameAt z (with_value f n maps.nil x.names) (with_value f n maps.nil w)) × IsSameAt f (with_value f n maps.nil x.names) (with_value f n maps.nil w)
read-alike f n x w = ((λ z h. with-both f z n x.names w h), with-own f f n x.names w refl)

token-read : (f : ℕ) (t : Token) (x : Exchanging) (w : Valuation)
    → Alike (Used f x w) (unless (Differs x.slot) (is_at_place f (pos 0) t) (Ok (knowing f (next_name x.tokens) t.value (after_reading x))))
    (unless (Differs x.slot) (is_at_place f (pos 0) t) (Ok (knowing f (next_name x.tokens) t.value (after_reading (renamed w x)))))
token-read f t x w =
    alike-unless (Used f x w) (Differs x.slot) (is_at_place f (pos 0) t) (is_at_place f (pos 0) t) (Ok (knowing f (next_name x.tokens) t.value (after_reading x)))
    (Ok (knowing f (next_name x.tokens) t.value (after_reading (renamed w x)))) refl (with_value f t.value maps.nil w, refl, read-alike f t.value x w)

pub variable-alike : (f : ℕ) (role : Role) (x : Exchanging) (w : Valuation) → Alike (Used f x w) (use_variable f role x) (use_variable f role (renamed w x))
variable-alike f Given x w = (with_value f (pos 0) maps.nil w, refl, read-alike f (pos 0) x w)
variable-alike f Change x w = named-alike (Used f x w) x w _ _ (λ t. token-read f t x w)
variable-alike f Taken x w = named-alike (Used f x w) x w _ _ (λ t. token-read f t x w)
variable-alike f Read x w = named-alike (Used f x w) x w _ _ (λ t. token-read f t x w)
variable-alike f In x w = named-alike (Used f x w) x w _ _ (λ t. token-read f t x w)
variable-alike f Out x w = named-alike (Used f x w) x w _ _ (λ t. token-read f t x w)
variable-alike f Seen x w = named-alike (Used f x w) x w _ _ (λ t. token-read f t x w)

weaker : (P Q : Exchanging → Valuation → Type 0) (r s : Answer) → ((y : Exchanging) (u : Valuation) → P y u → Q y u) → Alike P r s → Alike Q r s
weaker P Q (Ok y) (Ok z) f h = (h.0, h.1, f y h.0 h.2)
weaker P Q (Err a) (Err b) f h = h
weaker P Q (Ok y) (Err b) f h = absurd h
weaker P Q (Err a) (Ok z) f h = absurd h

slot-field : (fs : List Field) (ss : List StepTree) (f : ℕ) (sl : SlotTree) → field_slot fs ss f ≡ Some sl → sl.field ≡ f
slot-field fs ss f sl e = slot-kinds fs ss f sl (sl.field ≡ f) (field-slot fs ss f sl e).1 (λ g field role. field) (λ field role. field) (λ field role. field)

module _ (fs : List Field) (ss : List StepTree) where
  abbrev pub Learns : List ℕ → Exchanging → Valuation → Exchanging → Valuation → Type 0
  Learns ns x w y u = ((z : ℕ) → IsSameAt z x.names w → IsSameAt z y.names u) × AllByRecursion (λ (f : ℕ). is_some (field_slot fs ss f) ≡ true → IsSameAt f y.names u) ns

  next-alike : (f : ℕ) (ns : List ℕ) (x : Exchanging) (w : Valuation) (o : Option SlotTree) → field_slot fs ss f ≡ o
      → ((y : Exchanging) (u : Valuation) → Alike (Learns ns y u) (use_variables (filter_map (field_slot fs ss) ns) y) (use_variables (filter_map (field_slot fs ss) ns) (renamed u y)))
      → Alike (Learns (f ∷ ns) x w) (use_variables (cons_option o (filter_map (field_slot fs ss) ns)) x) (use_variables (cons_option o (filter_map (field_slot fs ss) ns)) (renamed w x))
  next-alike f ns x w None slot later =
      weaker (Learns ns x w) (Learns (f ∷ ns) x w) _ _ (λ y u k. (k.0, ((λ some. let none : is_some (field_slot fs ss f) ≡ false = ap is_some slot in absurd (cc)), k.1))) (later x w)
  next-alike f ns x w (Some sl) slot later =
      alike-bind (Used sl.field x w) (Learns (f ∷ ns) x w) _ _ (use_variables (filter_map (field_slot fs ss) ns)) (variable-alike sl.field sl.role x w)
      (λ y u k. weaker (Learns ns y u) (Learns (f ∷ ns) x w) _ _
      (λ z t l. ((λ n h. l.0 n (k.0 n h)), ((λ some. l.0 f (subst (λ m. IsSameAt m y.names u) (slot-field fs ss f sl slot) k.1)), l.1))) (later y u))

  pub variables-alike : (ns : List ℕ) (x : Exchanging) (w : Valuation) → Alike (Learns ns x w) (use_variables (filter_map (field_slot fs ss) ns) x) (use_variables (filter_map (field_slot fs ss) ns) (renamed w x))
  variables-alike [] x w = (w, refl, ((λ z h. h), tt))
  variables-alike (f ∷ ns) x w = next-alike f ns x w (field_slot fs ss f) refl (variables-alike ns)

-- ---- the start

seen-kept : (s : Strategy) (kept : Kept) (one other : State) (f : ℕ) → is_kept s ≡ true → seen s kept one f ≡ seen s kept other f
seen-kept Constant kept one other f e = refl
seen-kept NotTokenized kept one other f e = refl
seen-kept PersistentOption kept one other f e = refl
seen-kept PersistentMap kept one other f e = refl
seen-kept PersistentSet kept one other f e = refl
seen-kept PersistentCount kept one other f e = refl
seen-kept StorageMap kept one other f e = refl
seen-kept Variable kept one other f e = absurd (cc)
seen-kept OptionField kept one other f e = absurd (cc)
seen-kept Map kept one other f e = absurd (cc)
seen-kept Set kept one other f e = absurd (cc)
seen-kept Multiset kept one other f e = absurd (cc)
seen-kept Count kept one other f e = absurd (cc)

module _ (fs : List Field) (o : OperationTree) (args : List ℤ) (kept : Kept) (one other : State) where
  kept-same : (z : ℕ) → z < length fs → is_kept (strategy_at fs z) ≡ true → IsSameAt z (names_before fs o args kept one) (names_before fs o args kept other)
  kept-same z lt k =
      let is = seen-kept (strategy_at fs z) kept one other z k in
      let e : nat_lt z (length fs) ≡ true = lt-ltb z (length fs) lt in
      record { number = rw e (ap number_of is); mapping = ap entries_of is }

  outside-same : (z : ℕ) → length fs ≤ z → IsSameAt z (names_before fs o args kept one) (names_before fs o args kept other)
  outside-same z le =
      let is = seen-kept (strategy_at fs z) kept one other z (ap is_kept (beyond fs z le)) in
      let e : nat_lt z (length fs) ≡ false = le-ltb z (length fs) le in
      record { number = rw e refl; mapping = ap entries_of is }

-- what a plain operation reads
pub record ReadsKept (fs : List Field) (o : OperationTree) : Type 0 where
  pub test : ℕ → Bool
  pub reading : AreReading test o.steps
  pub knows : (z : ℕ) → z < length fs → test z ≡ true → (is_kept (strategy_at fs z) ≡ true) ⊎ (is_some (field_slot fs o.steps z) ≡ true)

mode-cases : (m : OpMode) (P : Type 0) → (m ≡ mode.Init → P) → ((m ≡ mode.Init → ⊥) → P) → P
mode-cases mode.Init P init other = init refl
mode-cases mode.Transition P init other = other (λ e. cc)
mode-cases mode.Property P init other = other (λ e. cc)

reads-kept : (fs : List Field) (o : OperationTree) → is_plain fs o ≡ true → AreRuled fs o.mode [] o.steps → ReadsKept fs o
reads-kept fs o plain rules = mode-cases o.mode (ReadsKept fs o)
    (λ init. record {
      test = is_outside fs;
      reading = init-reading fs [] o.steps (subst (λ k. AreRuled fs k [] o.steps) init rules);
      knows = λ z lt e. let inside : is_outside fs z ≡ false = ap not (lt-ltb z (length fs) lt) in absurd (cc);
    })
    (λ other. record {
      test = is_at_hand fs o.steps;
      reading = plain-reading fs o o.mode other [] o.steps refl (no-inits fs o.mode [] o.steps other rules) rules plain;
      knows = λ z lt e. at-hand-cases (nat_lt z (length fs)) (is_kept (strategy_at fs z)) (is_some (field_slot fs o.steps z)) (lt-ltb z (length fs) lt) e;
    })

-- what is read is the same when the variables' slots are done
at-start : (fs : List Field) (o : OperationTree) (args : List ℤ) (kept : Kept) (one other : State) (r : ReadsKept fs o) (y : Exchanging) (u : Valuation)
    → ((z : ℕ) → IsSameAt z (names_before fs o args kept one) (names_before fs o args kept other) → IsSameAt z y.names u)
    → AllByRecursion (λ (f : ℕ). is_some (field_slot fs o.steps f) ≡ true → IsSameAt f y.names u) (range_with_len 0 (length fs)) → (z : ℕ) → r.test z ≡ true → IsSameAt z y.names u
at-start fs o args kept one other r y u keeps learns z e = cases (cases_lt z (length fs)) where
  inside : (lt : z < length fs) → (is_kept (strategy_at fs z) ≡ true) ⊎ (is_some (field_slot fs o.steps z) ≡ true) → IsSameAt z y.names u
  inside lt (inl k) = keeps z (kept-same fs o args kept one other z lt k)
  inside lt (inr k) = at-number (λ f. is_some (field_slot fs o.steps f) ≡ true → IsSameAt f y.names u) (length fs) z learns lt k

  cases : (z < length fs) ⊎ (length fs ≤ z) → IsSameAt z y.names u
  cases (inl lt) = inside lt (r.knows z lt e)
  cases (inr le) = keeps z (outside-same fs o args kept one other z le)

-- ---- the whole

pub whole-unread : (fit : ℤ → Bool) → ReadsNoState fit
whole-unread fit m symbols named strategies o has plain args tokens given hand kept one other =
    let fs = m.fields in
    let rules = regular m symbols named strategies o has in
    let r = reads-kept fs o plain rules.rules in
    let x = beginning fs o args tokens given one hand kept in
    let w = names_before fs o args kept other in
    let ns = range_with_len 0 (length fs) in
    let laws : AreLawful fs r.test o.params [] o.steps = are-lawful fs o.mode r.test o.params [] o.steps rules.few rules.rules rules.statements rules.texts.bound r.reading in
    alike-outcome Anything _ _
    (alike-bind (Learns fs o.steps ns x w) Anything (use_variables (filter_map (field_slot fs o.steps) ns) x) (use_variables (filter_map (field_slot fs o.steps) ns) (renamed w x)) (does_all fit fs o.steps)
    (variables-alike fs o.steps ns x w)
    (λ y u k. does_all-alike fit fs r.test o.params [] o.steps y u laws
    (record { number = λ z e. (at-start fs o args kept one other r y u k.0 k.1 z (and_left _ _ e)).number; mapping = λ z e. (at-start fs o args kept one other r y u k.0 k.1 z (and_left _ _ e)).mapping })))
