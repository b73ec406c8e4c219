-- All statements of an operation, one after the other.
use Rattle.std.proofs.Common.{◌≡◌, ℕ, ◌+◌, ◌≤◌, ℤ, Bool, true, false, ◌&&◌, List, [], ◌∷◌, ◌++◌, length, append_assoc, Option, Some, None, is_some, Ok, refl, sym, ap, subst, ◌∙◌, arith, if◌then◌else◌, nat_eq, nat_lt}
use Rattle.std.specs.List.{AllByRecursion, cons_option}
use Rattle.std.proofs.lemmas.Bool.{eqb-true, eq-eqb}
use Rattle.std.proofs.lemmas.List.Folds.{list_any-append}
use Rattle.std.proofs.lemmas.List.Elements.{filter_map-append}
use Rattle.sync_terms.specs.Trees.{Tree}
use Rattle.sync_terms.specs.Values.{Valuation}
use Rattle.sync_machine.specs.declared.fields.Field.{Field}
use Rattle.sync_base.specs.declared.strategies.Strategy.{Strategy}
use Rattle.sync_base.specs.declared.strategies.Strategy.TheVariants.{Variable, Constant, NotTokenized, Option as OptionField, Map, Set, Multiset, Count, PersistentOption, PersistentMap, PersistentSet, PersistentCount, StorageMap}
use Rattle.sync_machine.specs.Machines.{PlaceTree, ActTree, StepTree}
use Rattle.sync_machine.specs.Machines as acts
use Rattle.sync_machine.specs.Statements.{binds, changed_by}
use Rattle.sync_machine.specs.States.{Value, State, strategy_at, strategy_of, current_of, advanced, last_values, IsMet, AreMet, IsKeptSafe}
use Rattle.sync_machine.specs.Scope.{knows}
use Rattle.sync_machine.specs.Naming.{bound_by, bound_names, is_in}
use Rattle.sync_rules.specs.Locality.{is_variable}
use Rattle.sync_join.specs.declared.tokens.Token.{Token}
use Rattle.sync_join.specs.Shards.{perm}
use Rattle.sync_join.specs.Join.{number_of}
use Rattle.sync_exchange.specs.declared.hands.XStop.TheVariants.{Width, RequireFalse}
use Rattle.sync_exchange.specs.Exchange.{Exchanging, unless, token_name, revaluing, after_reading, after_taking, after_seeing, after_giving, binding, storing, withdrawn, permission, key_at, started, updated, new_value, value_fits, does, does_all}
use Rattle.sync_exchange.proofs.Terms.{Same, and_left, and_right, or_left, or_right}
use Rattle.sync_exchange.proofs.Passing.{either, unless-ok, ok_is, bind-ok, asked-token, asked-object}
use Rattle.sync_exchange.proofs.Lawful.{IsLawful, gives}
use Rattle.sync_exchange.proofs.Standing.{IsUnderWay, IsReady, GoesAlong}
use Rattle.sync_exchange.proofs.Doing.{doing-remove, doing-have, doing-require, doing-assert, doing-variable, doing-add, doing-deposit, doing-withdraw, doing-guard, doing-update}

-- ---- what symbols stand for changes where a name is bound alone

-- a symbol stands for the same as before
pub record IsSameAt (z : ℕ) (v w : Valuation) : Type 0 where
  pub number : v.number z ≡ w.number z
  pub mapping : v.mapping z ≡ w.mapping z

pub same-at : (z : ℕ) (v w : Valuation) → v ≡ w → IsSameAt z v w
same-at z v w e = record { number = ap (λ (u : Valuation). u.number z) e; mapping = ap (λ (u : Valuation). u.mapping z) e }

pub same-through : (z : ℕ) (u v w : Valuation) → IsSameAt z u v → IsSameAt z v w → IsSameAt z u w
same-through z u v w a b = record { number = a.number ∙ b.number; mapping = a.mapping ∙ b.mapping }

pub not_equal : (z y : ℕ) → (y ≡ z → ⊥) → nat_eq z y ≡ false
not_equal z y h = cases (nat_eq z y) refl where
  cases : (b : Bool) → nat_eq z y ≡ b → b ≡ false
  cases true e = absurd (h (sym (eqb-true z y e)))
  cases false e = refl

binding-other : (o : Option ℕ) (n : ℤ) (x : Exchanging) (z : ℕ) → (o ≡ Some z → ⊥) → IsSameAt z x.names (binding o n x).names
binding-other None n x z h = record { number = refl; mapping = refl }
binding-other (Some y) n x z h =
    let other = not_equal z y (λ e. h (ap Some e)) in
    record { number = rw other refl; mapping = rw other refl }

revaluing-names : (f : ℕ) (n : ℤ) (x : Exchanging) → x.names ≡ (revaluing f n x).names
revaluing-names f n x = either (token_name f x.variables) (x.names ≡ (revaluing f n x).names) (λ none. rw none refl) (λ name some. rw some refl)

pub started-names : (s : Strategy) (f : ℕ) (w : Value) (x : Exchanging) → x.names ≡ (started s f w x).names
started-names Variable f w x = revaluing-names f (number_of w) x
started-names Constant f w x = refl
started-names NotTokenized f w x = refl
started-names OptionField f w x = refl
started-names Map f w x = refl
started-names Set f w x = refl
started-names Multiset f w x = refl
started-names Count f w x = refl
started-names PersistentOption f w x = refl
started-names PersistentMap f w x = refl
started-names PersistentSet f w x = refl
started-names PersistentCount f w x = refl
started-names StorageMap f w x = refl

pub updated-names : (s : Strategy) (f : ℕ) (w : Value) (x : Exchanging) → x.names ≡ (updated s f w x).names
updated-names Variable f w x = revaluing-names f (number_of w) x
updated-names Constant f w x = refl
updated-names NotTokenized f w x = refl
updated-names OptionField f w x = refl
updated-names Map f w x = refl
updated-names Set f w x = refl
updated-names Multiset f w x = refl
updated-names Count f w x = refl
updated-names PersistentOption f w x = refl
updated-names PersistentMap f w x = refl
updated-names PersistentSet f w x = refl
updated-names PersistentCount f w x = refl
updated-names StorageMap f w x = refl

module _ (fit : ℤ → Bool) (fs : List Field) (x y : Exchanging) (z : ℕ) where
  names-of : (u : Exchanging) → u ≡ y → IsSameAt z u.names y.names
  names-of u e = same-at z u.names y.names (ap (λ (w : Exchanging). w.names) e)

  pub names-kept : (line : ℕ) (a : ActTree) → does fit fs (record { act = a; line = line }) x ≡ Ok y → (bound_by a ≡ Some z → ⊥) → IsSameAt z x.names y.names
  unfolding does bound_by
  names-kept line (acts.Require form) e other =
      let a = unless-ok Width _ _ y e in
      let b = unless-ok (RequireFalse line) _ (Ok x) y a.1 in
      names-of x (ok_is x y b.1)
  names-kept line (acts.Assert form) e other = names-of x (ok_is x y e)
  names-kept line (acts.HaveVariable f) e other = names-of x (ok_is x y e)
  names-kept line (acts.Init f t) e other =
      let a = unless-ok Width _ _ y e in
      let u = started (strategy_at fs f) f (new_value fs f t x) x in
      same-through z x.names u.names y.names (same-at z _ _ (started-names (strategy_at fs f) f (new_value fs f t x) x)) (names-of u (ok_is u y a.1))
  names-kept line (acts.Update f t) e other =
      let a = unless-ok Width _ _ y e in
      let u = updated (strategy_at fs f) f (new_value fs f t x) x in
      same-through z x.names u.names y.names (same-at z _ _ (updated-names (strategy_at fs f) f (new_value fs f t x) x)) (names-of u (ok_is u y a.1))
  names-kept line (acts.Remove f p) e other =
      let a = asked-token fit f p x _ y e in
      same-through z x.names _ y.names (binding-other (binds p) a.token.value (after_taking x) z other) (names-of (binding (binds p) a.token.value (after_taking x)) a.answer)
  names-kept line (acts.Have f p) e other =
      let a = asked-token fit f p x _ y e in
      same-through z x.names _ y.names (binding-other (binds p) a.token.value (after_reading x) z other) (names-of (binding (binds p) a.token.value (after_reading x)) a.answer)
  names-kept line (acts.Add f p) e other =
      let a = unless-ok Width _ _ y e in names-of _ (ok_is _ y a.1)
  names-kept line (acts.Deposit f p) e other =
      let a = asked-token fit perm p x _ y e in names-of _ a.answer
  names-kept line (acts.Withdraw f p) e other =
      let a = asked-object fit f p x _ y e in
      let u = storing (withdrawn f (key_at p x) x.kept.stored) (after_giving (permission (key_at p x) a.number) x) in
      same-through z x.names _ y.names (binding-other (binds p) a.number u z other) (names-of (binding (binds p) a.number u) a.answer)
  names-kept line (acts.Guard f p) e other =
      let a = asked-object fit f p x _ y e in
      same-through z x.names _ y.names (binding-other (binds p) a.number (after_seeing x) z other) (names-of (binding (binds p) a.number (after_seeing x)) a.answer)

-- ---- which symbols are known at a statement

abbrev pub is_known_by : List Field → List ℕ → ℕ → Bool
is_known_by fs names z = is_some (knows fs names z)

abbrev pub IsFresh : List Field → List ℕ → ActTree → Type 0
IsFresh fs names a = (z : ℕ) → bound_by a ≡ Some z → is_known_by fs names z ≡ false

-- the statements behind these earlier ones keep the rules, and read trusted symbols alone that are known by then
abbrev pub AreLawful : List Field → (ℕ → Bool) → List ℕ → List StepTree → List StepTree → Type 0
AreLawful fs trusted params before [] = Unit {0}
AreLawful fs trusted params before (s ∷ ss) =
    IsLawful fs (λ z. trusted z && is_known_by fs (params ++ bound_names before) z) s.act × IsFresh fs (params ++ bound_names before) s.act × AreLawful fs trusted params (before ++ s ∷ []) ss

known-cases : (b c d : Bool) (fs : List Field) (z : ℕ) → (c ≡ true → d ≡ true) → is_some (if b then Some (Rattle.sync_machine.specs.States.sort_of (strategy_at fs z)) else (if c then Some Rattle.sync_machine.specs.States.Numbers else None)) ≡ true
    → is_some (if b then Some (Rattle.sync_machine.specs.States.sort_of (strategy_at fs z)) else (if d then Some Rattle.sync_machine.specs.States.Numbers else None)) ≡ true
known-cases true c d fs z h e = refl
known-cases false true d fs z h e = rw (h refl) refl
known-cases false false d fs z h e = absurd (cc)

pub known-more : (fs : List Field) (names more : List ℕ) (z : ℕ) → (is_in z names ≡ true → is_in z more ≡ true) → is_known_by fs names z ≡ true → is_known_by fs more z ≡ true
known-more fs names more z h e = known-cases (nat_lt z (length fs)) (is_in z names) (is_in z more) fs z h e

pub known-later : (fs : List Field) (params : List ℕ) (before rest : List StepTree) (z : ℕ) → is_known_by fs (params ++ bound_names before) z ≡ true → is_known_by fs (params ++ bound_names (before ++ rest)) z ≡ true
known-later fs params before rest z e =
    known-more fs (params ++ bound_names before) (params ++ bound_names (before ++ rest)) z
    (λ h. ap (is_in z) (ap (λ ys. params ++ ys) (filter_map-append (λ (t : StepTree). bound_by t.act) before rest) ∙ sym (append_assoc params (bound_names before) (bound_names rest)))
    ∙ list_any-append (nat_eq z) (params ++ bound_names before) (bound_names rest) ∙ or_left _ _ h) e

pub known-in : (fs : List Field) (names : List ℕ) (z : ℕ) → is_in z names ≡ true → is_known_by fs names z ≡ true
known-in fs names z h = cases (nat_lt z (length fs)) where
  cases : (b : Bool) → is_some (if b then Some (Rattle.sync_machine.specs.States.sort_of (strategy_at fs z)) else (if is_in z names then Some Rattle.sync_machine.specs.States.Numbers else None)) ≡ true
  cases true = refl
  cases false = rw h refl

pub known-bound : (fs : List Field) (params : List ℕ) (before : List StepTree) (s : StepTree) (z : ℕ) → bound_by s.act ≡ Some z → is_known_by fs (params ++ bound_names (before ++ s ∷ [])) z ≡ true
known-bound fs params before s z e =
    known-in fs (params ++ bound_names (before ++ s ∷ [])) z
    (list_any-append (nat_eq z) params (bound_names (before ++ s ∷ []))
    ∙ or_right (is_in z params) _
    (ap (is_in z) (filter_map-append (λ (t : StepTree). bound_by t.act) before (s ∷ []))
    ∙ list_any-append (nat_eq z) (bound_names before) (bound_names (s ∷ []))
    ∙ or_right (is_in z (bound_names before)) _
    (ap (λ (o : Option ℕ). is_in z (cons_option o [])) e ∙ or_left (nat_eq z z) false (eq-eqb z z refl))))

-- a new name is no field's
pub fresh-beyond : (fs : List Field) (names : List ℕ) (z : ℕ) → is_known_by fs names z ≡ false → nat_lt z (length fs) ≡ false
fresh-beyond fs names z e = cases (nat_lt z (length fs)) e where
  cases : (b : Bool) → is_some (if b then Some (Rattle.sync_machine.specs.States.sort_of (strategy_at fs z)) else (if is_in z names then Some Rattle.sync_machine.specs.States.Numbers else None)) ≡ false → b ≡ false
  cases true e = absurd (cc)
  cases false e = refl

unfoldable pub total_gives : List Field → List StepTree → ℕ
total_gives fs [] = 0
total_gives fs (s ∷ ss) = gives fs s.act + total_gives fs ss

-- every variable that a statement changes has a token
abbrev pub AreUsed : List Field → List (ℕ × ℕ) → List StepTree → Type 0
AreUsed fs vars ss = AllByRecursion (λ (s : StepTree). (f : ℕ) → changed_by s.act ≡ Some f → is_variable (strategy_at fs f) ≡ true → (name : ℕ) × (token_name f vars ≡ Some name)) ss

-- what is known of a statement that has been done
pub record IsStepDone (fit : ℤ → Bool) (fs : List Field) (v : Valuation) (others : List Token) (cur : List Tree) (s : StepTree) (x y : Exchanging) : Type 0 where
  pub stands : IsUnderWay fs v others x cur
  -- the symbols that the statement may read
  pub reads : ℕ → Bool
  pub ready : IsReady fs v reads x y cur s.act
  pub did : does fit fs s x ≡ Ok y
  pub goes : GoesAlong fs v others x y cur s.act

-- statement by statement from one point of an exchange to another
unfoldable pub Walk : (ℤ → Bool) → List Field → Valuation → List Token → List Tree → List StepTree → Exchanging → Exchanging → Type 0
Walk fit fs v others cur [] x y = IsUnderWay fs v others x cur × (x ≡ y)
Walk fit fs v others cur (s ∷ ss) x y = (u : Exchanging) × IsStepDone fit fs v others cur s x u × Walk fit fs v others (advanced fs cur s.act) ss u y

-- the statements have been done
pub record AreDone (fs : List Field) (v : Valuation) (others : List Token) (y : Exchanging) (cur : List Tree) (ss : List StepTree) : Type 0 where
  pub met : AreMet fs v cur ss
  pub stands : IsUnderWay fs v others y (last_values fs cur ss)

pub walked : (fit : ℤ → Bool) (fs : List Field) (v : Valuation) (others : List Token) (ss : List StepTree) (x y : Exchanging) (cur : List Tree)
    → Walk fit fs v others cur ss x y → AreDone fs v others y cur ss
unfolding Walk AreMet last_values
walked fit fs v others [] x y cur w = record { met = tt; stands = subst (λ u. IsUnderWay fs v others u cur) w.1 w.0 }
walked fit fs v others (s ∷ ss) x y cur w =
    let rest = walked fit fs v others ss w.0 y (advanced fs cur s.act) w.2 in record { met = (w.1.goes.met, rest.met); stands = rest.stands }

module _ (fit : ℤ → Bool) (fs : List Field) (few : length fs ≤ 32) (trusted : ℕ → Bool) (params : List ℕ) where
  pub names-kept_all : (before ss : List StepTree) (x y : Exchanging) → AreLawful fs trusted params before ss → does_all fit fs ss x ≡ Ok y
      → (z : ℕ) → is_known_by fs (params ++ bound_names before) z ≡ true → IsSameAt z x.names y.names
  names-kept_all before [] x y laws e z known = same-at z x.names y.names (ap (λ (w : Exchanging). w.names) (ok_is x y e))
  names-kept_all before (s ∷ ss) x y laws e z known =
      let a = bind-ok (does fit fs s x) (does_all fit fs ss) y e in
      same-through z x.names a.0.names y.names
      (names-kept fit fs x a.0 z s.line s.act a.1 (λ b. let fresh = laws.1 z b in absurd (cc)))
      (names-kept_all (before ++ s ∷ []) ss a.0 y laws.2 a.2 z (known-later fs params before (s ∷ []) z known))

  module _ (v : Valuation) (others : List Token) (Extra : List StepTree → Exchanging → List Tree → Type 0)
      (init : (q : ℕ → Bool) (x y : Exchanging) (cur : List Tree) (f : ℕ) (t : Tree) (line : ℕ) (ss : List StepTree) → IsUnderWay fs v others x cur → IsReady fs v q x y cur (acts.Init f t)
      → Extra (record { act = acts.Init f t; line = line } ∷ ss) x cur → unless Width (value_fits fit fs f t x) (Ok (started (strategy_at fs f) f (new_value fs f t x) x)) ≡ Ok y → GoesAlong fs v others x y cur (acts.Init f t))
      (next : (q : ℕ → Bool) (s : StepTree) (ss : List StepTree) (x y : Exchanging) (cur : List Tree) → IsLawful fs q s.act → IsUnderWay fs v others x cur → does fit fs s x ≡ Ok y → Extra (s ∷ ss) x cur → Extra ss y (advanced fs cur s.act))
      (outside : (z : ℕ) → nat_lt z (length fs) ≡ false → trusted z ≡ true)
    where
      doing : (q : ℕ → Bool) (x y : Exchanging) (cur : List Tree) (line : ℕ) (a : ActTree) (ss : List StepTree) → IsUnderWay fs v others x cur → IsReady fs v q x y cur a
          → Extra (record { act = a; line = line } ∷ ss) x cur → does fit fs (record { act = a; line = line }) x ≡ Ok y → GoesAlong fs v others x y cur a
      unfolding does
      doing q x y cur line (acts.Init f t) ss h r extra e = init q x y cur f t line ss h r extra e
      doing q x y cur line (acts.Require form) ss h r extra e = doing-require fs v others q x y cur h (RequireFalse line) _ form e r
      doing q x y cur line (acts.Assert form) ss h r extra e = doing-assert fs v others q x y cur h form e r
      doing q x y cur line (acts.HaveVariable f) ss h r extra e = doing-variable fs v others q x y cur h f e
      doing q x y cur line (acts.Update f t) ss h r extra e = doing-update fs v others q x y cur h _ f t e r
      doing q x y cur line (acts.Remove f p) ss h r extra e = doing-remove fs v others q x y cur h fit f p e r
      doing q x y cur line (acts.Have f p) ss h r extra e = doing-have fs v others q x y cur h fit f p e r
      doing q x y cur line (acts.Add f p) ss h r extra e = doing-add fs v others q x y cur h _ f p e r
      doing q x y cur line (acts.Deposit f p) ss h r extra e = doing-deposit fs v others q x y cur h few fit f p e r
      doing q x y cur line (acts.Withdraw f p) ss h r extra e = doing-withdraw fs v others q x y cur h few fit f p e r
      doing q x y cur line (acts.Guard f p) ss h r extra e = doing-guard fs v others q x y cur h fit f p e r

      pub going : (before ss : List StepTree) (x y : Exchanging) (cur : List Tree) → AreLawful fs trusted params before ss → does_all fit fs ss x ≡ Ok y → IsUnderWay fs v others x cur
          → IsKeptSafe fs v cur ss → Same trusted y.names v → total_gives fs ss ≤ length x.given → AreUsed fs x.variables ss → Extra ss x cur → Walk fit fs v others cur ss x y
      unfolding Walk IsKeptSafe total_gives
      going before [] x y cur laws e h safe same enough used extra = (h, ok_is x y e)
      going before (s ∷ ss) x y cur laws e h safe same enough used extra =
          let a = bind-ok (does fit fs s x) (does_all fit fs ss) y e in
          let q = λ (z : ℕ). trusted z && is_known_by fs (params ++ bound_names before) z in
          let ready : IsReady fs v q x a.0 cur s.act = record {
            same = record {
              number = λ z k. (names-kept_all before (s ∷ ss) x y laws e z (and_right (trusted z) _ k)).number ∙ same.number z (and_left _ _ k);
              mapping = λ z k. (names-kept_all before (s ∷ ss) x y laws e z (and_right (trusted z) _ k)).mapping ∙ same.mapping z (and_left _ _ k);
            };
            lawful = laws.0;
            safe = safe.0;
            bound = λ z b. (names-kept_all (before ++ s ∷ []) ss a.0 y laws.2 a.2 z (known-bound fs params before s z b)).number ∙ same.number z (outside z (fresh-beyond fs _ z (laws.1 z b)));
            enough = omega arith;
            used = used.0;
          } in
          let moves = doing q x a.0 cur s.line s.act ss h ready extra a.1 in
          let rest = going (before ++ s ∷ []) ss a.0 y (advanced fs cur s.act) laws.2 a.2 moves.stands (safe.1 moves.met) same
          (let g = moves.given in omega (arith, g, enough))
          (subst (λ vars. AreUsed fs vars ss) (sym moves.variables) used.1)
          (next q s ss x a.0 cur laws.0 h a.1 extra) in
          (a.0, record { stands = h; reads = q; ready = ready; did = a.1; goes = moves }, rest)
