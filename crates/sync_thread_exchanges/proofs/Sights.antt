-- Where the conditions of an operation hold, what a thread finds at it is what the valuation of the laws says.
use Rattle.std.proofs.Common.{◌≡◌, ℕ, zero, suc, ◌+◌, ◌<◌, ◌≤◌, ℤ, pos, Bool, true, false, not, ◌&&◌, ◌||◌, List, [], ◌∷◌, ◌++◌, length, map, get_or, append_assoc, append-nil, Option, Some, None, is_none, inl, inr, ◌⊎◌, refl, sym, ap, subst, ◌∙◌, arith, nat_eq, nat_lt, nat_le}
use Rattle.std.specs.List.{AllByRecursion, Contains, cons_option, range_with_len}
use Rattle.std.specs.Ordering.{int_eq}
use Rattle.std.proofs.lemmas.Bool.{false≢true, eqb-true, eq-eqb, lt-ltb, ltb-true, ltb-false, le-ltb, cases_lt}
use Rattle.std.proofs.lemmas.List.{get_or_past}
use Rattle.std.proofs.lemmas.List.Folds.{list_any-append}
use Rattle.std.proofs.lemmas.List.Elements.{filter_map-append}
use Rattle.sync_base.specs.declared.stops.Rule.{Rule}
use Rattle.sync_base.specs.declared.stops.Rule.TheVariants.{N5}
use Rattle.sync_terms.specs.Trees.{Tree, Name, Nil, Get, Formula}
use Rattle.sync_terms.specs.Maps as maps
use Rattle.sync_terms.specs.Values.{Valuation, num, mapped, truth, with_value}
use Rattle.sync_machine.specs.declared.fields.Field.{Field}
use Rattle.sync_base.specs.declared.strategies.OpMode.{OpMode}
use Rattle.sync_base.specs.declared.strategies.OpMode.TheVariants as mode
use Rattle.sync_base.specs.declared.strategies.Strategy.{Strategy}
use Rattle.sync_base.specs.declared.strategies.Strategy.TheVariants.{Variable, Constant, NotTokenized, Option as OptionField, Map, Set, Multiset, Count, PersistentOption, PersistentMap, PersistentSet, PersistentCount, StorageMap}
use Rattle.sync_machine.specs.Machines.{PatternTree, Bind, Term, PlaceTree, ActTree, StepTree, OperationTree}
use Rattle.sync_machine.specs.Machines as acts
use Rattle.sync_machine.specs.Naming.{broken, at_line, first_fault, bound_by, bound_names, is_in, act_fault, step_fault}
use Rattle.sync_machine.specs.Scope.{knows}
use Rattle.sync_machine.proofs.Checks.{first_both}
use Rattle.sync_machine.specs.Named.{own_names}
use Rattle.sync_machine.specs.Statements.{or_one, bound_in, is_there, is_there_with, both, key_of, value_of, binds, condition, enabling, safety, presence, amount_is_natural, field_of}
use Rattle.sync_machine.specs.States.{State, Number, strategy_at, strategy_of, current_of, advanced, first_values, sort_of}
use Rattle.sync_machine.specs.Tests.{is_met, are_met, is_kept_safe}
use Rattle.sync_rules.specs.Locality.{names_only, form_names_only, key_names_only, pattern_names_only, place_names_only}
use Rattle.sync_rules.specs.Shapes.{fits, may_bind, has_shape}
use Rattle.sync_rules.specs.declared.kinds.OpKind.TheVariants as kinds
use Rattle.sync_rules.specs.Strategies.{has_statement, kind_of, HasKind}
use Rattle.sync_join.specs.declared.tokens.Token.{Token}
use Rattle.sync_join.proofs.Maps.{equal}
use Rattle.sync_exchange.proofs.Terms.{Same, num-same, and_left, and_right, and_both, only-more, form-only-more, formula-known}
use Rattle.sync_exchange.proofs.Lawful.{IsLawful, reads_only}
use Rattle.sync_exchange.proofs.Passing.{either}
use Rattle.sync_exchange.proofs.Strategies.{some_is}
use Rattle.sync_exchange.proofs.OneStrategy.{nothing-bound}
use Rattle.sync_exchange.proofs.Going.{is_known_by, known-in, AreLawful, fresh-beyond, known-later, known-bound}
use Rattle.sync_exchange_laws.specs.Along.{key_under, value_under}
use Rattle.sync_exchange_laws.specs.Guards.{shown_by, shown}
use Rattle.sync_exchange_laws.proofs.Returning.{known-cases}
use Rattle.sync_thread_meaning.specs.Exchanges.{binding_place, bound_at, with_bound, are_safe, guarded_place, key_or, guarded_key}
use Rattle.sync_thread_exchanges.specs.Safety.{first_key}
use Rattle.sync_thread_exchanges.proofs.Names.{condition-same, AssertsOnly, IsSaid, safety-only, AreOnly, current-only, advanced-only, key-only}

-- ---- what a place binds is what the field has there

bound-name : (o : Option PatternTree) (y : ℕ) → bound_in o ≡ Some y → or_one o ≡ Name y
bound-name None y e = absurd (cc)
bound-name (Some (Term t)) y e = absurd (cc)
bound-name (Some (Bind x)) y e = let is : x ≡ y = cc in ap Name is

module _ (v : Valuation) (cur : Tree) (p : PlaceTree) (y : ℕ) (binds_it : binds p ≡ Some y) where
  there-value : truth v (is_there_with cur (key_of p) (value_of p)) ≡ true → num v (Get cur (key_of p)) ≡ v.number y
  unfolding truth
  there-value e =
      equal (num v (Get cur (key_of p))) (num v (value_of p))
      (and_right (truth v (is_there cur (key_of p))) (int_eq (num v (Get cur (key_of p))) (num v (value_of p))) e)
      ∙ ap (num v) (bound-name p.value y binds_it)

  binds-nothing : (P : Type 0) → is_none (binds p) ≡ true → P
  binds-nothing P e = absurd (let none = ap is_none binds_it in cc)

  -- a removal, or a `have`, of a field whose places bind
  present-value : (s : Strategy) → (has_statement s kinds.Remove ≡ true) ⊎ (has_statement s kinds.Have ≡ true)
      → (may_bind s || is_none (binds p)) ≡ true
      → is_met v (both (amount_is_natural s (value_of p)) (presence s cur p)) ≡ true
      → num v (Get cur (key_of p)) ≡ v.number y
  unfolding amount_is_natural presence
  present-value OptionField kind may met = there-value met
  present-value Map kind may met = there-value met
  present-value PersistentOption kind may met = there-value met
  present-value PersistentMap kind may met = there-value met
  present-value Set kind may met = binds-nothing _ may
  present-value Multiset kind may met = binds-nothing _ may
  present-value Count kind may met = binds-nothing _ may
  present-value PersistentSet kind may met = binds-nothing _ may
  present-value PersistentCount kind may met = binds-nothing _ may
  present-value Variable kind may met = binds-nothing _ may
  present-value Constant kind may met = binds-nothing _ may
  present-value NotTokenized kind may met = binds-nothing _ may
  present-value StorageMap (inl kind) may met = absurd (false≢true kind)
  present-value StorageMap (inr kind) may met = absurd (false≢true kind)

-- ---- a name more is known

module _ (fs : List Field) (params : List ℕ) (before : List StepTree) (s : StepTree) where
  abbrev pub so_far : ℕ → Bool
  so_far z = is_known_by fs (params ++ bound_names before) z

  abbrev pub next : ℕ → Bool
  next z = is_known_by fs (params ++ bound_names (before ++ s ∷ [])) z

  last-bound : (o : Option ℕ) (z : ℕ) → is_in z (cons_option o []) ≡ true → o ≡ Some z
  last-bound None z e = absurd (cc)
  last-bound (Some y) z e = ap Some (sym (eqb-true z y (only (nat_eq z y) e))) where
    only : (b : Bool) → (b || false) ≡ true → b ≡ true
    only true e = refl
    only false e = e

  either-in : (a b : Bool) → (a || b) ≡ true → (a ≡ true) ⊎ (b ≡ true)
  either-in true b e = inl refl
  either-in false b e = inr e

  field-known : (names : List ℕ) (z : ℕ) → nat_lt z (length fs) ≡ true → is_known_by fs names z ≡ true
  field-known names z e = rw e refl

  next-cases : (z : ℕ) → next z ≡ true → (so_far z ≡ true) ⊎ (bound_by s.act ≡ Some z)
  next-cases z e =
      cases (known-cases (nat_lt z (length fs)) (is_in z (params ++ bound_names (before ++ s ∷ [])))
      (sort_of (strategy_at fs z)) e) where
        names : params ++ bound_names (before ++ s ∷ []) ≡ (params ++ bound_names before)
            ++ cons_option (bound_by s.act) []
        names =
            ap (λ (ys : List ℕ). params ++ ys) (filter_map-append (λ (t : StepTree). bound_by t.act) before (s ∷ []))
            ∙ sym (append_assoc params (bound_names before) (cons_option (bound_by s.act) []))

        parts : is_in z (params ++ bound_names (before ++ s ∷ [])) ≡ true
            → (is_in z (params ++ bound_names before) || is_in z (cons_option (bound_by s.act) [])) ≡ true
        parts h =
            sym (list_any-append (nat_eq z) (params ++ bound_names before) (cons_option (bound_by s.act) []))
            ∙ sym (ap (is_in z) names) ∙ h

        cases : (nat_lt z (length fs) ≡ true) ⊎ (is_in z (params ++ bound_names (before ++ s ∷ [])) ≡ true)
            → (so_far z ≡ true) ⊎ (bound_by s.act ≡ Some z)
        cases (inl field) = inl (field-known (params ++ bound_names before) z field)
        cases (inr name) =
            own (either-in (is_in z (params ++ bound_names before)) (is_in z (cons_option (bound_by s.act) []))
            (parts name)) where
              own : (is_in z (params ++ bound_names before) ≡ true) ⊎ (is_in z (cons_option (bound_by s.act) []) ≡ true)
                  → (so_far z ≡ true) ⊎ (bound_by s.act ≡ Some z)
              own (inl here) = inl (known-in fs (params ++ bound_names before) z here)
              own (inr last) = inr (last-bound (bound_by s.act) z last)

  module _ (v w : Valuation) (same : Same so_far w v) where
    same-unbound : bound_by s.act ≡ None → Same next w v
    same-unbound none = record
        { number = λ z e. number z (next-cases z e); mapping = λ z e. mapping z (next-cases z e) } where
          number : (z : ℕ) → (so_far z ≡ true) ⊎ (bound_by s.act ≡ Some z) → w.number z ≡ v.number z
          number z (inl e) = same.number z e
          number z (inr e) = absurd (let no = sym none ∙ e in cc)

          mapping : (z : ℕ) → (so_far z ≡ true) ⊎ (bound_by s.act ≡ Some z) → w.mapping z ≡ v.mapping z
          mapping z (inl e) = same.mapping z e
          mapping z (inr e) = absurd (let no = sym none ∙ e in cc)

    module _ (y : ℕ) (n : ℤ) (bound : bound_by s.act ≡ Some y) (value : n ≡ v.number y)
        (nil : v.mapping y ≡ maps.nil) where
      other-name : (z : ℕ) → nat_eq z y ≡ false → bound_by s.act ≡ Some z → ⊥
      other-name z apart e = let is : y ≡ z = some_is y z (sym bound ∙ e) in let yes = eq-eqb z y (sym is) in cc

      number-next : (z : ℕ) (b : Bool) → nat_eq z y ≡ b → (so_far z ≡ true) ⊎ (bound_by s.act ≡ Some z)
          → (with_value y n maps.nil w).number z ≡ v.number z
      number-next z true is known = rw is (value ∙ ap v.number (sym (eqb-true z y is)))
      number-next z false is (inl e) = rw is (same.number z e)
      number-next z false is (inr e) = absurd (other-name z is e)

      mapping-next : (z : ℕ) (b : Bool) → nat_eq z y ≡ b → (so_far z ≡ true) ⊎ (bound_by s.act ≡ Some z)
          → (with_value y n maps.nil w).mapping z ≡ v.mapping z
      mapping-next z true is known = rw is (sym nil ∙ ap v.mapping (sym (eqb-true z y is)))
      mapping-next z false is (inl e) = rw is (same.mapping z e)
      mapping-next z false is (inr e) = absurd (other-name z is e)

      same-bound : Same next (with_value y n maps.nil w) v
      same-bound = record {
        number = λ z e. number-next z (nat_eq z y) refl (next-cases z e);
        mapping = λ z e. mapping-next z (nat_eq z y) refl (next-cases z e);
      }

    -- ---- behind a statement

    -- its place, whose value the field has there
    at-place : (cur : Tree) (p : PlaceTree) → bound_by s.act ≡ binds p → names_only so_far (key_of p) ≡ true
        → names_only so_far cur ≡ true
        → ((y : ℕ) → binds p ≡ Some y → num v (Get cur (key_of p)) ≡ v.number y)
        → ((y : ℕ) → binds p ≡ Some y → v.mapping y ≡ maps.nil) → Same next (bound_at cur p (binds p) w) v
    unfolding names_only
    at-place cur p by key current value nil =
        either (binds p) (Same next (bound_at cur p (binds p) w) v)
        (λ none. rw none (same-unbound (by ∙ none)))
        (λ y some.
        let read : num w (Get cur (key_of p)) ≡ num v (Get cur (key_of p)) =
        num-same so_far w v same (Get cur (key_of p))
        (both-known (names_only so_far cur) (names_only so_far (key_of p)) current key) in
        rw some (same-bound y (num w (Get cur (key_of p))) (by ∙ some) (read ∙ value y some) (nil y some))) where
          both-known : (a b : Bool) → a ≡ true → b ≡ true → (a && b) ≡ true
          both-known true b p q = q
          both-known false b p q = absurd (cc)

-- ---- statements

-- what a statement names is named behind it too
module _ (p q : ℕ → Bool) (more : (z : ℕ) → p z ≡ true → q z ≡ true) where
  tree-more : (t : Tree) → names_only p t ≡ true → names_only q t ≡ true
  tree-more t e = only-more p q t (λ z named. more z) e

  form-more : (f : Formula) → form_names_only p f ≡ true → form_names_only q f ≡ true
  form-more f e = form-only-more p q f (λ z named. more z) e

  key-more : (o : Option Tree) → key_names_only p o ≡ true → key_names_only q o ≡ true
  key-more None e = refl
  key-more (Some t) e = tree-more t e

  pattern-more : (o : Option PatternTree) → pattern_names_only p o ≡ true → pattern_names_only q o ≡ true
  pattern-more None e = refl
  pattern-more (Some (Bind z)) e = refl
  pattern-more (Some (Term t)) e = tree-more t e

  place-more : (l : PlaceTree) → place_names_only p l ≡ true → place_names_only q l ≡ true
  place-more l e =
      and_both _ _ (key-more l.key (and_left _ _ e)) (pattern-more l.value (and_right (key_names_only p l.key) _ e))

  reads-more : (a : ActTree) → reads_only p a ≡ true → reads_only q a ≡ true
  unfolding reads_only
  reads-more (acts.Init f t) e = tree-more t e
  reads-more (acts.Update f t) e = tree-more t e
  reads-more (acts.Require form) e = form-more form e
  reads-more (acts.Assert form) e = refl
  reads-more (acts.HaveVariable f) e = refl
  reads-more (acts.Add f l) e = place-more l e
  reads-more (acts.Remove f l) e = place-more l e
  reads-more (acts.Have f l) e = place-more l e
  reads-more (acts.Deposit f l) e = place-more l e
  reads-more (acts.Withdraw f l) e = place-more l e
  reads-more (acts.Guard f l) e = place-more l e

  asserts-more : (a : ActTree) → AssertsOnly p a → AssertsOnly q a
  asserts-more (acts.Assert form) e = form-more form e
  asserts-more (acts.Require form) e = tt
  asserts-more (acts.Init f t) e = tt
  asserts-more (acts.Update f t) e = tt
  asserts-more (acts.HaveVariable f) e = tt
  asserts-more (acts.Add f l) e = tt
  asserts-more (acts.Remove f l) e = tt
  asserts-more (acts.Have f l) e = tt
  asserts-more (acts.Deposit f l) e = tt
  asserts-more (acts.Withdraw f l) e = tt
  asserts-more (acts.Guard f l) e = tt

  values-more : (cur : List Tree) → AreOnly p cur → AreOnly q cur
  values-more [] e = tt
  values-more (t ∷ ts) e = (tree-more t e.0, values-more ts e.1)

-- the names of asserts are known
asserts-known : (fs : List Field) (names : List ℕ) (a : ActTree) → act_fault fs names a ≡ None
    → AssertsOnly (is_known_by fs names) a
unfolding act_fault
asserts-known fs names (acts.Assert form) e = formula-known (knows fs names) form e
asserts-known fs names (acts.Require form) e = tt
asserts-known fs names (acts.Init f t) e = tt
asserts-known fs names (acts.Update f t) e = tt
asserts-known fs names (acts.HaveVariable f) e = tt
asserts-known fs names (acts.Add f p) e = tt
asserts-known fs names (acts.Remove f p) e = tt
asserts-known fs names (acts.Have f p) e = tt
asserts-known fs names (acts.Deposit f p) e = tt
asserts-known fs names (acts.Withdraw f p) e = tt
asserts-known fs names (acts.Guard f p) e = tt

no-line : (line : ℕ) (o : Option Rule) → at_line line o ≡ None → o ≡ None
no-line line (Some r) e = absurd (cc)
no-line line None e = refl

abbrev pub AreAsserting : List Field → List ℕ → List StepTree → List StepTree → Type 0
AreAsserting fs params before [] = Unit {0}
AreAsserting fs params before (s ∷ ss) =
    AssertsOnly (is_known_by fs (params ++ bound_names before)) s.act × AreAsserting fs params (before ++ s ∷ []) ss

pub are-asserting : (fs : List Field) (params : List ℕ) (before ss : List StepTree)
    → first_fault (step_fault fs params) before ss ≡ None → AreAsserting fs params before ss
unfolding first_fault step_fault
are-asserting fs params before [] e = tt
are-asserting fs params before (s ∷ ss) e =
    let a = first_both (step_fault fs params before s) _ e in
    let b = first_both (broken (nat_le 64 (length before)) N5) _ (no-line s.line _ a.0) in
    (asserts-known fs (params ++ bound_names before) s.act b.1, are-asserting fs params (before ++ s ∷ []) ss a.1)

-- ---- all statements

module _ (fs : List Field) (params : List ℕ) (v : Valuation)
    (nil : (z : ℕ) → nat_lt z (length fs) ≡ false → v.mapping z ≡ maps.nil) where
  abbrev known : List StepTree → ℕ → Bool
  known before z = is_known_by fs (params ++ bound_names before) z

  -- a statement's name stands behind it for what the field has there
  module _ (before : List StepTree) (line : ℕ) (a : ActTree) (cur : Tree) (w : Valuation)
      (lawful : IsLawful fs (known before) a)
      (fresh : (z : ℕ) → bound_by a ≡ Some z → known before z ≡ false)
      (current : names_only (known before) cur ≡ true) (same : Same (known before) w v) where
    abbrev step : StepTree
    step = record { act = a; line = line }

    unbound : bound_by a ≡ None → Same (known (before ++ step ∷ [])) w v
    unbound none = same-unbound fs params before step v w same none

    placed-so : (p : PlaceTree) → bound_by a ≡ binds p → place_names_only (known before) p ≡ true
        → ((y : ℕ) → binds p ≡ Some y → num v (Get cur (key_of p)) ≡ v.number y)
        → Same (known (before ++ step ∷ [])) (bound_at cur p (binds p) w) v
    placed-so p by reads value =
        at-place fs params before step v w same cur p by (key-only (known before) p.key (and_left _ _ reads))
        current value
        (λ y some. nil y (fresh-beyond fs (params ++ bound_names before) y (fresh y (by ∙ some))))

  behind : (before : List StepTree) (line : ℕ) (a : ActTree) (cur : Tree) (w : Valuation)
      → IsLawful fs (known before) a → ((z : ℕ) → bound_by a ≡ Some z → known before z ≡ false)
      → names_only (known before) cur ≡ true → Same (known before) w v
      → is_met v (condition (strategy_of fs a) cur a) ≡ true
      → Same (known (before ++ record { act = a; line = line } ∷ [])) (with_bound cur (binding_place a) w) v
  unfolding bound_by fits field_of reads_only condition enabling kind_of safety
  behind before line (acts.Remove f p) cur w lawful fresh current same met =
      placed-so before line (acts.Remove f p) cur w lawful fresh current same p refl lawful.reads
      (λ y some. present-value v cur p y some (strategy_at fs f) (inl lawful.allowed)
      (and_right (has_shape (strategy_at fs f) p) _ lawful.fit) met)
  behind before line (acts.Have f p) cur w lawful fresh current same met =
      placed-so before line (acts.Have f p) cur w lawful fresh current same p refl lawful.reads
      (λ y some. present-value v cur p y some (strategy_at fs f) (inr lawful.allowed)
      (and_right (has_shape (strategy_at fs f) p) _ lawful.fit) met)
  behind before line (acts.Withdraw f p) cur w lawful fresh current same met =
      placed-so before line (acts.Withdraw f p) cur w lawful fresh current same p refl lawful.reads
      (λ y some. there-value v cur p y some met)
  behind before line (acts.Guard f p) cur w lawful fresh current same met =
      placed-so before line (acts.Guard f p) cur w lawful fresh current same p refl lawful.reads
      (λ y some. there-value v cur p y some met)
  behind before line (acts.Add f p) cur w lawful fresh current same met =
      unbound before line (acts.Add f p) cur w lawful fresh current same (nothing-bound (strategy_at fs f) p lawful.fit)
  behind before line (acts.Deposit f p) cur w lawful fresh current same met =
      unbound before line (acts.Deposit f p) cur w lawful fresh current same
      (nothing-bound (strategy_at fs f) p lawful.fit)
  behind before line (acts.Init f t) cur w lawful fresh current same met =
      unbound before line (acts.Init f t) cur w lawful fresh current same refl
  behind before line (acts.Require form) cur w lawful fresh current same met =
      unbound before line (acts.Require form) cur w lawful fresh current same refl
  behind before line (acts.Assert form) cur w lawful fresh current same met =
      unbound before line (acts.Assert form) cur w lawful fresh current same refl
  behind before line (acts.Update f t) cur w lawful fresh current same met =
      unbound before line (acts.Update f t) cur w lawful fresh current same refl
  behind before line (acts.HaveVariable f) cur w lawful fresh current same met =
      unbound before line (acts.HaveVariable f) cur w lawful fresh current same refl

  -- the first guard is the first that is shown
  shows-first : (q : ℕ → Bool) (w : Valuation) → Same q w v → (a : ActTree) → reads_only q a ≡ true
      → (later : Option ℤ) (rest : List Token) → later ≡ first_key rest
      → key_or w (guarded_place a) later ≡ first_key (cons_option (shown_by v a) rest)
  unfolding reads_only
  shows-first q w same (acts.Guard f p) reads later rest e =
      ap Some (num-same q w v same (key_of p) (key-only q p.key (and_left _ _ reads)))
  shows-first q w same (acts.Init f t) reads later rest e = e
  shows-first q w same (acts.Require form) reads later rest e = e
  shows-first q w same (acts.Assert form) reads later rest e = e
  shows-first q w same (acts.Update f t) reads later rest e = e
  shows-first q w same (acts.HaveVariable f) reads later rest e = e
  shows-first q w same (acts.Add f p) reads later rest e = e
  shows-first q w same (acts.Remove f p) reads later rest e = e
  shows-first q w same (acts.Have f p) reads later rest e = e
  shows-first q w same (acts.Deposit f p) reads later rest e = e
  shows-first q w same (acts.Withdraw f p) reads later rest e = e

  -- safety and guards from a place of the operation on
  pub record AreAlike (cur : List Tree) (w : Valuation) (ss : List StepTree) : Type 0 where
    pub safety : are_safe fs w cur ss ≡ is_kept_safe fs v cur ss
    pub guards : guarded_key fs w cur ss ≡ first_key (shown v ss)

  safe-next : (s t c rest later : Bool) → s ≡ t → c ≡ true → rest ≡ later → (s && rest) ≡ (t && (not c || later))
  safe-next s t true rest later e f g = ap (λ (b : Bool). b && rest) e ∙ ap (λ (b : Bool). t && b) g
  safe-next s t false rest later e f g = absurd (cc)

  pub all-alike : (before ss : List StepTree) (cur : List Tree) (w : Valuation)
      → AreLawful fs (λ z. true) params before ss → AreAsserting fs params before ss → AreOnly (known before) cur
      → Same (known before) w v → are_met fs v cur ss ≡ true → AreAlike cur w ss
  unfolding are_met is_kept_safe are_safe guarded_key
  all-alike before [] cur w laws asserts only same met = record { safety = refl; guards = refl }
  all-alike before (s ∷ ss) cur w laws asserts only same met =
      let c = current_of cur s.act in
      let q = known before in
      let r = known (before ++ s ∷ []) in
      let more : (z : ℕ) → q z ≡ true → r z ≡ true = λ z e. known-later fs params before (s ∷ []) z e in
      let met_here = and_left (is_met v (condition (strategy_of fs s.act) c s.act)) _ met in
      let met_later = and_right (is_met v (condition (strategy_of fs s.act) c s.act)) _ met in
      let current = current-only q cur s.act only in
      let next = with_bound c (binding_place s.act) w in
      let agrees = behind before s.line s.act c w laws.0 laws.1 current same met_here in
      let said : IsSaid r s.act = record {
        reads = reads-more q r more s.act laws.0.reads;
        asserts = asserts-more q r more s.act asserts.0;
        bound = λ z e. known-bound fs params before s z e;
      } in
      let wide = values-more q r more cur only in
      let rest = all-alike (before ++ s ∷ []) ss (advanced fs cur s.act) next laws.2 asserts.1
      (advanced-only r fs cur s.act wide said) agrees met_later in
      record {
        safety = safe-next (is_met next (safety (strategy_of fs s.act) c s.act))
            (is_met v (safety (strategy_of fs s.act) c s.act))
            (is_met v (condition (strategy_of fs s.act) c s.act)) _ _
            (condition-same r next v agrees _
            (safety-only r (strategy_of fs s.act) c s.act (current-only r cur s.act wide) said))
            met_here rest.safety;
        guards = shows-first q w same s.act laws.0.reads _ (shown v ss) rest.guards;
      }
