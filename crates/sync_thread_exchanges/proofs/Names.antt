-- Terms and safety conditions of statements name known symbols alone: they are the same where valuations agree.
use Rattle.std.proofs.Common.{◌≡◌, ℕ, zero, suc, ◌<◌, Bool, true, false, ◌&&◌, List, [], ◌∷◌, ◌++◌, length, get_or, set, Option, Some, None, refl, sym, ap, subst, ◌∙◌}
use Rattle.std.specs.List.{AllByRecursion}
use Rattle.sync_terms.specs.Trees.{Tree, Nil, Formula}
use Rattle.sync_terms.specs.Values.{Valuation, num, truth}
use Rattle.sync_machine.specs.declared.fields.Field.{Field}
use Rattle.sync_base.specs.declared.strategies.Strategy.{Strategy}
use Rattle.sync_base.specs.declared.strategies.Strategy.TheVariants.{Variable, Constant, NotTokenized, Option as OptionField, Map, Set, Multiset, Count, PersistentOption, PersistentMap, PersistentSet, PersistentCount, StorageMap}
use Rattle.sync_machine.specs.Machines.{PatternTree, Bind, Term, PlaceTree, ActTree, StepTree}
use Rattle.sync_machine.specs.Machines as acts
use Rattle.sync_machine.specs.Naming.{bound_by, bound_names, act_fault, step_fault}
use Rattle.sync_machine.specs.Statements.{or_zero, or_one, bound_in, key_of, value_of, binds, amount_is_natural, freshness, storage, safety, added, removed, after, field_of}
use Rattle.sync_machine.specs.States.{strategy_of, current_of, advanced}
use Rattle.sync_machine.specs.Tests.{is_met}
use Rattle.sync_rules.specs.Locality.{names_only, form_names_only, key_names_only, pattern_names_only, place_names_only}
use Rattle.sync_exchange.proofs.Terms.{Same, truth-same, and_left, and_right, formula-known}
use Rattle.sync_exchange.proofs.Lawful.{reads_only}
use Rattle.sync_exchange.proofs.Passing.{either}
use Rattle.sync_exchange.proofs.Going.{is_known_by}

-- a formula, where there is one, names these symbols alone
abbrev pub condition_only : (ℕ → Bool) → Option Formula → Type 0
condition_only q None = Unit {0}
condition_only q (Some f) = form_names_only q f ≡ true

pub condition-same : (q : ℕ → Bool) (v w : Valuation) → Same q v w → (o : Option Formula) → condition_only q o
    → is_met v o ≡ is_met w o
condition-same q v w same None only = refl
condition-same q v w same (Some f) only = truth-same q v w same f only

-- an assert names these symbols alone; what other statements name an exchange reads
abbrev pub AssertsOnly : (ℕ → Bool) → ActTree → Type 0
AssertsOnly q (acts.Assert form) = form_names_only q form ≡ true
AssertsOnly q (acts.Require form) = Unit {0}
AssertsOnly q (acts.Init f t) = Unit {0}
AssertsOnly q (acts.Update f t) = Unit {0}
AssertsOnly q (acts.HaveVariable f) = Unit {0}
AssertsOnly q (acts.Add f p) = Unit {0}
AssertsOnly q (acts.Remove f p) = Unit {0}
AssertsOnly q (acts.Have f p) = Unit {0}
AssertsOnly q (acts.Deposit f p) = Unit {0}
AssertsOnly q (acts.Withdraw f p) = Unit {0}
AssertsOnly q (acts.Guard f p) = Unit {0}

-- ---- places

module _ (q : ℕ → Bool) where
  pub key-only : (o : Option Tree) → key_names_only q o ≡ true → names_only q (or_zero o) ≡ true
  unfolding names_only
  key-only None e = refl
  key-only (Some t) e = e

  value-only : (o : Option PatternTree) → pattern_names_only q o ≡ true → ((z : ℕ) → bound_in o ≡ Some z → q z ≡ true)
      → names_only q (or_one o) ≡ true
  unfolding names_only
  value-only None e bound = refl
  value-only (Some (Bind z)) e bound = bound z refl
  value-only (Some (Term t)) e bound = e

  -- the key and the value of a place, and the field's value so far
  pub record ArePlaced (cur : Tree) (p : PlaceTree) : Type 0 where
    pub current : names_only q cur ≡ true
    pub key : names_only q (key_of p) ≡ true
    pub value : names_only q (value_of p) ≡ true

  placed : (cur : Tree) (p : PlaceTree) → names_only q cur ≡ true → place_names_only q p ≡ true
      → ((z : ℕ) → binds p ≡ Some z → q z ≡ true) → ArePlaced cur p
  placed cur p current reads bound = record {
    current = current;
    key = key-only p.key (and_left _ _ reads);
    value = value-only p.value (and_right (key_names_only q p.key) _ reads) bound;
  }

  freshness-only : (s : Strategy) (cur : Tree) (p : PlaceTree) → ArePlaced cur p → condition_only q (freshness s cur p)
  unfolding freshness names_only form_names_only
  freshness-only OptionField cur p h = rw (h.current, h.key) refl
  freshness-only Map cur p h = rw (h.current, h.key) refl
  freshness-only Set cur p h = rw (h.current, h.key) refl
  freshness-only Count cur p h = h.value
  freshness-only PersistentOption cur p h = rw (h.current, h.key, h.value) refl
  freshness-only PersistentMap cur p h = rw (h.current, h.key, h.value) refl
  freshness-only PersistentCount cur p h = rw (h.current, h.value) refl
  freshness-only Multiset cur p h = tt
  freshness-only PersistentSet cur p h = tt
  freshness-only Variable cur p h = tt
  freshness-only Constant cur p h = tt
  freshness-only NotTokenized cur p h = tt
  freshness-only StorageMap cur p h = tt

  amount-only : (s : Strategy) (t : Tree) → names_only q t ≡ true → condition_only q (amount_is_natural s t)
  unfolding amount_is_natural names_only form_names_only
  amount-only Count t e = e
  amount-only Variable t e = tt
  amount-only Constant t e = tt
  amount-only NotTokenized t e = tt
  amount-only OptionField t e = tt
  amount-only Map t e = tt
  amount-only Set t e = tt
  amount-only Multiset t e = tt
  amount-only PersistentOption t e = tt
  amount-only PersistentMap t e = tt
  amount-only PersistentSet t e = tt
  amount-only PersistentCount t e = tt
  amount-only StorageMap t e = tt

  storage-only : (cur : Tree) (p : PlaceTree) → ArePlaced cur p → form_names_only q (storage cur p) ≡ true
  unfolding names_only form_names_only
  storage-only cur p h =
      either (binds p) (form_names_only q (storage cur p) ≡ true)
      (λ none. rw none (rw (h.current, h.key, h.value) refl))
      (λ y some. rw some (rw (h.current, h.key) refl))

  added-only : (s : Strategy) (cur : Tree) (p : PlaceTree) → ArePlaced cur p → names_only q (added s cur p) ≡ true
  unfolding added names_only
  added-only OptionField cur p h = rw (h.current, h.key, h.value) refl
  added-only Map cur p h = rw (h.current, h.key, h.value) refl
  added-only Set cur p h = rw (h.current, h.key) refl
  added-only Multiset cur p h = rw (h.current, h.key) refl
  added-only Count cur p h = rw (h.current, h.value) refl
  added-only PersistentOption cur p h = rw (h.current, h.key, h.value) refl
  added-only PersistentMap cur p h = rw (h.current, h.key, h.value) refl
  added-only PersistentSet cur p h = rw (h.current, h.key) refl
  added-only PersistentCount cur p h = h.value
  added-only Variable cur p h = h.current
  added-only Constant cur p h = h.current
  added-only NotTokenized cur p h = h.current
  added-only StorageMap cur p h = h.current

  removed-only : (s : Strategy) (cur : Tree) (p : PlaceTree) → ArePlaced cur p → names_only q (removed s cur p) ≡ true
  unfolding removed names_only
  removed-only OptionField cur p h = rw (h.current, h.key) refl
  removed-only Map cur p h = rw (h.current, h.key) refl
  removed-only Set cur p h = rw (h.current, h.key) refl
  removed-only Multiset cur p h = rw (h.current, h.key) refl
  removed-only Count cur p h = rw (h.current, h.value) refl
  removed-only PersistentOption cur p h = h.current
  removed-only PersistentMap cur p h = h.current
  removed-only PersistentSet cur p h = h.current
  removed-only PersistentCount cur p h = h.current
  removed-only Variable cur p h = h.current
  removed-only Constant cur p h = h.current
  removed-only NotTokenized cur p h = h.current
  removed-only StorageMap cur p h = h.current

  -- ---- statements

  -- what a statement names: what an exchange reads, its asserts, and the name that it binds
  pub record IsSaid (a : ActTree) : Type 0 where
    pub reads : reads_only q a ≡ true
    pub asserts : AssertsOnly q a
    pub bound : (z : ℕ) → bound_by a ≡ Some z → q z ≡ true

  pub safety-only : (s : Strategy) (cur : Tree) (a : ActTree) → names_only q cur ≡ true → IsSaid a
      → condition_only q (safety s cur a)
  unfolding safety reads_only bound_by names_only form_names_only
  safety-only s cur (acts.Init f t) c h = amount-only s t h.reads
  safety-only s cur (acts.Assert form) c h = h.asserts
  safety-only s cur (acts.Add f p) c h = freshness-only s cur p (placed cur p c h.reads h.bound)
  safety-only s cur (acts.Remove f p) c h = amount-only s (value_of p) (placed cur p c h.reads h.bound).value
  safety-only s cur (acts.Have f p) c h = amount-only s (value_of p) (placed cur p c h.reads h.bound).value
  safety-only s cur (acts.Deposit f p) c h = let k = (placed cur p c h.reads h.bound).key in rw (c, k) refl
  safety-only s cur (acts.Withdraw f p) c h = storage-only cur p (placed cur p c h.reads h.bound)
  safety-only s cur (acts.Guard f p) c h = storage-only cur p (placed cur p c h.reads h.bound)
  safety-only s cur (acts.Require form) c h = tt
  safety-only s cur (acts.Update f t) c h = tt
  safety-only s cur (acts.HaveVariable f) c h = tt

  pub after-only : (s : Strategy) (cur : Tree) (a : ActTree) → names_only q cur ≡ true → IsSaid a
      → names_only q (after s cur a) ≡ true
  unfolding after reads_only bound_by names_only
  after-only s cur (acts.Init f t) c h = h.reads
  after-only s cur (acts.Update f t) c h = h.reads
  after-only s cur (acts.Add f p) c h = added-only s cur p (placed cur p c h.reads h.bound)
  after-only s cur (acts.Remove f p) c h = removed-only s cur p (placed cur p c h.reads h.bound)
  after-only s cur (acts.Deposit f p) c h =
      let x = placed cur p c h.reads h.bound in
      rw (x.current, x.key, x.value) refl
  after-only s cur (acts.Withdraw f p) c h = let x = placed cur p c h.reads h.bound in rw (x.current, x.key) refl
  after-only s cur (acts.Require form) c h = c
  after-only s cur (acts.Assert form) c h = c
  after-only s cur (acts.HaveVariable f) c h = c
  after-only s cur (acts.Have f p) c h = c
  after-only s cur (acts.Guard f p) c h = c

  -- ---- the fields' values so far

  abbrev pub AreOnly : List Tree → Type 0
  AreOnly cur = AllByRecursion (λ (t : Tree). names_only q t ≡ true) cur

  at-field : (cur : List Tree) (f : ℕ) → AreOnly cur → names_only q (get_or cur f Nil) ≡ true
  unfolding names_only
  at-field [] f h = refl
  at-field (t ∷ ts) zero h = h.0
  at-field (t ∷ ts) (suc f) h = at-field ts f h.1

  set-only : (cur : List Tree) (f : ℕ) (t : Tree) → AreOnly cur → names_only q t ≡ true → AreOnly (set cur f t)
  set-only [] f t h e = tt
  set-only (u ∷ us) zero t h e = (e, h.1)
  set-only (u ∷ us) (suc f) t h e = (h.0, set-only us f t h.1 e)

  pub current-only : (cur : List Tree) (a : ActTree) → AreOnly cur → names_only q (current_of cur a) ≡ true
  unfolding names_only
  current-only cur a h =
      either (field_of a) (names_only q (current_of cur a) ≡ true) (λ none. rw none refl)
      (λ f some. rw some (at-field cur f h))

  pub advanced-only : (fs : List Field) (cur : List Tree) (a : ActTree) → AreOnly cur → IsSaid a
      → AreOnly (advanced fs cur a)
  advanced-only fs cur a h said =
      either (field_of a) (AreOnly (advanced fs cur a)) (λ none. rw none h)
      (λ f some.
      let next : AreOnly (set cur f (after (strategy_of fs a) (current_of cur a) a)) =
      set-only cur f _ h (after-only (strategy_of fs a) (current_of cur a) a (current-only cur a h) said) in
      rw some next)
