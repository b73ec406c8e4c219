-- Which symbols an exchange reads of a state: all where the whole state is at hand, and those at hand in a plain operation.
use Rattle.std.proofs.Common.{◌≡◌, ℕ, zero, suc, ◌≤◌, Bool, true, false, not, ◌&&◌, ◌||◌, List, [], ◌∷◌, ◌++◌, length, append_assoc, Option, Some, None, is_some, refl, ap, subst, ◌∙◌, arith, if◌then◌else◌, nat_lt, slice_get}
use Rattle.std.specs.List.{list_all}
use Rattle.std.proofs.lemmas.Bool.{le-ltb}
use Rattle.sync_base.specs.Outcome.{first}
use Rattle.sync_terms.specs.Trees.{Tree, Lit, Name, Add, Sub, Scale, Get, Has, Size, Sum, Nil, Put, Del, Bump, Formula, Le, Lt, Eq, Not, And, Or, Imp}
use Rattle.sync_machine.specs.declared.fields.Field.{Field}
use Rattle.sync_base.specs.declared.strategies.Strategy.{Strategy}
use Rattle.sync_base.specs.declared.strategies.Strategy.TheVariants.{Variable, Constant, NotTokenized, Option as OptionField, Map, Set, Multiset, Count, PersistentOption, PersistentMap, PersistentSet, PersistentCount, StorageMap}
use Rattle.sync_base.specs.declared.strategies.OpMode.{OpMode}
use Rattle.sync_base.specs.declared.strategies.OpMode.TheVariants as mode
use Rattle.sync_machine.specs.Machines.{PatternTree, Bind, Term, PlaceTree, ActTree, StepTree, OperationTree}
use Rattle.sync_machine.specs.Machines as acts
use Rattle.sync_machine.specs.States.{strategy_at}
use Rattle.sync_rules.specs.Obligations.{names}
use Rattle.sync_rules.specs.Locality.{names_only, form_names_only, key_names_only, pattern_names_only, place_names_only, is_variable, is_known, is_known_field, is_local, has_local_terms}
use Rattle.sync_rules.specs.Strategies.{kind_of}
use Rattle.sync_rules.specs.Order.{is_first_value}
use Rattle.sync_rules.specs.Slots.{read_slot, only_if, needs, key_names, pattern_names, place_names, given_by, changed_by, read_by, earliest, variable_slot, field_slot}
use Rattle.sync_rules.specs.Plain.{is_kept, is_at_hand, reads_at_hand}
use Rattle.sync_exchange.proofs.Terms.{and_left, and_right, and_both, or_left, or_right, only-more, form-only-more}
use Rattle.sync_exchange.proofs.Lawful.{reads_only}
use Rattle.sync_exchange.proofs.Rules.{AreRuled, AreReading}
use Rattle.sync_exchange.proofs.Using.{HasNoInit}

-- ---- all symbols

all-names : (t : Tree) → names_only (λ z. true) t ≡ true
unfolding names_only
all-names (Lit n) = refl
all-names (Name x) = refl
all-names (Add a b) = and_both _ _ (all-names a) (all-names b)
all-names (Sub a b) = and_both _ _ (all-names a) (all-names b)
all-names (Scale n a) = all-names a
all-names (Get a b) = and_both _ _ (all-names a) (all-names b)
all-names (Has a b) = and_both _ _ (all-names a) (all-names b)
all-names (Size a) = all-names a
all-names (Sum a) = all-names a
all-names Nil = refl
all-names (Put a b c) = let x = all-names a in let y = all-names b in let z = all-names c in rw (x, y, z) refl
all-names (Del a b) = and_both _ _ (all-names a) (all-names b)
all-names (Bump a b c) = let x = all-names a in let y = all-names b in let z = all-names c in rw (x, y, z) refl

all-form : (f : Formula) → form_names_only (λ z. true) f ≡ true
unfolding form_names_only
all-form (Le a b) = and_both _ _ (all-names a) (all-names b)
all-form (Lt a b) = and_both _ _ (all-names a) (all-names b)
all-form (Eq a b) = and_both _ _ (all-names a) (all-names b)
all-form (Not f) = all-form f
all-form (And f g) = and_both _ _ (all-form f) (all-form g)
all-form (Or f g) = and_both _ _ (all-form f) (all-form g)
all-form (Imp f g) = and_both _ _ (all-form f) (all-form g)

all-key : (o : Option Tree) → key_names_only (λ z. true) o ≡ true
all-key None = refl
all-key (Some t) = all-names t

all-pattern : (o : Option PatternTree) → pattern_names_only (λ z. true) o ≡ true
all-pattern None = refl
all-pattern (Some (Bind z)) = refl
all-pattern (Some (Term t)) = all-names t

all-place : (p : PlaceTree) → place_names_only (λ z. true) p ≡ true
all-place p = and_both _ _ (all-key p.key) (all-pattern p.value)

all-reads : (a : ActTree) → reads_only (λ z. true) a ≡ true
unfolding reads_only
all-reads (acts.Init f t) = all-names t
all-reads (acts.Require form) = all-form form
all-reads (acts.Assert form) = refl
all-reads (acts.Update f t) = all-names t
all-reads (acts.HaveVariable f) = refl
all-reads (acts.Add f p) = all-place p
all-reads (acts.Remove f p) = all-place p
all-reads (acts.Have f p) = all-place p
all-reads (acts.Deposit f p) = all-place p
all-reads (acts.Withdraw f p) = all-place p
all-reads (acts.Guard f p) = all-place p

pub all-reading : (ss : List StepTree) → AreReading (λ z. true) ss
all-reading [] = tt
all-reading (s ∷ ss) = (all-reads s.act, all-reading ss)

-- ---- symbols at hand

or-true : (b : Bool) → (b || true) ≡ true
or-true true = refl
or-true false = refl

strategy-of : (fs : List Field) (x : ℕ) (f : Field) → slice_get fs x ≡ Some f → strategy_at fs x ≡ f.strategy
strategy-of [] x f e = absurd (cc)
strategy-of (g ∷ fs) zero f e = let is : g ≡ f = cc in ap (λ (h : Field). h.strategy) is
strategy-of (g ∷ fs) (suc x) f e = strategy-of fs x f e

pub past-end : (fs : List Field) (x : ℕ) → slice_get fs x ≡ None → length fs ≤ x
past-end [] x e = omega arith
past-end (f ∷ fs) zero e = absurd (cc)
past-end (f ∷ fs) (suc x) e = let h = past-end fs x e in omega (arith, h)

known-cases : (s : Strategy) (slot : Bool) → is_known s ≡ true → (is_variable s ≡ true → slot ≡ true) → (is_kept s || slot) ≡ true
known-cases Variable slot e h = h refl
known-cases Constant slot e h = refl
known-cases NotTokenized slot e h = absurd (cc)
known-cases OptionField slot e h = absurd (cc)
known-cases Map slot e h = absurd (cc)
known-cases Set slot e h = absurd (cc)
known-cases Multiset slot e h = absurd (cc)
known-cases Count slot e h = absurd (cc)
known-cases PersistentOption slot e h = absurd (cc)
known-cases PersistentMap slot e h = absurd (cc)
known-cases PersistentSet slot e h = absurd (cc)
known-cases PersistentCount slot e h = absurd (cc)
known-cases StorageMap slot e h = absurd (cc)

pub or-three : (a b c : Bool) → (b || c) ≡ true → (a || b || c) ≡ true
or-three true b c e = refl
or-three false b c e = e

pub or-one : (a b c : Bool) → a ≡ true → (a || b || c) ≡ true
or-one true b c e = refl
or-one false b c e = absurd (cc)

module _ (fs : List Field) (o : OperationTree) where
  local-cases : (x : ℕ) (g : Option Field) → slice_get fs x ≡ g → is_known_field g ≡ true → (is_variable (strategy_at fs x) ≡ true → is_some (field_slot fs o.steps x) ≡ true) → is_at_hand fs o.steps x ≡ true
  local-cases x None is e h = let past : nat_lt x (length fs) ≡ false = le-ltb x (length fs) (past-end fs x is) in or-one (not (nat_lt x (length fs))) _ _ (ap not past)
  local-cases x (Some f) is e h = or-three (not (nat_lt x (length fs))) _ _ (known-cases (strategy_at fs x) (is_some (field_slot fs o.steps x)) (ap is_known (strategy-of fs x f is) ∙ e) h)

  pub local-at-hand : (m : OpMode) (x : ℕ) → (m ≡ mode.Init → ⊥) → is_local fs m x ≡ true → (is_variable (strategy_at fs x) ≡ true → is_some (field_slot fs o.steps x) ≡ true) → is_at_hand fs o.steps x ≡ true
  local-at-hand mode.Init x other e h = absurd (other refl)
  local-at-hand mode.Transition x other e h = local-cases x (slice_get fs x) refl e h
  local-at-hand mode.Property x other e h = local-cases x (slice_get fs x) refl e h

pub first-right : {A : Type 0} (a b : Option A) → is_some b ≡ true → is_some (first a b) ≡ true
first-right (Some x) b e = refl
first-right None b e = e

pub first-left : {A : Type 0} (a b : Option A) → is_some a ≡ true → is_some (first a b) ≡ true
first-left (Some x) b e = refl
first-left None b e = absurd (cc)

pub earliest-there : {B : Type 0} (g : StepTree → Option B) (before : List StepTree) (s : StepTree) (ss : List StepTree) → is_some (g s) ≡ true → is_some (earliest g (before ++ s ∷ ss)) ≡ true
earliest-there g [] s ss e = first-left (g s) (earliest g ss) e
earliest-there g (b ∷ before) s ss e = first-right (g b) (earliest g (before ++ s ∷ ss)) (earliest-there g before s ss e)

only_if-some : {A : Type 0} (b : Bool) (x : A) → b ≡ true → is_some (only_if b x) ≡ true
only_if-some true x e = refl
only_if-some false x e = absurd (cc)

pub variable-slotted : (fs : List Field) (ss : List StepTree) (x : ℕ) → is_variable (strategy_at fs x) ≡ true → is_some (variable_slot fs ss x) ≡ true → is_some (field_slot fs ss x) ≡ true
variable-slotted fs ss x var e = rw var e

-- a variable that a statement needs has a slot
pub needed-slot : (fs : List Field) (before : List StepTree) (s : StepTree) (ss : List StepTree) (x : ℕ) → needs fs x s.act ≡ true → is_variable (strategy_at fs x) ≡ true → is_some (field_slot fs (before ++ s ∷ ss) x) ≡ true
needed-slot fs before s ss x need var =
    let steps = before ++ s ∷ ss in
    variable-slotted fs steps x var
    (first-right (earliest (given_by x) steps) _
    (first-right (earliest (changed_by x) steps) _
    (earliest-there (read_by fs x) before s ss (only_if-some (needs fs x s.act) (read_slot x s.line) need))))

module _ (fs : List Field) (o : OperationTree) (m : OpMode) (other : m ≡ mode.Init → ⊥) where
  abbrev pub Needed : (ℕ → Bool) → Type 0
  Needed named = (x : ℕ) → named x ≡ true → is_variable (strategy_at fs x) ≡ true → is_some (field_slot fs o.steps x) ≡ true

  tree-at-hand : (t : Tree) → ((x : ℕ) → names x t ≡ true → is_variable (strategy_at fs x) ≡ true → is_some (field_slot fs o.steps x) ≡ true) → names_only (is_local fs m) t ≡ true → names_only (is_at_hand fs o.steps) t ≡ true
  tree-at-hand t need e = only-more (is_local fs m) (is_at_hand fs o.steps) t (λ x named known. local-at-hand fs o m x other known (need x named)) e

  key-at-hand : (k : Option Tree) → ((x : ℕ) → key_names x k ≡ true → is_variable (strategy_at fs x) ≡ true → is_some (field_slot fs o.steps x) ≡ true) → key_names_only (is_local fs m) k ≡ true → key_names_only (is_at_hand fs o.steps) k ≡ true
  key-at-hand None need e = refl
  key-at-hand (Some t) need e = tree-at-hand t need e

  pattern-at-hand : (k : Option PatternTree) → ((x : ℕ) → pattern_names x k ≡ true → is_variable (strategy_at fs x) ≡ true → is_some (field_slot fs o.steps x) ≡ true) → pattern_names_only (is_local fs m) k ≡ true → pattern_names_only (is_at_hand fs o.steps) k ≡ true
  pattern-at-hand None need e = refl
  pattern-at-hand (Some (Bind z)) need e = refl
  pattern-at-hand (Some (Term t)) need e = tree-at-hand t need e

  place-at-hand : (p : PlaceTree) → ((x : ℕ) → place_names x p ≡ true → is_variable (strategy_at fs x) ≡ true → is_some (field_slot fs o.steps x) ≡ true) → place_names_only (is_local fs m) p ≡ true → place_names_only (is_at_hand fs o.steps) p ≡ true
  place-at-hand p need e =
      and_both _ _ (key-at-hand p.key (λ x n. need x (or_left _ _ n)) (and_left _ _ e)) (pattern-at-hand p.value (λ x n. need x (or_right (key_names x p.key) _ n)) (and_right (key_names_only (is_local fs m) p.key) _ e))

  update-cases : (f : ℕ) (t : Tree) (b : Bool) → is_variable (strategy_at fs f) ≡ b → ((x : ℕ) → (b && names x t) ≡ true → is_variable (strategy_at fs x) ≡ true → is_some (field_slot fs o.steps x) ≡ true)
      → (if b then names_only (is_local fs m) t else true) ≡ true → (b || names_only (is_at_hand fs o.steps) t) ≡ true → names_only (is_at_hand fs o.steps) t ≡ true
  update-cases f t true is need e h = tree-at-hand t need e
  update-cases f t false is need e h = h

  act-at-hand : (line : ℕ) (a : ActTree) → is_first_value (kind_of a) ≡ false → ((x : ℕ) → needs fs x a ≡ true → is_variable (strategy_at fs x) ≡ true → is_some (field_slot fs o.steps x) ≡ true)
      → has_local_terms fs m a ≡ true → reads_at_hand fs o.steps (record { act = a; line = line }) ≡ true → reads_only (is_at_hand fs o.steps) a ≡ true
  unfolding reads_only has_local_terms needs kind_of
  act-at-hand line (acts.Init f t) first need e h = absurd (cc)
  act-at-hand line (acts.Require form) first need e h = form-only-more (is_local fs m) (is_at_hand fs o.steps) form (λ x named known. local-at-hand fs o m x other known (need x named)) e
  act-at-hand line (acts.Assert form) first need e h = refl
  act-at-hand line (acts.Update f t) first need e h = update-cases f t (is_variable (strategy_at fs f)) refl need e h
  act-at-hand line (acts.HaveVariable f) first need e h = refl
  act-at-hand line (acts.Add f p) first need e h = place-at-hand p need e
  act-at-hand line (acts.Remove f p) first need e h = place-at-hand p need e
  act-at-hand line (acts.Have f p) first need e h = place-at-hand p need e
  act-at-hand line (acts.Deposit f p) first need e h = place-at-hand p need e
  act-at-hand line (acts.Withdraw f p) first need e h = place-at-hand p need e
  act-at-hand line (acts.Guard f p) first need e h = place-at-hand p need e

  pub plain-reading : (before ss : List StepTree) → before ++ ss ≡ o.steps → HasNoInit ss → AreRuled fs m before ss → list_all (reads_at_hand fs o.steps) ss ≡ true → AreReading (is_at_hand fs o.steps) ss
  plain-reading before [] is none rules h = tt
  plain-reading before (s ∷ ss) is none rules h = (
    act-at-hand s.line s.act none.0
        (λ x need var. subst (λ steps. is_some (field_slot fs steps x) ≡ true) is (needed-slot fs before s ss x need var)) rules.0.local (and_left _ _ h),
    plain-reading (before ++ s ∷ []) ss (append_assoc before (s ∷ []) ss ∙ is) none.1 rules.1 (and_right (reads_at_hand fs o.steps s) _ h),
  )
