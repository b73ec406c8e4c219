-- The conditions and values of an operation speak of known symbols alone, each as its sort, where its statements do and are allowed.
use Rattle.std.proofs.Common.{◌≡◌, ℕ, zero, suc, ◌<◌, List, [], ◌∷◌, length, map, get_or, set, Option, Some, None, zero-add, refl, sym, subst, ◌∙◌, inl, inr, arith}
use Rattle.std.specs.List.{AllByRecursion, range_with_len}
use Rattle.std.proofs.lemmas.Bool.{cases_eq, false≢true, lt-ltb}
use Rattle.std.proofs.lemmas.List.{get_or-set_same, get_or-set_other, length-set, length-map}
use Rattle.std.proofs.lemmas.List.FromFn.{get_or-map-range_with_len, length-map-range_with_len}
use Rattle.sync_terms.specs.Trees.{Tree, Name, Nil, Put, Del, Formula}
use Rattle.sync_machine.specs.declared.fields.Field.{Field}
use Rattle.sync_base.specs.declared.strategies.OpMode.{OpMode}
use Rattle.sync_base.specs.declared.strategies.OpMode.TheVariants as mode
use Rattle.sync_base.specs.declared.strategies.Strategy.{Strategy}
use Rattle.sync_base.specs.declared.strategies.Strategy.TheVariants.{Variable, Constant, NotTokenized, Option as OptionField, Map, Set, Multiset, Count, PersistentOption, PersistentMap, PersistentSet, PersistentCount, StorageMap}
use Rattle.sync_machine.specs.Machines.{PatternTree, Bind, Term, PlaceTree, ActTree, StepTree, OperationTree, InvariantTree, MachineTree}
use Rattle.sync_machine.specs.Machines as acts
use Rattle.sync_machine.specs.Statements.{or_zero, key_of, or_one, value_of, presence, amount_is_natural, freshness, enabling, safety, both, condition, added, removed, after, field_of, is_there_with}
use Rattle.sync_machine.specs.States.{Sort, Numbers, Maps, sort_of, strategy_at, strategy_of, current_of, advanced, last_values, first_values, blank}
use Rattle.sync_machine.specs.Scope.{Known, IsNumber, IsMap, IsFormula, HasSort, knows, ChangesNothing}
use Rattle.sync_machine.specs.Named.{own_names, IsKeyIn, IsPatternIn, IsPlaceIn, IsStatementIn, KnowsItsNames, IsNamed}
use Rattle.sync_induct.proofs.Scoped.{IsConditionIn, AreConditionsIn, IsScopedOperation, IsScoped}
use Rattle.sync_rules.specs.Strategies.{kind_of, HasKind, AreAllowed}
use Rattle.sync_rules.specs.declared.kinds.OpKind.TheVariants as kinds

-- ---- places

key-number : (k : Known) (o : Option Tree) → IsKeyIn k o → IsNumber k (or_zero o)
key-number k (Some t) h = h
key-number k None h = tt

value-number : (k : Known) (o : Option PatternTree) → IsPatternIn k o → IsNumber k (or_one o)
value-number k (Some (Bind x)) h = h
value-number k (Some (Term t)) h = h
value-number k None h = tt

presence-in : (k : Known) (s : Strategy) (cur : Tree) (p : PlaceTree) → HasSort k (sort_of s) cur → IsPlaceIn k p → IsConditionIn k (presence s cur p)
unfolding presence sort_of
presence-in k Variable cur p c h = tt
presence-in k Constant cur p c h = tt
presence-in k NotTokenized cur p c h = tt
presence-in k Count cur p c h = (value-number k p.value h.1, c)
presence-in k PersistentCount cur p c h = (value-number k p.value h.1, c)
presence-in k OptionField cur p c h = (((c, key-number k p.key h.0), tt), ((c, key-number k p.key h.0), value-number k p.value h.1))
presence-in k Map cur p c h = (((c, key-number k p.key h.0), tt), ((c, key-number k p.key h.0), value-number k p.value h.1))
presence-in k Set cur p c h = ((c, key-number k p.key h.0), tt)
presence-in k Multiset cur p c h = (tt, (c, key-number k p.key h.0))
presence-in k PersistentOption cur p c h = (((c, key-number k p.key h.0), tt), ((c, key-number k p.key h.0), value-number k p.value h.1))
presence-in k PersistentMap cur p c h = (((c, key-number k p.key h.0), tt), ((c, key-number k p.key h.0), value-number k p.value h.1))
presence-in k PersistentSet cur p c h = ((c, key-number k p.key h.0), tt)
presence-in k StorageMap cur p c h = tt

amount-in : (k : Known) (s : Strategy) (t : Tree) → (sort_of s ≡ Numbers → IsNumber k t) → IsConditionIn k (amount_is_natural s t)
unfolding amount_is_natural sort_of
amount-in k Variable t h = tt
amount-in k Constant t h = tt
amount-in k NotTokenized t h = tt
amount-in k Count t h = (tt, h refl)
amount-in k PersistentCount t h = tt
amount-in k OptionField t h = tt
amount-in k Map t h = tt
amount-in k Set t h = tt
amount-in k Multiset t h = tt
amount-in k PersistentOption t h = tt
amount-in k PersistentMap t h = tt
amount-in k PersistentSet t h = tt
amount-in k StorageMap t h = tt

freshness-in : (k : Known) (s : Strategy) (cur : Tree) (p : PlaceTree) → HasSort k (sort_of s) cur → IsPlaceIn k p → IsConditionIn k (freshness s cur p)
unfolding freshness sort_of
freshness-in k Variable cur p c h = tt
freshness-in k Constant cur p c h = tt
freshness-in k NotTokenized cur p c h = tt
freshness-in k Count cur p c h = (tt, value-number k p.value h.1)
freshness-in k PersistentCount cur p c h = (c, value-number k p.value h.1)
freshness-in k OptionField cur p c h = ((c, key-number k p.key h.0), tt)
freshness-in k Map cur p c h = ((c, key-number k p.key h.0), tt)
freshness-in k Set cur p c h = ((c, key-number k p.key h.0), tt)
freshness-in k Multiset cur p c h = tt
freshness-in k PersistentOption cur p c h = (((c, key-number k p.key h.0), tt), ((c, key-number k p.key h.0), value-number k p.value h.1))
freshness-in k PersistentMap cur p c h = (((c, key-number k p.key h.0), tt), ((c, key-number k p.key h.0), value-number k p.value h.1))
freshness-in k PersistentSet cur p c h = tt
freshness-in k StorageMap cur p c h = tt

added-in : (k : Known) (s : Strategy) (cur : Tree) (p : PlaceTree) → HasSort k (sort_of s) cur → IsPlaceIn k p → HasSort k (sort_of s) (added s cur p)
unfolding added sort_of
added-in k Variable cur p c h = c
added-in k Constant cur p c h = c
added-in k NotTokenized cur p c h = c
added-in k Count cur p c h = (c, value-number k p.value h.1)
added-in k PersistentCount cur p c h = value-number k p.value h.1
added-in k OptionField cur p c h = (c, key-number k p.key h.0, value-number k p.value h.1)
added-in k Map cur p c h = (c, key-number k p.key h.0, value-number k p.value h.1)
added-in k Set cur p c h = (c, key-number k p.key h.0, tt)
added-in k Multiset cur p c h = (c, key-number k p.key h.0, tt)
added-in k PersistentOption cur p c h = (c, key-number k p.key h.0, value-number k p.value h.1)
added-in k PersistentMap cur p c h = (c, key-number k p.key h.0, value-number k p.value h.1)
added-in k PersistentSet cur p c h = (c, key-number k p.key h.0, tt)
added-in k StorageMap cur p c h = c

removed-in : (k : Known) (s : Strategy) (cur : Tree) (p : PlaceTree) → HasSort k (sort_of s) cur → IsPlaceIn k p → HasSort k (sort_of s) (removed s cur p)
unfolding removed sort_of
removed-in k Variable cur p c h = c
removed-in k Constant cur p c h = c
removed-in k NotTokenized cur p c h = c
removed-in k Count cur p c h = (c, value-number k p.value h.1)
removed-in k PersistentCount cur p c h = c
removed-in k OptionField cur p c h = (c, key-number k p.key h.0)
removed-in k Map cur p c h = (c, key-number k p.key h.0)
removed-in k Set cur p c h = (c, key-number k p.key h.0)
removed-in k Multiset cur p c h = (c, key-number k p.key h.0, (tt, tt))
removed-in k PersistentOption cur p c h = c
removed-in k PersistentMap cur p c h = c
removed-in k PersistentSet cur p c h = c
removed-in k StorageMap cur p c h = c

storage-map : (k : Known) (s : Strategy) (cur : Tree) → HasSort k (sort_of s) cur → HasKind s (Some kinds.Deposit) → IsMap k cur
unfolding sort_of
storage-map k Variable cur c a = absurd (false≢true a)
storage-map k Constant cur c a = absurd (false≢true a)
storage-map k NotTokenized cur c a = absurd (false≢true a)
storage-map k Count cur c a = absurd (false≢true a)
storage-map k PersistentCount cur c a = absurd (false≢true a)
storage-map k OptionField cur c a = absurd (false≢true a)
storage-map k Map cur c a = absurd (false≢true a)
storage-map k Set cur c a = absurd (false≢true a)
storage-map k Multiset cur c a = absurd (false≢true a)
storage-map k PersistentOption cur c a = absurd (false≢true a)
storage-map k PersistentMap cur c a = absurd (false≢true a)
storage-map k PersistentSet cur c a = absurd (false≢true a)
storage-map k StorageMap cur c a = c

storage-sort : (s : Strategy) → HasKind s (Some kinds.Deposit) → sort_of s ≡ Maps
unfolding sort_of
storage-sort Variable a = absurd (false≢true a)
storage-sort Constant a = absurd (false≢true a)
storage-sort NotTokenized a = absurd (false≢true a)
storage-sort Count a = absurd (false≢true a)
storage-sort PersistentCount a = absurd (false≢true a)
storage-sort OptionField a = absurd (false≢true a)
storage-sort Map a = absurd (false≢true a)
storage-sort Set a = absurd (false≢true a)
storage-sort Multiset a = absurd (false≢true a)
storage-sort PersistentOption a = absurd (false≢true a)
storage-sort PersistentMap a = absurd (false≢true a)
storage-sort PersistentSet a = absurd (false≢true a)
storage-sort StorageMap a = refl

withdraw-deposit : (s : Strategy) → HasKind s (Some kinds.Withdraw) → HasKind s (Some kinds.Deposit)
unfolding sort_of
withdraw-deposit Variable a = absurd (false≢true a)
withdraw-deposit Constant a = absurd (false≢true a)
withdraw-deposit NotTokenized a = absurd (false≢true a)
withdraw-deposit Count a = absurd (false≢true a)
withdraw-deposit PersistentCount a = absurd (false≢true a)
withdraw-deposit OptionField a = absurd (false≢true a)
withdraw-deposit Map a = absurd (false≢true a)
withdraw-deposit Set a = absurd (false≢true a)
withdraw-deposit Multiset a = absurd (false≢true a)
withdraw-deposit PersistentOption a = absurd (false≢true a)
withdraw-deposit PersistentMap a = absurd (false≢true a)
withdraw-deposit PersistentSet a = absurd (false≢true a)
withdraw-deposit StorageMap a = refl

guard-deposit : (s : Strategy) → HasKind s (Some kinds.Guard) → HasKind s (Some kinds.Deposit)
unfolding sort_of
guard-deposit Variable a = absurd (false≢true a)
guard-deposit Constant a = absurd (false≢true a)
guard-deposit NotTokenized a = absurd (false≢true a)
guard-deposit Count a = absurd (false≢true a)
guard-deposit PersistentCount a = absurd (false≢true a)
guard-deposit OptionField a = absurd (false≢true a)
guard-deposit Map a = absurd (false≢true a)
guard-deposit Set a = absurd (false≢true a)
guard-deposit Multiset a = absurd (false≢true a)
guard-deposit PersistentOption a = absurd (false≢true a)
guard-deposit PersistentMap a = absurd (false≢true a)
guard-deposit PersistentSet a = absurd (false≢true a)
guard-deposit StorageMap a = refl

both-in : (k : Known) (f g : Option Formula) → IsConditionIn k f → IsConditionIn k g → IsConditionIn k (both f g)
both-in k (Some f) (Some g) h i = (h, i)
both-in k (Some f) None h i = h
both-in k None g h i = i

stored-in : (k : Known) (s : Strategy) (cur : Tree) (p : PlaceTree) → HasSort k (sort_of s) cur → IsPlaceIn k p → HasKind s (Some kinds.Deposit) → IsFormula k (is_there_with cur (key_of p) (value_of p))
stored-in k s cur p c h a = (((storage-map k s cur c a, key-number k p.key h.0), tt), ((storage-map k s cur c a, key-number k p.key h.0), value-number k p.value h.1))

as-map : (k : Known) (s : Strategy) (t : Tree) → sort_of s ≡ Maps → IsMap k t → HasSort k (sort_of s) t
as-map k s t e h = subst (λ (z : Sort). HasSort k z t) (sym e) h

number-of : (k : Known) (s : Strategy) (t : Tree) → HasSort k (sort_of s) t → sort_of s ≡ Numbers → IsNumber k t
number-of k s t h e = subst (λ (z : Sort). HasSort k z t) e h

-- ---- walks

-- each field's value so far has the field's sort
pub record AreSorted (fs : List Field) (k : Known) (cur : List Tree) : Type 0 where
  pub length_is : length cur ≡ length fs
  pub sorted : (x : ℕ) → x < length fs → HasSort k (sort_of (strategy_at fs x)) (get_or cur x Nil)

-- what a statement asks and promises speaks of known symbols
condition-in : (k : Known) (fs : List Field) (cur : List Tree) (a : ActTree) → AreSorted fs k cur → IsStatementIn fs k a → HasKind (strategy_of fs a) (kind_of a) → IsConditionIn k (condition (strategy_of fs a) (current_of cur a) a)
unfolding condition safety enabling field_of kind_of
condition-in k fs cur (acts.Init f t) s h a = both-in k (amount_is_natural (strategy_at fs f) t) None (amount-in k (strategy_at fs f) t (number-of k (strategy_at fs f) t h.1)) tt
condition-in k fs cur (acts.Update f t) s h a = tt
condition-in k fs cur (acts.HaveVariable f) s h a = tt
condition-in k fs cur (acts.Require form) s h a = h
condition-in k fs cur (acts.Assert form) s h a = h
condition-in k fs cur (acts.Add f p) s h a = both-in k (freshness (strategy_at fs f) (get_or cur f Nil) p) None (freshness-in k (strategy_at fs f) (get_or cur f Nil) p (s.sorted f h.0) h.1) tt
condition-in k fs cur (acts.Remove f p) s h a = both-in k (amount_is_natural (strategy_at fs f) (value_of p)) (presence (strategy_at fs f) (get_or cur f Nil) p) (amount-in k (strategy_at fs f) (value_of p) (λ e. value-number k p.value h.1.1)) (presence-in k (strategy_at fs f) (get_or cur f Nil) p (s.sorted f h.0) h.1)
condition-in k fs cur (acts.Have f p) s h a = both-in k (amount_is_natural (strategy_at fs f) (value_of p)) (presence (strategy_at fs f) (get_or cur f Nil) p) (amount-in k (strategy_at fs f) (value_of p) (λ e. value-number k p.value h.1.1)) (presence-in k (strategy_at fs f) (get_or cur f Nil) p (s.sorted f h.0) h.1)
condition-in k fs cur (acts.Deposit f p) s h a = ((storage-map k (strategy_at fs f) (get_or cur f Nil) (s.sorted f h.0) a, key-number k p.key h.1.0), tt)
condition-in k fs cur (acts.Withdraw f p) s h a = stored-in k (strategy_at fs f) (get_or cur f Nil) p (s.sorted f h.0) h.1 (withdraw-deposit (strategy_at fs f) a)
condition-in k fs cur (acts.Guard f p) s h a = stored-in k (strategy_at fs f) (get_or cur f Nil) p (s.sorted f h.0) h.1 (guard-deposit (strategy_at fs f) a)

set-sorted : (k : Known) (fs : List Field) (cur : List Tree) (f : ℕ) (t : Tree) → AreSorted fs k cur → f < length fs → HasSort k (sort_of (strategy_at fs f)) t → AreSorted fs k (set cur f t)
set-sorted k fs cur f t s lt h = record {
  length_is = length-set cur f t ∙ s.length_is;
  sorted = λ x below. elim (cases_eq x f) [
    | inl e ↦ subst (λ (y : ℕ). HasSort k (sort_of (strategy_at fs y)) (get_or (set cur f t) y Nil)) (sym e)
        (subst (λ (u : Tree). HasSort k (sort_of (strategy_at fs f)) u) (sym (get_or-set_same cur f t Nil (let l = s.length_is in omega arith))) h)
    | inr n ↦ subst (λ (u : Tree). HasSort k (sort_of (strategy_at fs x)) u) (sym (get_or-set_other cur f x t Nil n)) (s.sorted x below)
  ];
}

-- behind a statement each field's value has the field's sort
advanced-in : (k : Known) (fs : List Field) (cur : List Tree) (a : ActTree) → AreSorted fs k cur → IsStatementIn fs k a → HasKind (strategy_of fs a) (kind_of a) → AreSorted fs k (advanced fs cur a)
unfolding after field_of kind_of
advanced-in k fs cur (acts.Init f t) s h a = set-sorted k fs cur f t s h.0 h.1
advanced-in k fs cur (acts.Update f t) s h a = set-sorted k fs cur f t s h.0 h.1
advanced-in k fs cur (acts.HaveVariable f) s h a = set-sorted k fs cur f (get_or cur f Nil) s h (s.sorted f h)
advanced-in k fs cur (acts.Require form) s h a = s
advanced-in k fs cur (acts.Assert form) s h a = s
advanced-in k fs cur (acts.Add f p) s h a = set-sorted k fs cur f (added (strategy_at fs f) (get_or cur f Nil) p) s h.0 (added-in k (strategy_at fs f) (get_or cur f Nil) p (s.sorted f h.0) h.1)
advanced-in k fs cur (acts.Remove f p) s h a = set-sorted k fs cur f (removed (strategy_at fs f) (get_or cur f Nil) p) s h.0 (removed-in k (strategy_at fs f) (get_or cur f Nil) p (s.sorted f h.0) h.1)
advanced-in k fs cur (acts.Have f p) s h a = set-sorted k fs cur f (get_or cur f Nil) s h.0 (s.sorted f h.0)
advanced-in k fs cur (acts.Guard f p) s h a = set-sorted k fs cur f (get_or cur f Nil) s h.0 (s.sorted f h.0)
advanced-in k fs cur (acts.Deposit f p) s h a =
    set-sorted k fs cur f (Put (get_or cur f Nil) (key_of p) (value_of p)) s h.0
    (as-map k (strategy_at fs f) (Put (get_or cur f Nil) (key_of p) (value_of p)) (storage-sort (strategy_at fs f) a)
    (storage-map k (strategy_at fs f) (get_or cur f Nil) (s.sorted f h.0) a, key-number k p.key h.1.0, value-number k p.value h.1.1))
advanced-in k fs cur (acts.Withdraw f p) s h a =
    let d = withdraw-deposit (strategy_at fs f) a in
    set-sorted k fs cur f (Del (get_or cur f Nil) (key_of p)) s h.0
    (as-map k (strategy_at fs f) (Del (get_or cur f Nil) (key_of p)) (storage-sort (strategy_at fs f) d)
    (storage-map k (strategy_at fs f) (get_or cur f Nil) (s.sorted f h.0) d, key-number k p.key h.1.0))

abbrev StatementsIn : List Field → Known → List StepTree → Type 0
StatementsIn fs k ss = AllByRecursion (λ (s : StepTree). IsStatementIn fs k s.act) ss

conditions-in : (k : Known) (fs : List Field) (cur : List Tree) (ss : List StepTree) → AreSorted fs k cur → StatementsIn fs k ss → AreAllowed fs ss → AreConditionsIn fs k cur ss
unfolding AreConditionsIn
conditions-in k fs cur [] s h a = tt
conditions-in k fs cur (x ∷ ss) s h a = (condition-in k fs cur x.act s h.0 a.0, conditions-in k fs (advanced fs cur x.act) ss (advanced-in k fs cur x.act s h.0 a.0) h.1 a.1)

last-in : (k : Known) (fs : List Field) (cur : List Tree) (ss : List StepTree) → AreSorted fs k cur → StatementsIn fs k ss → AreAllowed fs ss → AreSorted fs k (last_values fs cur ss)
unfolding last_values
last-in k fs cur [] s h a = s
last-in k fs cur (x ∷ ss) s h a = last-in k fs (advanced fs cur x.act) ss (advanced-in k fs cur x.act s h.0 a.0) h.1 a.1

-- ---- the first values

blank-in : (k : Known) (z : Sort) → HasSort k z (blank z)
blank-in k Numbers = tt
blank-in k Maps = tt

blanks-in : (k : Known) (fs : List Field) (x : ℕ) → x < length fs → HasSort k (sort_of (strategy_at fs x)) (get_or (map (λ (f : Field). blank (sort_of f.strategy)) fs) x Nil)
blanks-in k [] x lt = absurd (omega arith)
blanks-in k (f ∷ fs) zero lt = blank-in k (sort_of f.strategy)
blanks-in k (f ∷ fs) (suc x) lt = blanks-in k fs x (omega arith)

name-in : (k : Known) (z : Sort) (x : ℕ) → k x ≡ Some z → HasSort k z (Name x)
name-in k Numbers x e = e
name-in k Maps x e = e

names-in : (fs : List Field) (given : List ℕ) (x : ℕ) → x < length fs → HasSort (knows fs given) (sort_of (strategy_at fs x)) (get_or (map Name (range_with_len 0 (length fs))) x Nil)
names-in fs given x lt =
    subst (λ (t : Tree). HasSort (knows fs given) (sort_of (strategy_at fs x)) t) (sym (get_or-map-range_with_len Name 0 (length fs) x x Nil lt (zero-add x)))
    (name-in (knows fs given) (sort_of (strategy_at fs x)) x (rw (lt-ltb x (length fs) lt) refl))

first-in : (fs : List Field) (given : List ℕ) (o : OpMode) → AreSorted fs (knows fs given) (first_values fs o)
first-in fs given mode.Init = record { length_is = length-map fs (λ (f : Field). blank (sort_of f.strategy)); sorted = blanks-in (knows fs given) fs }
first-in fs given mode.Transition = record { length_is = length-map-range_with_len Name 0 (length fs); sorted = names-in fs given }
first-in fs given mode.Property = record { length_is = length-map-range_with_len Name 0 (length fs); sorted = names-in fs given }

operation-in : (fs : List Field) (o : OperationTree) → KnowsItsNames fs o → AreAllowed fs o.steps → IsScopedOperation fs o
operation-in fs o h a = let k = knows fs (own_names o) in let s = first-in fs (own_names o) o.mode in record {
  given = own_names o;
  are_names = h.are_names;
  conditions = conditions-in k fs (first_values fs o.mode) o.steps s h.statements a;
  values = (last-in k fs (first_values fs o.mode) o.steps s h.statements a).sorted;
}

operations-in : (fs : List Field) (os : List OperationTree) → AllByRecursion (KnowsItsNames fs) os → AllByRecursion (λ (o : OperationTree). AreAllowed fs o.steps) os → AllByRecursion (IsScopedOperation fs) os
operations-in fs [] h a = tt
operations-in fs (o ∷ os) h a = (operation-in fs o h.0 a.0, operations-in fs os h.1 a.1)

-- a machine whose names are known and whose statements are allowed
pub is-scoped : (m : MachineTree) → IsNamed m → AllByRecursion (λ (o : OperationTree). AreAllowed m.fields o.steps) m.ops → AllByRecursion ChangesNothing m.ops → IsScoped m
is-scoped m h a still = record { few_fields = h.few_fields; operations = operations-in m.fields m.ops h.operations a; properties = still; invariants = h.invariants }
