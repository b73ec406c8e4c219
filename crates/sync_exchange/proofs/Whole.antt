-- The joined state, what symbols stand for there, and the arguments.
use Rattle.std.proofs.Common.{◌≡◌, ℕ, suc, ◌+◌, ◌<◌, ℤ, pos, Bool, true, false, ◌||◌, List, [], ◌∷◌, ◌++◌, length, map, get_or, Option, Some, None, option_map, inl, inr, ◌⊎◌, refl, sym, ap, subst, ◌∙◌, arith, nat_eq}
use Rattle.std.specs.List.{AllByRecursion, range_with_len}
use Rattle.std.proofs.lemmas.Bool.{eq-eqb}
use Rattle.std.proofs.lemmas.List.{get_or-map, length-map}
use Rattle.std.proofs.lemmas.List.FromFn.{length-map-range_with_len, get_or-map-range_with_len}
use Rattle.std.proofs.lemmas.List.Folds.{list_any-append}
use Rattle.sync_terms.specs.Trees.{Tree, Name, Nil}
use Rattle.sync_terms.specs.Maps as maps
use Rattle.sync_terms.specs.Values.{Valuation}
use Rattle.sync_machine.specs.declared.fields.Field.{Field}
use Rattle.sync_base.specs.declared.strategies.Strategy.{Strategy}
use Rattle.sync_base.specs.declared.strategies.Strategy.TheVariants.{Variable, Constant, NotTokenized, Option as OptionField, Map, Set, Multiset, Count, PersistentOption, PersistentMap, PersistentSet, PersistentCount, StorageMap}
use Rattle.sync_base.specs.declared.strategies.OpMode.{OpMode}
use Rattle.sync_base.specs.declared.strategies.OpMode.TheVariants as mode
use Rattle.sync_machine.specs.States.{Value, Number, Mapped, Sort, Numbers, Maps, State, StandsFor, IsAtFrom, AreGiven, sort_of, strategy_at, value_in, values_in, first_values}
use Rattle.sync_machine.specs.Naming.{first_fault, is_in, is_fields, repeated, parameter_fault}
use Rattle.sync_base.specs.declared.stops.Rule.TheVariants.{N2}
use Rattle.sync_machine.proofs.Checks.{first_both}
use Rattle.sync_join.specs.declared.tokens.Token.{Token}
use Rattle.sync_join.specs.Shards.{Kept, IsOf}
use Rattle.sync_join.specs.Join.{tokens_of, joined, value_at, join_of, record_at, map_of, entries_of, number_of, only_value, as_map, counts_of, sum_of, borne_out}
use Rattle.sync_join.proofs.States.{state-joined}
use Rattle.sync_exchange.specs.Exchange.{seen, argument}
use Rattle.sync_rules.specs.Plain.{is_kept}
use Rattle.sync_exchange.proofs.Rules.{broken-none}
use Rattle.sync_exchange.proofs.Strategies.{some_is, borne_is}
use Rattle.sync_exchange.proofs.Storing.{as_map-parts}

-- ---- the values of a joined state

abbrev pub nothing : Value
nothing = Number (pos 0)

pub state-length : (fs : List Field) (bag : List Token) (kept : Kept) (s : State) → join_of fs bag kept ≡ Some s → length s ≡ length fs
state-length fs bag kept s e =
    let h = state-joined fs bag kept s e in
    let a : length (map Some s) ≡ length s = length-map s Some in
    let b : length (map (value_at fs bag kept) (range_with_len 0 (length fs))) ≡ length fs = length-map-range_with_len (value_at fs bag kept) 0 (length fs) in
    let c = ap length h in sym a ∙ sym c ∙ b

pub state-value : (fs : List Field) (bag : List Token) (kept : Kept) (s : State) (f : ℕ) → join_of fs bag kept ≡ Some s → f < length fs → value_at fs bag kept f ≡ Some (get_or s f nothing)
state-value fs bag kept s f e lt =
    let long = state-length fs bag kept s e in
    let inside : f < length s = omega (arith, long, lt) in
    sym (get_or-map-range_with_len (value_at fs bag kept) 0 (length fs) f f None lt (omega arith))
    ∙ ap (λ xs. get_or xs f None) (state-joined fs bag kept s e)
    ∙ get_or-map Some s f nothing None inside

mapped-some : {X : Type 0} (o : Option X) (g : X → Value) (w : Value) (P : Value → Type 0) → ((x : X) → P (g x)) → option_map g o ≡ Some w → P w
mapped-some None g w P h e = absurd (cc)
mapped-some (Some x) g w P h e = subst P (some_is (g x) w e) (h x)

borne-sort : (b : Bool) (r w : Value) (P : Value → Type 0) → P r → borne_out b r ≡ Some w → P w
borne-sort b r w P h e = subst P (borne_is b r w e).1 h

pub joined-sort : (s : Strategy) (ts : List Token) (r : Value) (st : List Token) (w : Value) → IsOf (sort_of s) r → joined s ts r st ≡ Some w → IsOf (sort_of s) w
unfolding sort_of
joined-sort Variable ts r st w h e = mapped-some (only_value ts) Number w (IsOf Numbers) (λ n. tt) e
joined-sort OptionField ts r st w h e = mapped-some (as_map ts) Mapped w (IsOf Maps) (λ n. tt) e
joined-sort Map ts r st w h e = mapped-some (as_map ts) Mapped w (IsOf Maps) (λ n. tt) e
joined-sort Set ts r st w h e = mapped-some (as_map ts) Mapped w (IsOf Maps) (λ n. tt) e
joined-sort Multiset ts r st w h e = subst (IsOf Maps) (some_is (Mapped (counts_of ts)) w e) tt
joined-sort Count ts r st w h e = subst (IsOf Numbers) (some_is (Number (sum_of ts)) w e) tt
joined-sort PersistentOption ts r st w h e = borne-sort _ r w (IsOf Maps) h e
joined-sort PersistentMap ts r st w h e = borne-sort _ r w (IsOf Maps) h e
joined-sort PersistentSet ts r st w h e = borne-sort _ r w (IsOf Maps) h e
joined-sort PersistentCount ts r st w h e = borne-sort _ r w (IsOf Numbers) h e
joined-sort Constant ts r st w h e = subst (IsOf Numbers) (some_is r w e) h
joined-sort NotTokenized ts r st w h e = subst (IsOf Numbers) (some_is r w e) h
joined-sort StorageMap ts r st w h e = mapped-some (as_map st) Mapped w (IsOf Maps) (λ n. tt) e

-- a value of a sort is what its number or its entries make
abbrev again : Sort → Value → Value
again Numbers w = Number (number_of w)
again Maps w = Mapped (entries_of w)

again-same : (s : Sort) (w : Value) → IsOf s w → again s w ≡ w
again-same Numbers (Number n) h = refl
again-same Numbers (Mapped m) h = absurd h
again-same Maps (Number n) h = absurd h
again-same Maps (Mapped m) h = refl

again-in : (s : Sort) (v : Valuation) (f : ℕ) (w : Value) → v.number f ≡ number_of w → v.mapping f ≡ entries_of w → value_in v s (Name f) ≡ again s w
again-in Numbers v f w a b = ap Number a
again-in Maps v f w a b = ap Mapped b

pub name-value : (s : Sort) (v : Valuation) (f : ℕ) (w : Value) → v.number f ≡ number_of w → v.mapping f ≡ entries_of w → IsOf s w → value_in v s (Name f) ≡ w
name-value s v f w a b h = again-in s v f w a b ∙ again-same s w h

-- a number has no entries
pub number-nil : (w : Value) → IsOf Numbers w → entries_of w ≡ maps.nil
number-nil (Number n) h = refl
number-nil (Mapped m) h = absurd h

-- ---- what the exchange sees of a field is its value

is_recorded-borne : (b : Bool) (r w : Value) → borne_out b r ≡ Some w → r ≡ w
is_recorded-borne b r w e = (borne_is b r w e).1

stored-seen : (st : List Token) (w : Value) → option_map Mapped (as_map st) ≡ Some w → Mapped (map_of st) ≡ w
stored-seen st w e = cases (as_map st) refl e where
  cases : (o : Option maps.Map) → as_map st ≡ o → option_map Mapped o ≡ Some w → Mapped (map_of st) ≡ w
  cases None is h = absurd (cc)
  cases (Some m) is h = ap Mapped (as_map-parts st m is).1 ∙ some_is (Mapped m) w h

pub seen-value : (s : Strategy) (ts : List Token) (kept : Kept) (whole : State) (f : ℕ) (w : Value) → joined s ts (record_at kept f) (tokens_of f kept.stored) ≡ Some w
    → (is_kept s ≡ true) ⊎ (get_or whole f nothing ≡ w) → seen s kept whole f ≡ w
seen-value Constant ts kept whole f w e h = some_is (record_at kept f) w e
seen-value NotTokenized ts kept whole f w e h = some_is (record_at kept f) w e
seen-value PersistentOption ts kept whole f w e h = is_recorded-borne _ (record_at kept f) w e
seen-value PersistentMap ts kept whole f w e h = is_recorded-borne _ (record_at kept f) w e
seen-value PersistentSet ts kept whole f w e h = is_recorded-borne _ (record_at kept f) w e
seen-value PersistentCount ts kept whole f w e h = is_recorded-borne _ (record_at kept f) w e
seen-value StorageMap ts kept whole f w e h = stored-seen (tokens_of f kept.stored) w e
seen-value Variable ts kept whole f w e (inr h) = h
seen-value OptionField ts kept whole f w e (inr h) = h
seen-value Map ts kept whole f w e (inr h) = h
seen-value Set ts kept whole f w e (inr h) = h
seen-value Multiset ts kept whole f w e (inr h) = h
seen-value Count ts kept whole f w e (inr h) = h
seen-value Variable ts kept whole f w e (inl h) = absurd (cc)
seen-value OptionField ts kept whole f w e (inl h) = absurd (cc)
seen-value Map ts kept whole f w e (inl h) = absurd (cc)
seen-value Set ts kept whole f w e (inl h) = absurd (cc)
seen-value Multiset ts kept whole f w e (inl h) = absurd (cc)
seen-value Count ts kept whole f w e (inl h) = absurd (cc)

-- ---- symbols at the state

stands-for : (v : Valuation) (x : ℕ) (w : Value) → v.number x ≡ number_of w → v.mapping x ≡ entries_of w → StandsFor v x w
stands-for v x (Number n) a b = a
stands-for v x (Mapped m) a b = b

pub at-from : (v : Valuation) (n : ℕ) (s : State) → ((i : ℕ) → i < length s → (v.number (n + i) ≡ number_of (get_or s i nothing)) × (v.mapping (n + i) ≡ entries_of (get_or s i nothing))) → IsAtFrom n s v
at-from v n [] h = tt
at-from v n (w ∷ s) h =
    let here = h 0 (omega arith) in
    let at : n + 0 ≡ n = omega arith in (
      stands-for v n w (ap v.number (sym at) ∙ here.0) (ap v.mapping (sym at) ∙ here.1),
      at-from v (suc n) s (λ i lt.
          let later = h (suc i) (omega arith) in
          let moved : suc n + i ≡ n + suc i = omega arith in
          (ap v.number moved ∙ later.0, ap v.mapping moved ∙ later.1)),
    )

pub first-names : (fs : List Field) (m : OpMode) → (m ≡ mode.Init → ⊥) → first_values fs m ≡ map Name (range_with_len 0 (length fs))
first-names fs mode.Init h = absurd (h refl)
first-names fs mode.Transition h = refl
first-names fs mode.Property h = refl

pub first-name : (fs : List Field) (f : ℕ) → f < length fs → get_or (map Name (range_with_len 0 (length fs))) f Nil ≡ Name f
first-name fs f lt = get_or-map-range_with_len Name 0 (length fs) f f Nil lt (omega arith)

-- ---- the values that terms have are a state

pub values-list : (v : Valuation) (g : ℕ → Option Value) (n : ℕ) (fs : List Field) (ts : List Tree) → length ts ≡ length fs
    → ((i : ℕ) → i < length fs → g (n + i) ≡ Some (value_in v (sort_of (strategy_at fs i)) (get_or ts i Nil))) → map g (range_with_len n (length fs)) ≡ map Some (values_in v fs ts)
values-list v g n [] ts long h = refl
values-list v g n (f ∷ fs) [] long h = absurd (omega arith)
values-list v g n (f ∷ fs) (t ∷ ts) long h =
    let start : n + 0 ≡ n = omega arith in
    let here : g n ≡ Some (value_in v (sort_of f.strategy) t) = ap g (sym start) ∙ h 0 (omega arith) in
    let later = values-list v g (n + 1) fs ts (omega arith) (λ i lt. let moved : n + 1 + i ≡ n + suc i = omega arith in ap g moved ∙ h (suc i) (omega arith)) in
    ap (λ o. o ∷ map g (range_with_len (n + 1) (length fs))) here ∙ ap (λ os. Some (value_in v (sort_of f.strategy) t) ∷ os) later

-- ---- arguments

-- no parameter stands twice
abbrev pub AreApart : List ℕ → Type 0
AreApart [] = Unit {0}
AreApart (p ∷ ps) = AllByRecursion (λ (r : ℕ). nat_eq r p ≡ false) ps × AreApart ps

or-false : (a b : Bool) → (a || b) ≡ false → (a ≡ false) × (b ≡ false)
or-false true b e = absurd (cc)
or-false false b e = (refl, e)

split-in : (before : List ℕ) (p : ℕ) (ps : List ℕ) → AllByRecursion (λ (r : ℕ). is_in r (before ++ p ∷ []) ≡ false) ps
    → AllByRecursion (λ (r : ℕ). is_in r before ≡ false) ps × AllByRecursion (λ (r : ℕ). nat_eq r p ≡ false) ps
split-in before p [] h = (tt, tt)
split-in before p (r ∷ ps) h =
    let a = or-false (is_in r before) _ (sym (list_any-append (nat_eq r) before (p ∷ [])) ∙ h.0) in
    let b = or-false (nat_eq r p) false a.1 in
    let rest = split-in before p ps h.1 in
    ((a.0, rest.0), (b.0, rest.1))

pub params-apart : (fs : List Field) (before ps : List ℕ) → first_fault (parameter_fault fs) before ps ≡ None → AllByRecursion (λ (r : ℕ). is_in r before ≡ false) ps × AreApart ps
unfolding first_fault
params-apart fs before [] e = (tt, tt)
params-apart fs before (p ∷ ps) e =
    let a = first_both (parameter_fault fs before p) _ e in
    let b = first_both (repeated fs before p) _ a.0 in
    let here = (or-false (is_fields fs p) (is_in p before) (broken-none _ N2 b.0)).1 in
    let rest = params-apart fs (before ++ p ∷ []) ps a.1 in
    let parts = split-in before p ps rest.0 in
    ((here, parts.0), (parts.1, rest.1))

later-argument : (p : ℕ) (n : ℤ) (ps : List ℕ) (ns : List ℤ) (x : ℕ) → nat_eq x p ≡ false → argument (p ∷ ps) (n ∷ ns) x ≡ argument ps ns x
unfolding argument
later-argument p n ps ns x e = rw e refl

first-argument : (p : ℕ) (n : ℤ) (ps : List ℕ) (ns : List ℤ) → argument (p ∷ ps) (n ∷ ns) p ≡ n
unfolding argument
first-argument p n ps ns = let e : nat_eq p p ≡ true = eq-eqb p p refl in rw e refl

tail-arguments : (v : Valuation) (p : ℕ) (n : ℤ) (ps qs : List ℕ) (ns : List ℤ) → AllByRecursion (λ (r : ℕ). nat_eq r p ≡ false) qs
    → AllByRecursion (λ (r : ℕ). v.number r ≡ argument (p ∷ ps) (n ∷ ns) r) qs → AllByRecursion (λ (r : ℕ). v.number r ≡ argument ps ns r) qs
tail-arguments v p n ps [] ns a h = tt
tail-arguments v p n ps (r ∷ qs) ns a h = (h.0 ∙ later-argument p n ps ns r a.0, tail-arguments v p n ps qs ns a.1 h.1)

pub are-given : (v : Valuation) (ps : List ℕ) (ns : List ℤ) → length ns ≡ length ps → AreApart ps → AllByRecursion (λ (r : ℕ). v.number r ≡ argument ps ns r) ps → AreGiven ps ns v
are-given v [] [] long apart h = tt
are-given v [] (n ∷ ns) long apart h = absurd (omega arith)
are-given v (p ∷ ps) [] long apart h = absurd (omega arith)
are-given v (p ∷ ps) (n ∷ ns) long apart h =
    (h.0 ∙ first-argument p n ps ns, are-given v ps ns (omega arith) apart.1 (tail-arguments v p n ps ps ns apart.0 h.1))
