-- A machine whose duties are proved holds always: one induction over reached states.
use Rattle.std.proofs.Common.{◌≡◌, ℕ, suc, ◌+◌, ◌-◌, ◌*◌, ◌<◌, ◌≤◌, ℤ, Bool, true, false, List, [], ◌∷◌, length, get_or, Some, None, refl, sym, ap, subst, ◌∙◌, inl, inr, arith, cond, ltb, zero-add}
use Rattle.std.specs.Prelude.{nat_eq, Contains, ◌⊎◌}
use Rattle.std.specs.List.{AllByRecursion, list_any}
use Rattle.std.proofs.lemmas.Bool.{cases_Bool, ltb-true, ltb-false, lt-ltb, le-ltb, eqb-true, eq-eqb, ne_eqb, true≢false, false≢true}
use Rattle.std.proofs.lemmas.List.{length-map}
use Rattle.std.proofs.lemmas.List.FromFn.{get_or-map-range_with_len, length-map-range_with_len}
use Rattle.std.proofs.lemmas.List.Elements.{All-contains, All-from_recursion}
use Rattle.sync_base.proofs.Basics.{cond_false, cond_true}
use Rattle.sync_terms.specs.Trees.{Tree, Name, Nil, Formula, replaced_in}
use Rattle.sync_terms.specs.Values.{Valuation, num, mapped, Holds, HoldsForAll, with_value, IsValid}
use Rattle.sync_machine.specs.declared.fields.Field.{Field}
use Rattle.sync_base.specs.declared.strategies.OpMode.{OpMode}
use Rattle.sync_base.specs.declared.strategies.OpMode.TheVariants as mode
use Rattle.sync_machine.specs.Machines.{OperationTree, InvariantTree, MachineTree}
use Rattle.sync_machine.specs.States.{State, Sort, Numbers, Maps, sort_of, value_in, StandsFor, IsAt, strategy_at, last_values, first_values, blank, AreMet, values_in, IsInit, Steps, Starts, IsReached, starts, steps, MeetsInvariants, HoldsAlways}
use Rattle.sync_machine.specs.Scope.{Known, IsNumber, IsMap, IsFormula, HasSort, knows, IsNameSymbol, IsScopedInvariant, ChangesNothing}
use Rattle.sync_induct.proofs.Scoped.{IsScopedOperation, IsScoped}
use Rattle.sync_rules.specs.Obligations.{names, form_names, is_kept_by}
use Rattle.sync_kernel_facts.specs.Facts.{Fact}
use Rattle.sync_induct.specs.Duties.{invariant_facts, facts_behind, keeps_duties, closing, base_facts, as_hypotheses, IsProved}
use Rattle.sync_induct.proofs.DutyLists.{step_duties, duties_of, AreProved}
use Rattle.sync_induct.proofs.Agreement.{Agree, Agree-part, num-agree, mapped-agree, truth-agree, composed, truth-replaced}
use Rattle.sync_induct.proofs.Along.{FactsHold, as_givens, all-left, all-right, behind-holds, steps-safe, KeepsIt, keeps-valid, IsOperationProved, operations-proved, met-agree, last-length, Spares, last-spared, untouched, nothing-changed, isat-agree, values-length, values-at}

-- ---- which symbols are known

-- a known symbol is a field, of its field's sort, or it is one of the names, a number
known-cases : (fs : List Field) (given : List ℕ) (x : ℕ) (z : Sort) → knows fs given x ≡ Some z
    → ((x < length fs) × (sort_of (strategy_at fs x) ≡ z)) ⊎ ((length fs ≤ x) × (list_any (nat_eq x) given ≡ true) × (z ≡ Numbers))
known-cases fs given x z e =
    elim (cases_Bool (ltb x (length fs))) [
      | inl t ↦ let s : Some (sort_of (strategy_at fs x)) ≡ Some z = sym (cond_true (ltb x (length fs)) (Some (sort_of (strategy_at fs x))) (cond (list_any (nat_eq x) given) (Some Numbers) None) t) ∙ e in inl (ltb-true _ _ t, cc)
      | inr f ↦ let s : cond (list_any (nat_eq x) given) (Some Numbers) None ≡ Some z = sym (cond_false (ltb x (length fs)) (Some (sort_of (strategy_at fs x))) (cond (list_any (nat_eq x) given) (Some Numbers) None) f) ∙ e in
          elim (cases_Bool (list_any (nat_eq x) given)) [
            | inl t ↦ let u : Some Numbers ≡ Some z = sym (cond_true (list_any (nat_eq x) given) (Some Numbers) None t) ∙ s in inr (ltb-false _ _ f, t, cc)
            | inr g ↦ let u : None ≡ Some z = sym (cond_false (list_any (nat_eq x) given) (Some Numbers) None g) ∙ s in absurd cc
          ]
    ]

any-cons : (p : ℕ → Bool) (x : ℕ) (xs : List ℕ) → p x ≡ false → list_any p (x ∷ xs) ≡ list_any p xs
any-cons p x xs f = rw f refl

any-head : (p : ℕ → Bool) (x : ℕ) (xs : List ℕ) → p x ≡ true → list_any p (x ∷ xs) ≡ true
any-head p x xs t = rw t refl

any-later : (p : ℕ → Bool) (x : ℕ) (xs : List ℕ) → list_any p xs ≡ true → list_any p (x ∷ xs) ≡ true
any-later p x xs t = elim (cases_Bool (p x)) [ inl h ↦ any-head p x xs h | inr f ↦ any-cons p x xs f ∙ t ]

named-symbol : (x : ℕ) (given : List ℕ) → AllByRecursion IsNameSymbol given → list_any (nat_eq x) given ≡ true → IsNameSymbol x
named-symbol x [] h e = absurd (false≢true e)
named-symbol x (p ∷ ps) h e =
    elim (cases_Bool (nat_eq x p)) [
      | inl t ↦ let same : x ≡ p = eqb-true x p t in (h.0.0, same ∙ h.0.1)
      | inr f ↦ named-symbol x ps h.1 (sym (any-cons (nat_eq x) p ps f) ∙ e)
    ]

-- ---- `$p` for each parameter p

-- the number of `$p` is that of p in w; all else is as in v
abbrev pub dollar : List ℕ → Valuation → Valuation → Valuation
dollar params w v = record { number = λ x. cond (list_any (λ p. nat_eq x (suc p)) params) (w.number (x - 1)) (v.number x); mapping = v.mapping }

no-dollar : (x : ℕ) (params : List ℕ) → AllByRecursion IsNameSymbol params → ((n : ℕ) → x ≡ 65 + 4 * n → ⊥) → list_any (λ p. nat_eq x (suc p)) params ≡ false
no-dollar x [] h other = refl
no-dollar x (p ∷ ps) h other =
    let differs : nat_eq x (suc p) ≡ false = ne_eqb x (suc p) (λ e. let k : p ≡ 64 + 4 * h.0.0 = h.0.1 in other h.0.0 (omega arith)) in
    rw differs (no-dollar x ps h.1 other)

is-dollar : (x : ℕ) (params : List ℕ) → list_any (nat_eq x) params ≡ true → list_any (λ p. nat_eq (suc x) (suc p)) params ≡ true
is-dollar x [] e = absurd (false≢true e)
is-dollar x (p ∷ ps) e =
    elim (cases_Bool (nat_eq x p)) [
      | inl t ↦ any-head (λ p. nat_eq (suc x) (suc p)) p ps (eq-eqb (suc x) (suc p) (ap suc (eqb-true x p t)))
      | inr f ↦ any-later (λ p. nat_eq (suc x) (suc p)) p ps (is-dollar x ps (sym (any-cons (nat_eq x) p ps f) ∙ e))
    ]

-- a known symbol of an operation is no `$p`
known-no-dollar : (fs : List Field) (given params : List ℕ) (x : ℕ) (z : Sort) → length fs ≤ 32 → AllByRecursion IsNameSymbol given → AllByRecursion IsNameSymbol params → knows fs given x ≡ Some z
    → list_any (λ p. nat_eq x (suc p)) params ≡ false
known-no-dollar fs given params x z few are_names are_params e =
    elim (known-cases fs given x z e) [
      | inl f ↦ let lt = f.0 in no-dollar x params are_params (λ n same. omega arith)
      | inr g ↦ let name = named-symbol x given are_names g.1 in let is : x ≡ 64 + 4 * name.0 = name.1 in no-dollar x params are_params (λ n same. omega arith)
    ]

agree-dollar : (fs : List Field) (given params : List ℕ) (v w : Valuation) → length fs ≤ 32 → AllByRecursion IsNameSymbol given → AllByRecursion IsNameSymbol params → Agree (knows fs given) (λ _. true) v (dollar params w v)
agree-dollar fs given params v w few are_names are_params = record {
  number = λ x t k. sym (cond_false _ (w.number (x - 1)) (v.number x) (known-no-dollar fs given params x Numbers few are_names are_params k));
  mapping = λ x t k. refl;
}

isat-dollar : (s : State) (params : List ℕ) (v w : Valuation) → length s ≤ 32 → AllByRecursion IsNameSymbol params → IsAt s v → IsAt s (dollar params w v)
isat-dollar s params v w few are_params h =
    isat-agree 0 s v (dollar params w v) (λ x lt. (sym (cond_false _ (w.number (x - 1)) (v.number x) (no-dollar x params are_params (λ n same. omega arith))), refl)) h

-- ---- an invariant behind an operation

-- the value of a field behind the operation is what its last term is before it
field-number : (fs : List Field) (last : List Tree) (v w : Valuation) (x : ℕ) → x < length fs → length last ≡ length fs → sort_of (strategy_at fs x) ≡ Numbers → IsAt (values_in v fs last) w → w.number x ≡ num v (get_or last x Nil)
field-number fs last v w x lt same sort h =
    subst (λ (z : Sort). StandsFor w x (value_in v z (get_or last x Nil))) sort
    (subst (λ (k : ℕ). StandsFor w k (value_in v (sort_of (strategy_at fs x)) (get_or last x Nil))) (zero-add x) (values-at v w fs last 0 x lt same h))

field-mapping : (fs : List Field) (last : List Tree) (v w : Valuation) (x : ℕ) → x < length fs → length last ≡ length fs → sort_of (strategy_at fs x) ≡ Maps → IsAt (values_in v fs last) w → w.mapping x ≡ mapped v (get_or last x Nil)
field-mapping fs last v w x lt same sort h =
    subst (λ (z : Sort). StandsFor w x (value_in v z (get_or last x Nil))) sort
    (subst (λ (k : ℕ). StandsFor w k (value_in v (sort_of (strategy_at fs x)) (get_or last x Nil))) (zero-add x) (values-at v w fs last 0 x lt same h))

closing-field : (params : List ℕ) (last : List Tree) (x : ℕ) → x < length last → closing params last x ≡ get_or last x Nil
closing-field params last x lt = cond_true (ltb x (length last)) (get_or last x Nil) (cond (list_any (nat_eq x) params) (Name (suc x)) (Name x)) (lt-ltb x (length last) lt)

closing-param : (params : List ℕ) (last : List Tree) (x : ℕ) → length last ≤ x → list_any (nat_eq x) params ≡ true → closing params last x ≡ Name (suc x)
closing-param params last x le t =
    cond_false (ltb x (length last)) (get_or last x Nil) (cond (list_any (nat_eq x) params) (Name (suc x)) (Name x)) (le-ltb x (length last) le)
    ∙ cond_true (list_any (nat_eq x) params) (Name (suc x)) (Name x) t

-- what the operation speaks of, and what its last terms are
pub record Ends (fs : List Field) (given : List ℕ) (last : List Tree) : Type 0 where
  pub few : length fs ≤ 32
  pub are_names : AllByRecursion IsNameSymbol given
  pub length_is : length last ≡ length fs
  pub values : (x : ℕ) → x < length fs → HasSort (knows fs given) (sort_of (strategy_at fs x)) (get_or last x Nil)

everything : {k : Known} {v w : Valuation} (part : ℕ → Bool) → Agree k (λ _. true) v w → Agree k part v w
everything part a = Agree-part (λ x e. refl) a

last-number : (fs : List Field) (given params : List ℕ) (last : List Tree) (v w : Valuation) (x : ℕ) → Ends fs given last → AllByRecursion IsNameSymbol params → x < length fs → sort_of (strategy_at fs x) ≡ Numbers
    → num v (get_or last x Nil) ≡ num (dollar params w v) (get_or last x Nil)
last-number fs given params last v w x ends are_params lt sort =
    let t = get_or last x Nil in
    let scoped : IsNumber (knows fs given) t = subst (λ (z : Sort). HasSort (knows fs given) z t) sort (ends.values x lt) in
    num-agree (knows fs given) v (dollar params w v) t scoped (everything (λ y. names y t) (agree-dollar fs given params v w ends.few ends.are_names are_params))

last-mapping : (fs : List Field) (given params : List ℕ) (last : List Tree) (v w : Valuation) (x : ℕ) → Ends fs given last → AllByRecursion IsNameSymbol params → x < length fs → sort_of (strategy_at fs x) ≡ Maps
    → mapped v (get_or last x Nil) ≡ mapped (dollar params w v) (get_or last x Nil)
last-mapping fs given params last v w x ends are_params lt sort =
    let t = get_or last x Nil in
    let scoped : IsMap (knows fs given) t = subst (λ (z : Sort). HasSort (knows fs given) z t) sort (ends.values x lt) in
    mapped-agree (knows fs given) v (dollar params w v) t scoped (everything (λ y. names y t) (agree-dollar fs given params v w ends.few ends.are_names are_params))

back : (x : ℕ) → suc x - 1 ≡ x
back x = omega arith

maps≢numbers : Maps ≡ Numbers → ⊥
maps≢numbers e = cc

closing-agrees : (fs : List Field) (given params : List ℕ) (last : List Tree) (v w : Valuation) (form : Formula) → Ends fs given last → AllByRecursion IsNameSymbol params → IsAt (values_in v fs last) w
    → Agree (knows fs params) (λ x. form_names x form) (composed (closing params last) (dollar params w v)) w
closing-agrees fs given params last v w form ends are_params at = record { number = number; mapping = mapping } where
  z : Valuation
  z = dollar params w v

  number : (x : ℕ) → form_names x form ≡ true → knows fs params x ≡ Some Numbers → num z (closing params last x) ≡ w.number x
  number x named known =
      elim (known-cases fs params x Numbers known) [
        | inl f ↦ ap (num z) (closing-field params last x (omega (arith, ends.length_is, f.0)))
            ∙ (sym (last-number fs given params last v w x ends are_params f.0 f.1) ∙ sym (field-number fs last v w x f.0 ends.length_is f.1 at))
        | inr g ↦ ap (num z) (closing-param params last x (omega (arith, ends.length_is, g.0)) g.1)
            ∙ (cond_true (list_any (λ p. nat_eq (suc x) (suc p)) params) (w.number (suc x - 1)) (v.number (suc x)) (is-dollar x params g.1) ∙ ap w.number (back x))
      ]

  mapping : (x : ℕ) → form_names x form ≡ true → knows fs params x ≡ Some Maps → mapped z (closing params last x) ≡ w.mapping x
  mapping x named known =
      elim (known-cases fs params x Maps known) [
        | inl f ↦ ap (mapped z) (closing-field params last x (omega (arith, ends.length_is, f.0)))
            ∙ (sym (last-mapping fs given params last v w x ends are_params f.0 f.1) ∙ sym (field-mapping fs last v w x f.0 ends.length_is f.1 at))
        | inr g ↦ absurd (maps≢numbers g.2)
      ]

-- an invariant that the operation has to keep
pub kept : (fs : List Field) (given params : List ℕ) (last : List Tree) (v w : Valuation) (form : Formula) (facts : List Fact) → Ends fs given last → AllByRecursion IsNameSymbol params → IsFormula (knows fs params) form
    → IsValid (as_hypotheses facts) (replaced_in (closing params last) form) → FactsHold (dollar params w v) facts → IsAt (values_in v fs last) w → Holds w form
kept fs given params last v w form facts ends are_params scoped valid hold at =
    sym (truth-agree (knows fs params) (composed (closing params last) (dollar params w v)) w form scoped (closing-agrees fs given params last v w form ends are_params at))
    ∙ (sym (truth-replaced (closing params last) (dollar params w v) form) ∙ valid (dollar params w v) (as_givens (dollar params w v) facts hold))

-- the fields as in v, all else as in w
abbrev fields_of : ℕ → Valuation → Valuation → Valuation
fields_of n v w = record { number = λ x. cond (ltb x n) (v.number x) (w.number x); mapping = λ x. cond (ltb x n) (v.mapping x) (w.mapping x) }

-- an invariant that no statement touches
pub stays : (fs : List Field) (params : List ℕ) (last : List Tree) (s : State) (v w : Valuation) (form : Formula) → IsFormula (knows fs params) form → length last ≡ length fs → length s ≡ length fs
    → ((x : ℕ) → x < length fs → form_names x form ≡ true → get_or last x Nil ≡ Name x) → IsAt s v → ((u : Valuation) → IsAt s u → Holds u form) → IsAt (values_in v fs last) w → Holds w form
stays fs params last s v w form scoped same len unchanged before meets at =
    sym (truth-agree (knows fs params) u w form scoped (record { number = number; mapping = mapping })) ∙ meets u is_at where
      u : Valuation
      u = fields_of (length fs) v w

      is_at : IsAt s u
      is_at = isat-agree 0 s v u (λ x lt. (sym (cond_true (ltb x (length fs)) (v.number x) (w.number x) (lt-ltb x (length fs) (omega arith))), sym (cond_true (ltb x (length fs)) (v.mapping x) (w.mapping x) (lt-ltb x (length fs) (omega arith))))) before

      number : (x : ℕ) → form_names x form ≡ true → knows fs params x ≡ Some Numbers → u.number x ≡ w.number x
      number x named known =
          elim (known-cases fs params x Numbers known) [
            | inl f ↦ cond_true (ltb x (length fs)) (v.number x) (w.number x) (lt-ltb x (length fs) f.0) ∙ (sym (ap (num v) (unchanged x f.0 named)) ∙ sym (field-number fs last v w x f.0 same f.1 at))
            | inr g ↦ cond_false (ltb x (length fs)) (v.number x) (w.number x) (le-ltb x (length fs) g.0)
          ]

      mapping : (x : ℕ) → form_names x form ≡ true → knows fs params x ≡ Some Maps → u.mapping x ≡ w.mapping x
      mapping x named known =
          elim (known-cases fs params x Maps known) [
            | inl f ↦ cond_true (ltb x (length fs)) (v.mapping x) (w.mapping x) (lt-ltb x (length fs) f.0) ∙ (sym (ap (mapped v) (unchanged x f.0 named)) ∙ sym (field-mapping fs last v w x f.0 same f.1 at))
            | inr g ↦ absurd (maps≢numbers g.2)
          ]

-- ---- the induction

is_numbered : {A : Type 0} (x p : ℕ) (n a : A) → x < 64 → IsNameSymbol p → cond (nat_eq x p) n a ≡ a
is_numbered x p n a lt name = cond_false (nat_eq x p) n a (ne_eqb x p (λ e. let is : p ≡ 64 + 4 * name.0 = name.1 in omega arith))

-- an invariant that is true at s holds there whatever its parameters stand for
invariant-holds : (s : State) (params : List ℕ) (form : Formula) (v : Valuation) → length s ≤ 32 → AllByRecursion IsNameSymbol params → ((u : Valuation) → IsAt s u → Holds u form) → IsAt s v → HoldsForAll params v form
invariant-holds s [] form v few h meets at = meets v at
invariant-holds s (p ∷ ps) form v few h meets at =
    λ n m. invariant-holds s ps form (with_value p n m v) few h.1 meets
    (isat-agree 0 s v (with_value p n m v) (λ x lt. (sym (is_numbered x p n (v.number x) (omega arith) h.0), sym (is_numbered x p m (v.mapping x) (omega arith) h.0))) at)

abbrev IsTrueAt : State → InvariantTree → Type 0
IsTrueAt s i = (v : Valuation) → IsAt s v → Holds v i.form

invariants-hold : (fs : List Field) (s : State) (v : Valuation) (is : List InvariantTree) → length s ≤ 32 → AllByRecursion (IsScopedInvariant fs) is → AllByRecursion (IsTrueAt s) is → IsAt s v → FactsHold v (invariant_facts is)
invariants-hold fs s v [] few scoped meets at = tt
invariants-hold fs s v (i ∷ is) few scoped meets at =
    (invariant-holds s i.params i.form v few scoped.0.are_names meets.0 at, invariants-hold fs s v is few scoped.1 meets.1 at)

-- what is known of every reached state
record IsFine (m : MachineTree) (s : State) : Type 0 where
  length_is : length s ≡ length m.fields
  meets : MeetsInvariants m s

first-length : (fs : List Field) (o : OpMode) → length (first_values fs o) ≡ length fs
first-length fs mode.Init = length-map fs (λ (f : Field). blank (sort_of f.strategy))
first-length fs mode.Transition = length-map-range_with_len Name 0 (length fs)
first-length fs mode.Property = length-map-range_with_len Name 0 (length fs)

abbrev last_of : MachineTree → OperationTree → List Tree
last_of m o = last_values m.fields (first_values m.fields o.mode) o.steps

last-is : (m : MachineTree) (o : OperationTree) → length (last_of m o) ≡ length m.fields
last-is m o = last-length m.fields (first_values m.fields o.mode) o.steps ∙ first-length m.fields o.mode

abbrev facts_of : MachineTree → OperationTree → List Fact
facts_of m o = facts_behind m.fields (first_values m.fields o.mode) (base_facts o.mode m.invariants) 1 o.steps

ends-of : (m : MachineTree) (o : OperationTree) (few : length m.fields ≤ 32) (h : IsScopedOperation m.fields o) → Ends m.fields h.given (last_of m o)
ends-of m o few h = record { few = few; are_names = h.are_names; length_is = last-is m o; values = h.values }

-- all facts behind the statements hold, with `$p` as the parameters of an invariant
facts-hold : (m : MachineTree) (o : OperationTree) (few : length m.fields ≤ 32) (h : IsScopedOperation m.fields o) (params : List ℕ) (v w : Valuation) → AllByRecursion IsNameSymbol params
    → FactsHold (dollar params w v) (base_facts o.mode m.invariants) → AreMet m.fields v (first_values m.fields o.mode) o.steps → FactsHold (dollar params w v) (facts_of m o)
facts-hold m o few h params v w are_params base met =
    behind-holds m.fields (dollar params w v) (first_values m.fields o.mode) (base_facts o.mode m.invariants) 1 o.steps base
    (met-agree m.fields (knows m.fields h.given) v (dollar params w v) (first_values m.fields o.mode) o.steps h.conditions
    (agree-dollar m.fields h.given params v w few h.are_names are_params) met)

-- a field that no statement of a transition or property changes has its own name as its last term
spared-name : (m : MachineTree) (o : OperationTree) (x : ℕ) → (IsInit o → ⊥) → x < length m.fields → AllByRecursion (Spares x) o.steps → get_or (last_of m o) x Nil ≡ Name x
spared-name m o x no_init lt h = last-spared m.fields (first_values m.fields o.mode) o.steps x h ∙ names-at o.mode no_init where
  names-at : (k : OpMode) → (k ≡ mode.Init → ⊥) → get_or (first_values m.fields k) x Nil ≡ Name x
  names-at mode.Init apart = absurd (apart refl)
  names-at mode.Transition apart = get_or-map-range_with_len Name 0 (length m.fields) x x Nil lt (zero-add x)
  names-at mode.Property apart = get_or-map-range_with_len Name 0 (length m.fields) x x Nil lt (zero-add x)

-- an invariant that an operation does not have to keep names no field that it changes
not-kept-spares : (o : OperationTree) (h : ChangesNothing o) (form : Formula) (x : ℕ) → (IsInit o → ⊥) → is_kept_by o.mode o.steps form ≡ false → form_names x form ≡ true → AllByRecursion (Spares x) o.steps
not-kept-spares o h form x no_init e named = by o.mode refl e where
  by : (k : OpMode) → o.mode ≡ k → is_kept_by k o.steps form ≡ false → AllByRecursion (Spares x) o.steps
  by mode.Init is f = absurd (no_init is)
  by mode.Transition is f = untouched form x o.steps named f
  by mode.Property is f = nothing-changed x o.steps (h is)

-- behind a step each invariant is true again
step-keeps : (m : MachineTree) (o : OperationTree) (few : length m.fields ≤ 32) (h : IsScopedOperation m.fields o) (still : ChangesNothing o) (s : State) (v : Valuation) (is : List InvariantTree) → length s ≡ length m.fields → (IsInit o → ⊥) → IsAt s v
    → AreMet m.fields v (first_values m.fields o.mode) o.steps
    → ((u : Valuation) → IsAt s u → FactsHold u (base_facts o.mode m.invariants))
    → AllByRecursion (IsScopedInvariant m.fields) is → AllByRecursion (KeepsIt o (facts_of m o) (last_of m o)) is → AllByRecursion (IsTrueAt s) is
    → AllByRecursion (IsTrueAt (values_in v m.fields (last_of m o))) is
step-keeps m o few h still s v [] len no_init at met base scoped keeps meets = tt
step-keeps m o few h still s v (i ∷ is) len no_init at met base scoped keeps meets =
    (one (is_kept_by o.mode o.steps i.form) refl, step-keeps m o few h still s v is len no_init at met base scoped.1 keeps.1 meets.1) where
      one : (b : Bool) → is_kept_by o.mode o.steps i.form ≡ b → IsTrueAt (values_in v m.fields (last_of m o)) i
      one true e w at_w =
          kept m.fields h.given i.params (last_of m o) v w i.form (facts_of m o) (ends-of m o few h) scoped.0.are_names scoped.0.form (keeps.0 e)
          (facts-hold m o few h i.params v w scoped.0.are_names (base (dollar i.params w v) (isat-dollar s i.params v w (omega arith) scoped.0.are_names at)) met) at_w
      one false e w at_w =
          stays m.fields i.params (last_of m o) s v w i.form scoped.0.form (last-is m o) len
          (λ x lt named. spared-name m o x no_init lt (not-kept-spares o still i.form x no_init e named)) at meets.0 at_w

-- behind an init each invariant is true
start-keeps : (m : MachineTree) (o : OperationTree) (few : length m.fields ≤ 32) (h : IsScopedOperation m.fields o) (v : Valuation) (is : List InvariantTree) → IsInit o
    → AreMet m.fields v (first_values m.fields o.mode) o.steps
    → AllByRecursion (IsScopedInvariant m.fields) is → AllByRecursion (KeepsIt o (facts_of m o) (last_of m o)) is
    → AllByRecursion (IsTrueAt (values_in v m.fields (last_of m o))) is
start-keeps m o few h v [] is_init met scoped keeps = tt
start-keeps m o few h v (i ∷ is) is_init met scoped keeps = (one, start-keeps m o few h v is is_init met scoped.1 keeps.1) where
  one : IsTrueAt (values_in v m.fields (last_of m o)) i
  one w at_w =
      kept m.fields h.given i.params (last_of m o) v w i.form (facts_of m o) (ends-of m o few h) scoped.0.are_names scoped.0.form
      (keeps.0 (ap (λ (k : OpMode). is_kept_by k o.steps i.form) is_init))
      (facts-hold m o few h i.params v w scoped.0.are_names
      (subst (λ (k : OpMode). FactsHold (dollar i.params w v) (base_facts k m.invariants)) (sym is_init) tt) met) at_w

module _ (m : MachineTree) (scoped : IsScoped m) (proved : AreProved (duties_of m)) where
  operation : (o : OperationTree) → Contains m.ops o → IsScopedOperation m.fields o
  operation o h = All-contains (IsScopedOperation m.fields) m.ops o (All-from_recursion (IsScopedOperation m.fields) m.ops scoped.operations) h

  property : (o : OperationTree) → Contains m.ops o → ChangesNothing o
  property o h = All-contains ChangesNothing m.ops o (All-from_recursion ChangesNothing m.ops scoped.properties) h

  operation-proved : (o : OperationTree) → Contains m.ops o → IsOperationProved m o
  operation-proved o h = All-contains (IsOperationProved m) m.ops o (All-from_recursion (IsOperationProved m) m.ops (operations-proved m 0 m.ops proved)) h

  steps-proved : (o : OperationTree) (h : Contains m.ops o) → AreProved (step_duties m.fields (operation-proved o h).0 (first_values m.fields o.mode) (base_facts o.mode m.invariants) 1 o.steps)
  steps-proved o h = let p = operation-proved o h in
      all-left IsProved (step_duties m.fields p.0 (first_values m.fields o.mode) (base_facts o.mode m.invariants) 1 o.steps)
      (keeps_duties o p.0 (facts_of m o) (last_of m o) 0 m.invariants) p.1

  keeps-proved : (o : OperationTree) (h : Contains m.ops o) → AllByRecursion (KeepsIt o (facts_of m o) (last_of m o)) m.invariants
  keeps-proved o h = let p = operation-proved o h in
      keeps-valid o p.0 (facts_of m o) (last_of m o) 0 m.invariants
      (all-right IsProved (step_duties m.fields p.0 (first_values m.fields o.mode) (base_facts o.mode m.invariants) 1 o.steps)
      (keeps_duties o p.0 (facts_of m o) (last_of m o) 0 m.invariants) p.1)

  -- the invariants may be used at a state that meets them, but for an init nothing may
  base : (s : State) (f : IsFine m s) (k : OpMode) (u : Valuation) → IsAt s u → FactsHold u (base_facts k m.invariants)
  base s f mode.Init u at = tt
  base s f mode.Transition u at = invariants-hold m.fields s u m.invariants (let e = f.length_is in let few = scoped.few_fields in omega arith) scoped.invariants f.meets at
  base s f mode.Property u at = invariants-hold m.fields s u m.invariants (let e = f.length_is in let few = scoped.few_fields in omega arith) scoped.invariants f.meets at

  fine-start : (o : OperationTree) (args : List ℤ) (t : State) → Starts m o args t → IsFine m t
  fine-start o args t h = subst (IsFine m) (sym h.leaves) (record {
    length_is = values-length h.names m.fields (last_of m o) (last-is m o);
    meets = start-keeps m o scoped.few_fields (operation o h.declared) h.names m.invariants h.is_init h.met scoped.invariants (keeps-proved o h.declared);
  })

  fine-step : (o : OperationTree) (args : List ℤ) (s t : State) → IsFine m s → Steps m s o args t → IsFine m t
  fine-step o args s t f h = subst (IsFine m) (sym h.leaves) (record {
    length_is = values-length h.names m.fields (last_of m o) (last-is m o);
    meets = step-keeps m o scoped.few_fields (operation o h.declared) (property o h.declared) s h.names m.invariants f.length_is h.no_init h.before h.met (base s f o.mode) scoped.invariants (keeps-proved o h.declared) f.meets;
  })

  fine : (s : State) → IsReached m s → IsFine m s
  fine s (starts o args h) = fine-start o args s h
  fine s (steps {s = r} o args reached h) = fine-step o args r s (fine r reached) h

  pub holds-always : HoldsAlways m
  holds-always = record {
    starts_safe = λ o declared is_init args v given.
        steps-safe m.fields v (operation-proved o declared).0 (first_values m.fields o.mode) (base_facts o.mode m.invariants) 1 o.steps (steps-proved o declared)
        (subst (λ (k : OpMode). FactsHold v (base_facts k m.invariants)) (sym is_init) tt);
    meets = λ s reached. (fine s reached).meets;
    safe = λ s reached o declared no_init args v at given.
        steps-safe m.fields v (operation-proved o declared).0 (first_values m.fields o.mode) (base_facts o.mode m.invariants) 1 o.steps (steps-proved o declared)
        (base s (fine s reached) o.mode v at);
  }
