-- A joined state is within the bound where its shards are, and each partial sum of a count.
use Rattle.std.proofs.Common.{◌≡◌, ℕ, zero, suc, ◌<◌, ◌≤◌, ◌^◌, ℤ, pos, negsuc, ◌≤ℤ◌, Bool, true, false, List, [], ◌∷◌, length, get_or, Option, Some, None, unwrap_or, option_map, inl, inr, ◌⊎◌, refl, sym, ap, subst, ◌∙◌, arith, cond, if◌then◌else◌, nat_eq}
use Rattle.std.specs.Prelude.{FitsSigned}
use Rattle.std.specs.Int.{w128}
use Rattle.std.specs.List.{AllByRecursion}
use Rattle.std.specs.Ordering.{int_cmp}
use Rattle.std.specs.FinMap.{get-empty}
use Rattle.std.specs.FinMap as finmap
use Rattle.std.proofs.lemmas.Bool.{cases_lt}
use Rattle.std.proofs.lemmas.Int.{ints}
use Rattle.sync_terms.specs.Maps as maps
use Rattle.sync_entries.specs.Narrow.{HasNarrowValues}
use Rattle.sync_entries.proofs.Narrowing.{narrow-put}
use Rattle.sync_base.specs.declared.strategies.Strategy.{Strategy}
use Rattle.sync_base.specs.declared.strategies.Strategy.TheVariants.{Variable, Constant, NotTokenized, Option as OptionField, Map, Set, Multiset, Count, PersistentOption, PersistentMap, PersistentSet, PersistentCount, StorageMap}
use Rattle.sync_machine.specs.States.{Value, Number, Mapped, strategy_at}
use Rattle.sync_exchange_values.proofs.Narrowness.{narrow_of, fits_of, values_narrow}
use Rattle.sync_join.specs.declared.tokens.Token.{Token}
use Rattle.sync_join.specs.Join.{tokens_of, only_value, are_apart, map_of, as_map, counts_of, sum_of, borne_out, record_at, joined}
use Rattle.sync_join.specs.Widths.{AreNarrow}
use Rattle.sync_join.proofs.Bags.{counts_natural}
use Rattle.sync_join.proofs.Through.{counts_bounded}
use Rattle.sync_exchange.proofs.Strategies.{some_is}
use Rattle.sync_exchange.proofs.Doing.{beyond}
use Rattle.sync_exchange.proofs.Making.{records-length}
use Rattle.sync_exchange.proofs.Whole.{nothing, state-length, state-value}
use Rattle.sync_exchange_laws.specs.Widths.{IsWithin, StatesFit}
use Rattle.sync_exchange_laws.proofs.Widening.{value-is, widths-agree}

-- ---- lists

all-at : {A : Type 0} (P : A → Type 0) (xs : List A) (i : ℕ) (d : A) → AllByRecursion P xs → i < length xs
    → P (get_or xs i d)
all-at P [] i d a lt = absurd (omega arith)
all-at P (x ∷ xs) zero d a lt = a.0
all-at P (x ∷ xs) (suc i) d a lt = all-at P xs i d a.1 (omega arith)

all-from : {A : Type 0} (P : A → Type 0) (xs : List A) (d : A) → ((i : ℕ) → i < length xs → P (get_or xs i d))
    → AllByRecursion P xs
all-from P [] d h = tt
all-from P (x ∷ xs) d h = (h 0 (omega arith), all-from P xs d (λ i lt. h (suc i) (omega arith)))

abbrev FitTokens : List Token → Type 0
FitTokens ts = AllByRecursion (λ (t : Token). FitsSigned w128 t.value) ts

fit-cases : (b : Bool) (t : Token) (ts : List Token) → FitsSigned w128 t.value → FitTokens ts
    → FitTokens (cond b (t ∷ ts) ts)
fit-cases true t ts h k = (h, k)
fit-cases false t ts h k = k

fit-tokens : (f : ℕ) (ts : List Token) → FitTokens ts → FitTokens (tokens_of f ts)
fit-tokens f [] h = tt
fit-tokens f (t ∷ ts) h = fit-cases (nat_eq t.field f) t (tokens_of f ts) h.0 (fit-tokens f ts h.1)

few-cases : (b : Bool) (t : Token) (ts : List Token) (n : ℕ) → length ts ≤ n → length (cond b (t ∷ ts) ts) ≤ suc n
few-cases true t ts n h = omega arith
few-cases false t ts n h = omega arith

few-tokens : (f : ℕ) (ts : List Token) → length (tokens_of f ts) ≤ length ts
few-tokens f [] = omega arith
few-tokens f (t ∷ ts) = few-cases (nat_eq t.field f) t (tokens_of f ts) (length ts) (few-tokens f ts)

-- ---- what tokens make of a field, strategy by strategy

map-narrow : (ts : List Token) → FitTokens ts → HasNarrowValues (map_of ts)
map-narrow [] h = λ k n at.
    absurd (let none : finmap.get maps.nil k ≡ None = get-empty int_cmp k in let no = sym none ∙ at in cc)
map-narrow (t ∷ ts) h = narrow-put (map_of ts) t.key t.value (map-narrow ts h.1) h.0

map-is : (b : Bool) (m : maps.Map) (w : Value) → option_map Mapped (if b then Some m else None) ≡ Some w → Mapped m ≡ w
map-is true m w e = some_is (Mapped m) w e
map-is false m w e = absurd (cc)

map-within : (ts : List Token) (w : Value) → FitTokens ts → option_map Mapped (as_map ts) ≡ Some w → IsWithin w
map-within ts w h e =
    subst IsWithin (map-is (are_apart ts) (map_of ts) w e) (values_narrow (map_of ts) (map-narrow ts h))

only-within : (ts : List Token) (w : Value) → FitTokens ts → option_map Number (only_value ts) ≡ Some w → IsWithin w
only-within [] w h e = absurd (cc)
only-within (t ∷ []) w h e = subst IsWithin (some_is (Number t.value) w e) (narrow_of t.value h.0)
only-within (t ∷ u ∷ ts) w h e = absurd (cc)

borne-within : (b : Bool) (r w : Value) → IsWithin r → borne_out b r ≡ Some w → IsWithin w
borne-within true r w h e = subst IsWithin (some_is r w e) h
borne-within false r w h e = absurd (cc)

count-fits : (n : ℤ) (few : ℕ) → pos 0 ≤ℤ n → n ≤ℤ pos few → few < 2 ^ 127 → FitsSigned w128 n
count-fits (pos n) few low le lt = let h : n < 2 ^ 127 = omega (arith, ints, le, lt) in record { sfits = h }
count-fits (negsuc n) few low le lt = absurd (omega (arith, ints, low))

counts-within : (ts : List Token) → length ts < 2 ^ 127 → IsWithin (Mapped (counts_of ts))
counts-within ts few =
    values_narrow (counts_of ts) (λ k n at.
    let here : maps.get (counts_of ts) k ≡ n = ap (λ (o : Option ℤ). unwrap_or o (pos 0)) at in
    subst (FitsSigned w128) here
    (count-fits (maps.get (counts_of ts) k) (length ts) (counts_natural ts k) (counts_bounded ts k) few))

field-within : (s : Strategy) (ts st : List Token) (r w : Value) → FitTokens ts → FitTokens st → IsWithin r
    → length ts < 2 ^ 127 → (s ≡ Count → FitsSigned w128 (sum_of ts)) → joined s ts r st ≡ Some w → IsWithin w
field-within Variable ts st r w h k within few sum e = only-within ts w h e
field-within Constant ts st r w h k within few sum e = subst IsWithin (some_is r w e) within
field-within NotTokenized ts st r w h k within few sum e = subst IsWithin (some_is r w e) within
field-within OptionField ts st r w h k within few sum e = map-within ts w h e
field-within Map ts st r w h k within few sum e = map-within ts w h e
field-within Set ts st r w h k within few sum e = map-within ts w h e
field-within Multiset ts st r w h k within few sum e =
    subst IsWithin (some_is (Mapped (counts_of ts)) w e) (counts-within ts few)
field-within Count ts st r w h k within few sum e =
    subst IsWithin (some_is (Number (sum_of ts)) w e) (narrow_of (sum_of ts) (sum refl))
field-within PersistentOption ts st r w h k within few sum e = borne-within _ r w within e
field-within PersistentMap ts st r w h k within few sum e = borne-within _ r w within e
field-within PersistentSet ts st r w h k within few sum e = borne-within _ r w within e
field-within PersistentCount ts st r w h k within few sum e = borne-within _ r w within e
field-within StorageMap ts st r w h k within few sum e = map-within st w k e

-- ---- the law

pub states-fit : StatesFit
states-fit fs bag kept sound within s joined_as = (to, back) where
  long : length s ≡ length fs
  long = state-length fs bag kept s joined_as

  -- a count's field is declared
  inside : (f : ℕ) → strategy_at fs f ≡ Count → f < length fs
  inside f is = cases (cases_lt f (length fs)) where
    cases : (f < length fs) ⊎ (length fs ≤ f) → f < length fs
    cases (inl lt) = lt
    cases (inr le) = absurd (let no = sym (beyond fs f le) ∙ is in cc)

  sum-fits : AllByRecursion IsWithin s → (f : ℕ) → strategy_at fs f ≡ Count → FitsSigned w128 (sum_of (tokens_of f bag))
  sum-fits all f is =
      let lt = inside f is in
      let there : f < length s = omega (arith, long, lt) in
      let sum = sum_of (tokens_of f bag) in
      let value = state-value fs bag kept s f joined_as lt in
      let same : Number sum ≡ get_or s f nothing = value-is fs kept f Count bag (Number sum) _ is refl value in
      fits_of sum (subst IsWithin (sym same) (all-at IsWithin s f nothing all there))

  to : AllByRecursion IsWithin s → AreNarrow fs bag
  to all = (widths-agree fs bag kept sound).1 (sum-fits all)

  field-at : AreNarrow fs bag → (f : ℕ) → f < length s → IsWithin (get_or s f nothing)
  field-at narrow f there =
      let lt : f < length fs = omega (arith, long, there) in
      let records = records-length fs kept.records sound.shaped.records in
      let recorded : f < length kept.records = omega (arith, records, lt) in
      let shorter = few-tokens f bag in
      let all_few = within.few in
      let few : length (tokens_of f bag) < 2 ^ 127 = omega (arith, shorter, all_few) in
      field-within (strategy_at fs f) (tokens_of f bag) (tokens_of f kept.stored) (record_at kept f)
      (get_or s f nothing) (fit-tokens f bag within.tokens) (fit-tokens f kept.stored within.stored)
      (all-at IsWithin kept.records f nothing within.records recorded) few
      (λ is. (widths-agree fs bag kept sound).0 narrow f is) (state-value fs bag kept s f joined_as lt)

  back : AreNarrow fs bag → AllByRecursion IsWithin s
  back narrow = all-from IsWithin s nothing (field-at narrow)
