-- Tokens of a bag in another order: what one field's tokens make together does not depend on it.
use Rattle.std.proofs.Common.{◌≡◌, ◌≢◌, ℕ, ℤ, pos, ◌+ℤ◌, Bool, true, false, not, ◌&&◌, ◌||◌, List, [], ◌∷◌, ◌++◌, length, map, Option, Some, None, option_map, is_some, refl, sym, ap, ◌∙◌, arith, if◌then◌else◌, nat_eq, cond}
use Rattle.std.specs.Ordering.{int_eq}
use Rattle.std.specs.Cmp.{int_eq_equiv}
use Rattle.std.specs.List.{list_all, range_with_len}
use Rattle.std.specs.FinMap as finmap
use Rattle.std.specs.FinMap.{get-empty}
use Rattle.std.specs.Ordering.{int_cmp}
use Rattle.std.proofs.lemmas.List.Elements.{filter-append}
use Rattle.std.proofs.lemmas.Int.{ints}
use Rattle.std.proofs.lemmas.Bool.Decides.{nat_tests}
use Rattle.sync_terms.specs.Maps.{Map, nil, put, bump}
use Rattle.sync_machine.specs.declared.fields.Field.{Field}
use Rattle.sync_base.specs.declared.strategies.Strategy.{Strategy}
use Rattle.sync_base.specs.declared.strategies.Strategy.TheVariants.{Variable, Constant, NotTokenized, Option as OptionField, Map as MapField, Set, Multiset, Count, PersistentOption, PersistentMap, PersistentSet, PersistentCount, StorageMap}
use Rattle.sync_machine.specs.States.{Value, Number, Mapped, strategy_at}
use Rattle.sync_join.specs.declared.tokens.Token.{Token}
use Rattle.sync_join.specs.Shards.{Kept}
use Rattle.sync_join.specs.Join.{tokens_of, only_value, has_key, are_apart, map_of, as_map, counts_of, sum_of, is_entry, is_element, is_reached, borne_out, joined, record_at, value_at, all_of, join_of}
use Rattle.sync_entries.proofs.Maps.{get-put}
use Rattle.sync_join.proofs.Maps.{put-put, AreNatural, natural-nil, natural-bump, bump-bump}

-- what does not depend on the order of the first two tokens does not depend on where a token stands
pub front : {B : Type 0} (f : List Token → B) (swap : (t u : Token) (ts : List Token) → f (t ∷ u ∷ ts) ≡ f (u ∷ t ∷ ts)) (onto : (t : Token) (xs ys : List Token) → f xs ≡ f ys → f (t ∷ xs) ≡ f (t ∷ ys)) (xs : List Token) (t : Token) (ys : List Token) → f (xs ++ t ∷ ys) ≡ f (t ∷ (xs ++ ys))
front f swap onto [] t ys = refl
front f swap onto (x ∷ xs) t ys = onto x (xs ++ t ∷ ys) (t ∷ (xs ++ ys)) (front f swap onto xs t ys) ∙ swap x t (xs ++ ys)

-- ---- one value

pub only_value-front : (xs : List Token) (t : Token) (ys : List Token) → only_value (xs ++ t ∷ ys) ≡ only_value (t ∷ (xs ++ ys))
only_value-front [] t ys = refl
only_value-front (x ∷ []) t ys = refl
only_value-front (x ∷ y ∷ xs) t ys = refl

-- ---- maps

either-some : (b : Bool) (v : ℤ) (o : Option ℤ) → is_some (if b then Some v else o) ≡ (b || is_some o)
either-some true v o = refl
either-some false v o = refl

-- the keys of the map are those of the tokens
pub has_key-map_of : (k : ℤ) (ts : List Token) → has_key k ts ≡ is_some (finmap.get (map_of ts) k)
has_key-map_of k [] = let none : finmap.get nil k ≡ None = get-empty int_cmp k in sym (ap is_some none)
has_key-map_of k (t ∷ ts) =
    ap (λ b. int_eq k t.key || b) (has_key-map_of k ts)
    ∙ sym (either-some (int_eq k t.key) t.value (finmap.get (map_of ts) k))
    ∙ ap is_some (sym (get-put (map_of ts) t.key t.value k))

abbrev pub unless : Bool → Map → Option Map
unless true m = None
unless false m = Some m

-- a map with one more token, none where the token's key is there already
abbrev pub with_token : Token → Option Map → Option Map
with_token t None = None
with_token t (Some m) = unless (is_some (finmap.get m t.key)) (put m t.key t.value)

added-cases : (t : Token) (m : Map) (there ok : Bool) → there ≡ is_some (finmap.get m t.key) → (if not there && ok then Some (put m t.key t.value) else None) ≡ with_token t (if ok then Some m else None)
added-cases t m true true e = ap (λ b. unless b (put m t.key t.value)) e
added-cases t m false true e = ap (λ b. unless b (put m t.key t.value)) e
added-cases t m true false e = refl
added-cases t m false false e = refl

pub as_map-cons : (t : Token) (ts : List Token) → as_map (t ∷ ts) ≡ with_token t (as_map ts)
as_map-cons t ts = added-cases t (map_of ts) (has_key t.key ts) (are_apart ts) (has_key-map_of t.key ts)

-- whether the second of two tokens finds its key, where the first has come
finds : (t u : Token) (m : Map) → is_some (finmap.get (put m u.key u.value) t.key) ≡ (int_eq t.key u.key || is_some (finmap.get m t.key))
finds t u m = ap is_some (get-put m u.key u.value t.key) ∙ either-some (int_eq t.key u.key) u.value (finmap.get m t.key)

or-true : (b : Bool) → (b || true) ≡ true
or-true true = refl
or-true false = refl

both_ways : (t u : Token) (m : Map) (same gt gu : Bool) → int_eq t.key u.key ≡ same → is_some (finmap.get m t.key) ≡ gt → is_some (finmap.get m u.key) ≡ gu → with_token t (unless gu (put m u.key u.value)) ≡ with_token u (unless gt (put m t.key t.value))
both_ways t u m same true true s p q = refl
both_ways t u m same true false s p q =
    let found = finds t u m in
    ap (λ b. unless b (put (put m u.key u.value) t.key t.value)) (found ∙ ap (λ b. int_eq t.key u.key || b) p ∙ or-true (int_eq t.key u.key))
both_ways t u m same false true s p q =
    let found = finds u t m in
    sym (ap (λ b. unless b (put (put m t.key t.value) u.key u.value)) (found ∙ ap (λ b. int_eq u.key t.key || b) q ∙ or-true (int_eq u.key t.key)))
both_ways t u m true false false s p q =
    ap (λ b. unless b (put (put m u.key u.value) t.key t.value)) (finds t u m ∙ ap (λ b. b || is_some (finmap.get m t.key)) s)
    ∙ sym (ap (λ b. unless b (put (put m t.key t.value) u.key u.value)) (finds u t m ∙ ap (λ b. b || is_some (finmap.get m u.key)) (int_eq_equiv.symm u.key t.key ∙ s)))
both_ways t u m false false false s p q =
    ap (λ b. unless b (put (put m u.key u.value) t.key t.value)) (finds t u m ∙ ap (λ b. b || is_some (finmap.get m t.key)) s ∙ p)
    ∙ ap Some (put-put m u.key u.value t.key t.value (int_eq_equiv.symm u.key t.key ∙ s))
    ∙ sym (ap (λ b. unless b (put (put m t.key t.value) u.key u.value)) (finds u t m ∙ ap (λ b. b || is_some (finmap.get m u.key)) (int_eq_equiv.symm u.key t.key ∙ s) ∙ q))

with-swap : (t u : Token) (o : Option Map) → with_token t (with_token u o) ≡ with_token u (with_token t o)
with-swap t u None = refl
with-swap t u (Some m) = both_ways t u m _ _ _ refl refl refl

as_map-swap : (t u : Token) (ts : List Token) → as_map (t ∷ u ∷ ts) ≡ as_map (u ∷ t ∷ ts)
as_map-swap t u ts =
    as_map-cons t (u ∷ ts) ∙ ap (with_token t) (as_map-cons u ts)
    ∙ with-swap t u (as_map ts)
    ∙ sym (as_map-cons u (t ∷ ts) ∙ ap (with_token u) (as_map-cons t ts))

as_map-onto : (t : Token) (xs ys : List Token) → as_map xs ≡ as_map ys → as_map (t ∷ xs) ≡ as_map (t ∷ ys)
as_map-onto t xs ys e = as_map-cons t xs ∙ ap (with_token t) e ∙ sym (as_map-cons t ys)

pub as_map-front : (xs : List Token) (t : Token) (ys : List Token) → as_map (xs ++ t ∷ ys) ≡ as_map (t ∷ (xs ++ ys))
as_map-front xs t ys = front as_map as_map-swap as_map-onto xs t ys

-- ---- counts

pub counts_natural : (ts : List Token) → AreNatural (counts_of ts)
counts_natural [] q = natural-nil q
counts_natural (t ∷ ts) q = natural-bump (counts_of ts) t.key (counts_natural ts) q

counts_of-swap : (t u : Token) (ts : List Token) → counts_of (t ∷ u ∷ ts) ≡ counts_of (u ∷ t ∷ ts)
counts_of-swap t u ts = bump-bump (counts_of ts) u.key t.key (counts_natural ts)

pub counts_of-front : (xs : List Token) (t : Token) (ys : List Token) → counts_of (xs ++ t ∷ ys) ≡ counts_of (t ∷ (xs ++ ys))
counts_of-front xs t ys = front counts_of counts_of-swap (λ t xs ys e. ap (λ m. bump m t.key (pos 1)) e) xs t ys

-- ---- sums

sum_of-swap : (t u : Token) (ts : List Token) → sum_of (t ∷ u ∷ ts) ≡ sum_of (u ∷ t ∷ ts)
sum_of-swap t u ts = swapped t.value u.value (sum_of ts) where
  swapped : (a b c : ℤ) → a +ℤ (b +ℤ c) ≡ b +ℤ (a +ℤ c)
  swapped a b c = omega (arith, ints)

pub sum_of-front : (xs : List Token) (t : Token) (ys : List Token) → sum_of (xs ++ t ∷ ys) ≡ sum_of (t ∷ (xs ++ ys))
sum_of-front xs t ys = front sum_of sum_of-swap (λ t xs ys e. ap (λ n. t.value +ℤ n) e) xs t ys

-- ---- tests

and-swap : (a b c : Bool) → (a && (b && c)) ≡ (b && (a && c))
and-swap true b c = refl
and-swap false true c = refl
and-swap false false c = refl

pub all-front : (p : Token → Bool) (xs : List Token) (t : Token) (ys : List Token) → list_all p (xs ++ t ∷ ys) ≡ list_all p (t ∷ (xs ++ ys))
all-front p xs t ys = front (list_all p) (λ t u ts. and-swap (p t) (p u) (list_all p ts)) (λ t xs ys e. ap (λ b. p t && b) e) xs t ys

-- ---- a field, and the state

pub joined-front : (s : Strategy) (xs : List Token) (t : Token) (ys : List Token) (recorded : Value) (stored : List Token) → joined s (xs ++ t ∷ ys) recorded stored ≡ joined s (t ∷ (xs ++ ys)) recorded stored
joined-front Variable xs t ys r st = ap (option_map Number) (only_value-front xs t ys)
joined-front OptionField xs t ys r st = ap (option_map Mapped) (as_map-front xs t ys)
joined-front MapField xs t ys r st = ap (option_map Mapped) (as_map-front xs t ys)
joined-front Set xs t ys r st = ap (option_map Mapped) (as_map-front xs t ys)
joined-front Multiset xs t ys r st = ap (λ m. Some (Mapped m)) (counts_of-front xs t ys)
joined-front Count xs t ys r st = ap (λ n. Some (Number n)) (sum_of-front xs t ys)
joined-front PersistentOption xs t ys r st = ap (λ b. borne_out b r) (all-front (is_entry r) xs t ys)
joined-front PersistentMap xs t ys r st = ap (λ b. borne_out b r) (all-front (is_entry r) xs t ys)
joined-front PersistentSet xs t ys r st = ap (λ b. borne_out b r) (all-front (is_element r) xs t ys)
joined-front PersistentCount xs t ys r st = ap (λ b. borne_out b r) (all-front (is_reached r) xs t ys)
joined-front Constant xs t ys r st = refl
joined-front NotTokenized xs t ys r st = refl
joined-front StorageMap xs t ys r st = refl

-- neither does it depend on where a stored permission stands
pub stored-front : (s : Strategy) (ts : List Token) (recorded : Value) (xs : List Token) (t : Token) (ys : List Token) → joined s ts recorded (xs ++ t ∷ ys) ≡ joined s ts recorded (t ∷ (xs ++ ys))
stored-front Variable ts r xs t ys = refl
stored-front OptionField ts r xs t ys = refl
stored-front MapField ts r xs t ys = refl
stored-front Set ts r xs t ys = refl
stored-front Multiset ts r xs t ys = refl
stored-front Count ts r xs t ys = refl
stored-front PersistentOption ts r xs t ys = refl
stored-front PersistentMap ts r xs t ys = refl
stored-front PersistentSet ts r xs t ys = refl
stored-front PersistentCount ts r xs t ys = refl
stored-front Constant ts r xs t ys = refl
stored-front NotTokenized ts r xs t ys = refl
stored-front StorageMap ts r xs t ys = ap (option_map Mapped) (as_map-front xs t ys)

-- a token of the field stands in front of its tokens, one of another field does not stand among them
front-cases : (s : Strategy) (b : Bool) (xs : List Token) (t : Token) (ys : List Token) (recorded : Value) (stored : List Token) → joined s (xs ++ cond b (t ∷ ys) ys) recorded stored ≡ joined s (cond b (t ∷ (xs ++ ys)) (xs ++ ys)) recorded stored
front-cases s true xs t ys r st = joined-front s xs t ys r st
front-cases s false xs t ys r st = refl

pub value_at-front : (fs : List Field) (xs : List Token) (t : Token) (ys : List Token) (kept : Kept) (f : ℕ) → value_at fs (xs ++ t ∷ ys) kept f ≡ value_at fs (t ∷ (xs ++ ys)) kept f
value_at-front fs xs t ys kept f =
    let p : Token → Bool = λ u. nat_eq u.field f in
    ap (λ ts. joined (strategy_at fs f) ts (record_at kept f) (tokens_of f kept.stored)) (filter-append p xs (t ∷ ys))
    ∙ front-cases (strategy_at fs f) (p t) (tokens_of f xs) t (tokens_of f ys) (record_at kept f) (tokens_of f kept.stored)
    ∙ ap (λ ts. joined (strategy_at fs f) (cond (p t) (t ∷ ts) ts) (record_at kept f) (tokens_of f kept.stored)) (sym (filter-append p xs ys))

-- the join does not depend on where a token stands in the bag
pub join_of-front : (fs : List Field) (xs : List Token) (t : Token) (ys : List Token) (kept : Kept) → join_of fs (xs ++ t ∷ ys) kept ≡ join_of fs (t ∷ (xs ++ ys)) kept
join_of-front fs xs t ys kept i = all_of (map (λ f. value_at-front fs xs t ys kept f i) (range_with_len 0 (length fs)))

-- a token says nothing of another field
pub value_at-other : (fs : List Field) (t : Token) (ts : List Token) (kept : Kept) (f : ℕ) → nat_eq t.field f ≡ false → value_at fs (t ∷ ts) kept f ≡ value_at fs ts kept f
value_at-other fs t ts kept f e = ap (λ b. joined (strategy_at fs f) (cond b (t ∷ tokens_of f ts) (tokens_of f ts)) (record_at kept f) (tokens_of f kept.stored)) e

-- of its own field it stands in front
pub value_at-own : (fs : List Field) (t : Token) (ts : List Token) (kept : Kept) (f : ℕ) → nat_eq t.field f ≡ true → value_at fs (t ∷ ts) kept f ≡ joined (strategy_at fs f) (t ∷ tokens_of f ts) (record_at kept f) (tokens_of f kept.stored)
value_at-own fs t ts kept f e = ap (λ b. joined (strategy_at fs f) (cond b (t ∷ tokens_of f ts) (tokens_of f ts)) (record_at kept f) (tokens_of f kept.stored)) e

pub value_at-apart : (fs : List Field) (t : Token) (ts : List Token) (kept : Kept) (f : ℕ) → t.field ≢ f → value_at fs (t ∷ ts) kept f ≡ value_at fs ts kept f
value_at-apart fs t ts kept f differ = value_at-other fs t ts kept f (differs t.field f differ) where
  differs : (a b : ℕ) → a ≢ b → nat_eq a b ≡ false
  differs a b h = grind (arith, nat_tests)
