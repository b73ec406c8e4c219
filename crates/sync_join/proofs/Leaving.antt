-- A token at the front of a field's tokens that goes out or comes: what the others make together.
use Rattle.std.proofs.Common.{◌≡◌, ℤ, pos, ◌+ℤ◌, ◌-ℤ◌, ◌≤ℤ◌, ◌<ℤ◌, Bool, true, false, List, [], ◌∷◌, Option, Some, None, is_some, unwrap_or, refl, sym, ap, subst, ◌∙◌, arith, if◌then◌else◌}
use Rattle.std.specs.List.{AllByRecursion}
use Rattle.std.specs.Ordering.{int_eq, int_cmp}
use Rattle.std.specs.Cmp.{int_cmp_total, int_eq_equiv}
use Rattle.std.specs.FinMap.{get-remove, get-empty}
use Rattle.std.specs.FinMap as finmap
use Rattle.std.proofs.lemmas.Int.{ints}
use Rattle.sync_terms.specs.Maps.{Map, nil, put, del}
use Rattle.sync_terms.specs.Maps as maps
use Rattle.sync_join.specs.declared.tokens.Token.{Token}
use Rattle.sync_join.specs.Join.{only_value, as_map, counts_of, sum_of}
use Rattle.sync_entries.proofs.Maps.{same, get-put}
use Rattle.sync_join.proofs.Maps.{equal, bump-put}
use Rattle.sync_join.proofs.Bags.{unless, with_token, as_map-cons, counts_natural}

-- ---- variables

pub same_some : {X : Type 0} (x y : X) → Some x ≡ Some y → x ≡ y
same_some x y e = ap (λ o. unwrap_or o x) e

pub none_not_some : {X : Type 0} (x : X) → None ≡ Some x → ⊥
none_not_some x e = cc

pub only_value-out : (t : Token) (ts : List Token) (v : ℤ) → only_value (t ∷ ts) ≡ Some v → (ts ≡ []) × (t.value ≡ v)
only_value-out t [] v e = (refl, same_some t.value v e)
only_value-out t (u ∷ ts) v e = absurd (none_not_some v e)

-- ---- maps

pub get-del : (m : Map) (k q : ℤ) → finmap.get (del m k) q ≡ (if int_eq q k then None else finmap.get m q)
get-del m k q = get-remove int_cmp_total m k q

-- a key that was free is free again
free_again : (b : Bool) (o p : Option ℤ) (v : ℤ) → (b ≡ true → o ≡ None) → (if b then None else (if b then Some v else o)) ≡ o
free_again true o p v h = sym (h refl)
free_again false o p v h = refl

pub del-put : (m : Map) (k v : ℤ) → finmap.get m k ≡ None → del (put m k v) k ≡ m
del-put m k v free = same _ _ (λ q.
    get-del (put m k v) k q
    ∙ ap (λ o. if int_eq q k then None else o) (get-put m k v q)
    ∙ free_again (int_eq q k) (finmap.get m q) None v (λ here. ap (finmap.get m) (equal q k here) ∙ free))

pub get-put_same : (m : Map) (k v : ℤ) → finmap.get (put m k v) k ≡ Some v
get-put_same m k v = get-put m k v k ∙ ap (λ b. if b then Some v else finmap.get m k) (int_eq_equiv.refl k)

nothing : (o : Option ℤ) → is_some o ≡ false → o ≡ None
nothing None e = refl
nothing (Some x) e = absurd (cc)

-- the map holds what the token says, and the others make the map without it
abbrev pub GoesOut : Token → Option Map → Map → Type 0
GoesOut t others m = (finmap.get m t.key ≡ Some t.value) × (others ≡ Some (del m t.key))

out_of : (t : Token) (n m : Map) (b : Bool) → is_some (finmap.get n t.key) ≡ b → unless b (put n t.key t.value) ≡ Some m → GoesOut t (Some n) m
out_of t n m true there e = absurd (none_not_some m e)
out_of t n m false there e =
    let is : put n t.key t.value ≡ m = same_some (put n t.key t.value) m e in
    let free : finmap.get n t.key ≡ None = nothing (finmap.get n t.key) there in (
      ap (λ w. finmap.get w t.key) (sym is) ∙ get-put_same n t.key t.value,
      ap Some (sym (ap (λ w. del w t.key) (sym is) ∙ del-put n t.key t.value free)),
    )

out_cases : (t : Token) (o : Option Map) (m : Map) → with_token t o ≡ Some m → GoesOut t o m
out_cases t None m e = absurd (none_not_some m e)
out_cases t (Some n) m e = out_of t n m (is_some (finmap.get n t.key)) refl e

pub as_map-out : (t : Token) (ts : List Token) (m : Map) → as_map (t ∷ ts) ≡ Some m → GoesOut t (as_map ts) m
as_map-out t ts m e = out_cases t (as_map ts) m (sym (as_map-cons t ts) ∙ e)

pub as_map-in : (t : Token) (ts : List Token) (m : Map) → as_map ts ≡ Some m → finmap.get m t.key ≡ None → as_map (t ∷ ts) ≡ Some (put m t.key t.value)
as_map-in t ts m e free = as_map-cons t ts ∙ ap (with_token t) e ∙ ap (λ o. unless (is_some o) (put m t.key t.value)) free

-- ---- counts

pub sum_of-out : (t : Token) (ts : List Token) → sum_of ts ≡ sum_of (t ∷ ts) -ℤ t.value
sum_of-out t ts = less t.value (sum_of ts) where
  less : (a b : ℤ) → b ≡ (a +ℤ b) -ℤ a
  less a b = omega (arith, ints)

-- where no amount is negative, neither is their sum, and none is above it
pub sum_natural : (ts : List Token) → AllByRecursion (λ (t : Token). pos 0 ≤ℤ t.value) ts → pos 0 ≤ℤ sum_of ts
sum_natural [] h = omega (arith, ints)
sum_natural (t ∷ ts) h = both_natural t.value (sum_of ts) h.0 (sum_natural ts h.1) where
  both_natural : (a b : ℤ) → pos 0 ≤ℤ a → pos 0 ≤ℤ b → pos 0 ≤ℤ (a +ℤ b)
  both_natural a b h k = omega (arith, ints)

pub amount_within : (t : Token) (ts : List Token) → AllByRecursion (λ (u : Token). pos 0 ≤ℤ u.value) ts → t.value ≤ℤ sum_of (t ∷ ts)
amount_within t ts h = within t.value (sum_of ts) (sum_natural ts h) where
  within : (a b : ℤ) → pos 0 ≤ℤ b → a ≤ℤ (a +ℤ b)
  within a b h = omega (arith, ints)

-- ---- multisets

-- what is there is there at least once
abbrev pub AreCounted : Map → Type 0
AreCounted m = (q n : ℤ) → finmap.get m q ≡ Some n → pos 0 <ℤ n

counted_either : (b : Bool) (n w : ℤ) (o : Option ℤ) → pos 0 ≤ℤ n → (o ≡ Some w → pos 0 <ℤ w) → (if b then Some (n +ℤ pos 1) else o) ≡ Some w → pos 0 <ℤ w
counted_either true n w o h k e =
    let is : n +ℤ pos 1 ≡ w = same_some (n +ℤ pos 1) w e in
    subst (λ (x : ℤ). pos 0 <ℤ x) is (more n h) where
      more : (n : ℤ) → pos 0 ≤ℤ n → pos 0 <ℤ (n +ℤ pos 1)
      more n h = omega (arith, ints)
counted_either false n w o h k e = k e

pub are_counted : (ts : List Token) → AreCounted (counts_of ts)
are_counted [] q n e = let none : finmap.get nil q ≡ None = get-empty int_cmp q in absurd (none_not_some n (sym none ∙ e))
are_counted (t ∷ ts) q n e =
    counted_either (int_eq q t.key) (maps.get (counts_of ts) t.key) n (finmap.get (counts_of ts) q) (counts_natural ts t.key) (are_counted ts q n)
    (sym (ap (λ m. finmap.get m q) (bump-put (counts_of ts) t.key (counts_natural ts t.key)) ∙ get-put (counts_of ts) t.key (maps.get (counts_of ts) t.key +ℤ pos 1) q) ∙ e)
