-- Laws of finite maps: what a change leaves at a key, the number of keys, and the sum of the values.
use Rattle.std.proofs.Common.{◌≡◌, ◌≢◌, ◌⊎◌, inl, inr, ℕ, zero, suc, ◌+◌, ◌-◌, ◌≤◌, ℤ, pos, ◌+ℤ◌, ◌-ℤ◌, Bool, true, false, cond, ◌&&◌, if◌then◌else◌, List, [], ◌∷◌, map, length, Option, Some, None, is_some, unwrap_or, Ordering, Less, Equal, Greater, refl, sym, ap, subst, ◌∙◌, arith}
use Rattle.std.specs.Prelude.{int_lt, ◌≤ℤ◌, ◌<ℤ◌, T}
use Rattle.std.specs.Ordering.{int_cmp, int_eq, is_eq, is_lt, eq_by_cmp}
use Rattle.std.specs.Cmp.{int_ranked, int_cmp_total}
use Rattle.std.specs.FinMap as finmap
use Rattle.std.specs.FinMap.{int_cmp-IsAntisymmetric, get-insert, get-remove, get-empty, get-entries, len-insert, len-remove, len-empty, len-entries, empty_of_len, entries-insert, entries_sorted, same_map, entries}
use Rattle.std.specs.FinMap.Entries.{find, put, is_sorted, below_all, by_order}
use Rattle.std.proofs.lemmas.Int.{ints}
use Rattle.std.proofs.lemmas.Bool.{cond-true, cond-false, false_from_ne_true}
use Rattle.std.proofs.lemmas.Bool.Decides.{Decides-int_eq}
use Rattle.sync_terms.specs.Maps as maps
use Rattle.sync_terms.specs.Maps.{Map, added_up}

-- ---- tests on numbers
pub eq_true : (a b : ℤ) → a ≡ b → int_eq a b ≡ true
eq_true a b e = (Decides-int_eq a b).1 e

pub eq_false : (a b : ℤ) → a ≢ b → int_eq a b ≡ false
eq_false a b n = false_from_ne_true (int_eq a b) (λ h. n ((Decides-int_eq a b).0 h))

-- ---- a key at which something may be
value : Option ℤ → ℤ
value o = unwrap_or o (pos 0)

-- 1 where something is there
presence : Option ℤ → ℤ
presence o = if is_some o then pos 1 else pos 0

get_is : (m : Map) (k : ℤ) → maps.get m k ≡ value (finmap.get m k)
unfolding value
get_is m k = refl

has_is : (m : Map) (k : ℤ) → maps.has m k ≡ presence (finmap.get m k)
unfolding presence
has_is m k = refl

-- what is at a key tells both
pub same_at : (m n : Map) (j k : ℤ) → finmap.get m j ≡ finmap.get n k → (maps.get m j ≡ maps.get n k) × (maps.has m j ≡ maps.has n k)
same_at m n j k e = (get_is m j ∙ ap value e ∙ sym (get_is n k), has_is m j ∙ ap presence e ∙ sym (has_is n k))

pub some_at : (m : Map) (k x : ℤ) → finmap.get m k ≡ Some x → (maps.get m k ≡ x) × (maps.has m k ≡ pos 1)
unfolding value presence
some_at m k x e = (get_is m k ∙ ap value e, has_is m k ∙ ap presence e)

pub none_at : (m : Map) (k : ℤ) → finmap.get m k ≡ None → (maps.get m k ≡ pos 0) × (maps.has m k ≡ pos 0)
unfolding value presence
none_at m k e = (get_is m k ∙ ap value e, has_is m k ∙ ap presence e)

-- ---- the changes, at their key and at others
pub put_same : (m : Map) (j w k : ℤ) → k ≡ j → finmap.get (maps.put m j w) k ≡ Some w
put_same m j w k e = get-insert int_cmp_total m j w k ∙ ap (λ (b : Bool). cond b (Some w) (finmap.get m k)) (eq_true k j e)

pub put_other : (m : Map) (j w k : ℤ) → k ≢ j → finmap.get (maps.put m j w) k ≡ finmap.get m k
put_other m j w k n = get-insert int_cmp_total m j w k ∙ ap (λ (b : Bool). cond b (Some w) (finmap.get m k)) (eq_false k j n)

pub del_same : (m : Map) (j k : ℤ) → k ≡ j → finmap.get (maps.del m j) k ≡ None
del_same m j k e = get-remove int_cmp_total m j k ∙ ap (λ (b : Bool). cond b None (finmap.get m k)) (eq_true k j e)

pub del_other : (m : Map) (j k : ℤ) → k ≢ j → finmap.get (maps.del m j) k ≡ finmap.get m k
del_other m j k n = get-remove int_cmp_total m j k ∙ ap (λ (b : Bool). cond b None (finmap.get m k)) (eq_false k j n)

pub bump_put : (m : Map) (j n : ℤ) → int_lt (pos 0) (maps.get m j +ℤ n) ≡ true → maps.bump m j n ≡ maps.put m j (maps.get m j +ℤ n)
bump_put m j n h = cond-true (int_lt (pos 0) (maps.get m j +ℤ n)) (maps.put m j (maps.get m j +ℤ n)) (maps.del m j) h

pub bump_del : (m : Map) (j n : ℤ) → int_lt (pos 0) (maps.get m j +ℤ n) ≡ false → maps.bump m j n ≡ maps.del m j
bump_del m j n h = cond-false (int_lt (pos 0) (maps.get m j +ℤ n)) (maps.put m j (maps.get m j +ℤ n)) (maps.del m j) h

-- ---- what may be at a key of any map
pub has_cases : (m : Map) (k : ℤ) → (maps.has m k ≡ pos 1) ⊎ ((maps.get m k ≡ pos 0) × (maps.has m k ≡ pos 0))
has_cases m k = by (finmap.get m k) refl
  where
    by : (o : Option ℤ) → finmap.get m k ≡ o → (maps.has m k ≡ pos 1) ⊎ ((maps.get m k ≡ pos 0) × (maps.has m k ≡ pos 0))
    by (Some x) e = inl (some_at m k x e).1
    by None e = inr (none_at m k e)

-- ---- the number of keys
size_more : (b : Bool) (n : ℕ) → pos (cond b n (n + 1)) ≡ (pos n +ℤ pos 1) -ℤ (if b then pos 1 else pos 0)
size_more true n = omega (arith, ints)
size_more false n = omega (arith, ints)

pub size_put : (m : Map) (j w : ℤ) → maps.size (maps.put m j w) ≡ (maps.size m +ℤ pos 1) -ℤ maps.has m j
size_put m j w = ap pos (len-insert int_cmp_total m j w) ∙ size_more (is_some (finmap.get m j)) (finmap.len m)

some_not_none : (x : ℤ) → Some x ≡ None → ⊥
some_not_none x e = cc

-- a map with a key has at least one
some_len : (m : Map) (k x : ℤ) → finmap.get m k ≡ Some x → 1 ≤ finmap.len m
some_len m k x e = by (finmap.len m) refl
  where
    by : (n : ℕ) → finmap.len m ≡ n → 1 ≤ n
    by zero z = absurd (some_not_none x (sym e ∙ ap (λ (y : Map). finmap.get y k) (empty_of_len m z) ∙ get-empty int_cmp k))
    by (suc n) z = omega arith

size_less : (b : Bool) (n : ℕ) → (b ≡ true → 1 ≤ n) → pos (cond b (n - 1) n) ≡ pos n -ℤ (if b then pos 1 else pos 0)
size_less true n h = let le : 1 ≤ n = h refl in omega (arith, ints, le)
size_less false n h = omega (arith, ints)

is_some_len : (m : Map) (k : ℤ) (o : Option ℤ) → finmap.get m k ≡ o → is_some o ≡ true → 1 ≤ finmap.len m
is_some_len m k (Some x) e h = some_len m k x e
is_some_len m k None e h = absurd (cc)

pub size_del : (m : Map) (j : ℤ) → maps.size (maps.del m j) ≡ maps.size m -ℤ maps.has m j
size_del m j = ap pos (len-remove int_cmp_total m j) ∙ size_less (is_some (finmap.get m j)) (finmap.len m) (is_some_len m j (finmap.get m j) refl)

has_within : (b : Bool) (n : ℕ) → (b ≡ true → 1 ≤ n) → (if b then pos 1 else pos 0) ≤ℤ pos n
has_within true n h = let le : 1 ≤ n = h refl in omega (arith, ints, le)
has_within false n h = omega (arith, ints)

pub has_size : (m : Map) (k : ℤ) → maps.has m k ≤ℤ maps.size m
has_size m k = has_within (is_some (finmap.get m k)) (finmap.len m) (is_some_len m k (finmap.get m k) refl)

pub size_natural : (m : Map) → pos 0 ≤ℤ maps.size m
size_natural m = omega (arith, ints)

pub size_nil : maps.size maps.nil ≡ pos 0
size_nil = ap pos (len-empty int_cmp ℤ)

-- ---- the sum of the values
values_sum : List (ℤ × ℤ) → ℤ
values_sum es = added_up (map (λ (e : ℤ × ℤ). e.1) es)

sum_is : (m : Map) → maps.sum m ≡ values_sum (entries m)
unfolding values_sum
sum_is m = refl

no_entries : (es : List (ℤ × ℤ)) → length es ≡ 0 → values_sum es ≡ pos 0
unfolding values_sum
no_entries [] h = refl
no_entries (e ∷ es) h = absurd (omega arith)

pos_same : (a b : ℕ) → pos a ≡ pos b → a ≡ b
pos_same a b e = omega (arith, ints, e)

pub sum_empty : (m : Map) → maps.size m ≡ pos 0 → maps.sum m ≡ pos 0
sum_empty m h = sum_is m ∙ no_entries (entries m) (sym (len-entries m) ∙ pos_same (finmap.len m) 0 h)

pub sum_nil : maps.sum maps.nil ≡ pos 0
sum_nil = sum_empty maps.nil size_nil

alone_cases : (b : Bool) (x : ℤ) → is_some (cond b (Some x) None) ≡ true → x +ℤ pos 0 ≡ unwrap_or (cond b (Some x) None) (pos 0)
alone_cases true x h = omega (arith, ints)
alone_cases false x h = absurd (cc)

alone : (k : ℤ) (es : List (ℤ × ℤ)) → length es ≡ 1 → is_some (find int_cmp k es) ≡ true → values_sum es ≡ unwrap_or (find int_cmp k es) (pos 0)
unfolding values_sum
alone k [] h s = absurd (omega arith)
alone k (e ∷ []) h s = alone_cases (eq_by_cmp int_cmp k e.0) e.1 s
alone k (e ∷ f ∷ es) h s = absurd (omega arith)

is_found : (o : Option ℤ) → (if is_some o then pos 1 else pos 0) ≡ pos 1 → is_some o ≡ true
is_found (Some x) h = refl
is_found None h = absurd (let e : 0 ≡ 1 = pos_same 0 1 h in omega (arith, e))

pub sum_alone : (m : Map) (k : ℤ) → maps.size m ≡ pos 1 → maps.has m k ≡ pos 1 → maps.sum m ≡ maps.get m k
sum_alone m k one has =
    sum_is m
    ∙ alone k (entries m) (sym (len-entries m) ∙ pos_same (finmap.len m) 1 one) (ap is_some (sym (get-entries m k)) ∙ is_found (finmap.get m k) has)
    ∙ ap (λ (o : Option ℤ). unwrap_or o (pos 0)) (sym (get-entries m k))

-- ---- the sum behind a change
lt_parts : (x y : ℤ) → T (is_lt (int_cmp x y)) → x <ℤ y
lt_parts x y h = by (int_cmp x y) refl h
  where
    by : (r : Ordering) → r ≡ int_cmp x y → T (is_lt r) → x <ℤ y
    by Less e t = int_ranked x y Less e
    by Equal e t = absurd t
    by Greater e t = absurd t

T_first : (a b : Bool) → T (a && b) → T a
T_first true b t = tt
T_first false b t = t

T_second : (a b : Bool) → T (a && b) → T b
T_second true b t = t
T_second false b t = absurd t

-- a key below the first of a sorted list is not in it
missing : (k x : ℤ) (es : List (ℤ × ℤ)) → k <ℤ x → T (below_all int_cmp x es) → find int_cmp k es ≡ None
missing k x [] lt h = refl
missing k x (e ∷ es) lt h =
    let above : x <ℤ e.0 = lt_parts x e.0 (T_first (is_lt (int_cmp x e.0)) (below_all int_cmp x es) h) in
    let apart : k ≢ e.0 = λ same. (let same : k ≡ e.0 = same in omega (arith, ints, lt, above, same)) in
    ap (λ (b : Bool). cond b (Some e.1) (find int_cmp k es)) (eq_false k e.0 apart) ∙ missing k x es lt (T_second (is_lt (int_cmp x e.0)) (below_all int_cmp x es) h)

put_first : (w s : ℤ) → w +ℤ s ≡ (s +ℤ w) -ℤ pos 0
put_first w s = omega (arith, ints)

put_equal : (w x s : ℤ) → w +ℤ s ≡ ((x +ℤ s) +ℤ w) -ℤ x
put_equal w x s = omega (arith, ints)

put_later : (w x s p o : ℤ) → p ≡ (s +ℤ w) -ℤ o → x +ℤ p ≡ ((x +ℤ s) +ℤ w) -ℤ o
put_later w x s p o e = omega (arith, ints, e)

-- one entry before the others
put_step : (k w : ℤ) (e : ℤ × ℤ) (es : List (ℤ × ℤ)) → T (below_all int_cmp e.0 es) → values_sum (put int_cmp k w es) ≡ (values_sum es +ℤ w) -ℤ unwrap_or (find int_cmp k es) (pos 0)
    → (r : Ordering) → r ≡ int_cmp k e.0
    → values_sum (by_order r ((k, w) ∷ e ∷ es) ((e.0, w) ∷ es) (e ∷ put int_cmp k w es)) ≡ (values_sum (e ∷ es) +ℤ w) -ℤ unwrap_or (cond (is_eq r) (Some e.1) (find int_cmp k es)) (pos 0)
unfolding values_sum
put_step k w e es left rest Less q = put_first w (values_sum (e ∷ es)) ∙ ap (λ (o : Option ℤ). (values_sum (e ∷ es) +ℤ w) -ℤ unwrap_or o (pos 0)) (sym (missing k e.0 es (int_ranked k e.0 Less q) left))
put_step k w e es left rest Equal q = put_equal w e.1 (values_sum es)
put_step k w e es left rest Greater q = put_later w e.1 (values_sum es) (values_sum (put int_cmp k w es)) (unwrap_or (find int_cmp k es) (pos 0)) rest

put_sum : (k w : ℤ) (es : List (ℤ × ℤ)) → T (is_sorted int_cmp es) → values_sum (put int_cmp k w es) ≡ (values_sum es +ℤ w) -ℤ unwrap_or (find int_cmp k es) (pos 0)
unfolding values_sum
put_sum k w [] h = put_first w (pos 0)
put_sum k w (e ∷ es) h =
    put_step k w e es (T_first (below_all int_cmp e.0 es) (is_sorted int_cmp es) h) (put_sum k w es (T_second (below_all int_cmp e.0 es) (is_sorted int_cmp es) h)) (int_cmp k e.0) refl

pub sum_put : (m : Map) (j w : ℤ) → maps.sum (maps.put m j w) ≡ (maps.sum m +ℤ w) -ℤ maps.get m j
sum_put m j w =
    sum_is (maps.put m j w) ∙ ap values_sum (entries-insert int_cmp_total m j w) ∙ put_sum j w (entries m) (entries_sorted m)
    ∙ ap (λ (o : Option ℤ). (values_sum (entries m) +ℤ w) -ℤ unwrap_or o (pos 0)) (sym (get-entries m j))
    ∙ ap (λ (s : ℤ). (s +ℤ w) -ℤ maps.get m j) (sym (sum_is m))

-- a map without a key is the same without it
del_absent : (m : Map) (j : ℤ) → finmap.get m j ≡ None → maps.del m j ≡ m
del_absent m j e = same_map int_cmp_total int_cmp-IsAntisymmetric (maps.del m j) m (λ q. by q (int_eq q j) refl)
  where
    by : (q : ℤ) (b : Bool) → int_eq q j ≡ b → finmap.get (maps.del m j) q ≡ finmap.get m q
    by q true t = let same = (Decides-int_eq q j).0 t in del_same m j q same ∙ sym e ∙ ap (finmap.get m) (sym same)
    by q false t = get-remove int_cmp_total m j q ∙ ap (λ (b : Bool). cond b None (finmap.get m q)) t

-- what was taken away and is put back
put_back : (m : Map) (j x : ℤ) → finmap.get m j ≡ Some x → maps.put (maps.del m j) j x ≡ m
put_back m j x e = same_map int_cmp_total int_cmp-IsAntisymmetric (maps.put (maps.del m j) j x) m (λ q. by q (int_eq q j) refl)
  where
    by : (q : ℤ) (b : Bool) → int_eq q j ≡ b → finmap.get (maps.put (maps.del m j) j x) q ≡ finmap.get m q
    by q true t = let same = (Decides-int_eq q j).0 t in put_same (maps.del m j) j x q same ∙ sym e ∙ ap (finmap.get m) (sym same)
    by q false t =
        get-insert int_cmp_total (maps.del m j) j x q ∙ ap (λ (b : Bool). cond b (Some x) (finmap.get (maps.del m j) q)) t
        ∙ get-remove int_cmp_total m j q ∙ ap (λ (b : Bool). cond b None (finmap.get m q)) t

less_of : (s t x g : ℤ) → s ≡ (t +ℤ x) -ℤ pos 0 → g ≡ x → t ≡ s -ℤ g
less_of s t x g e h = omega (arith, ints, e, h)

same_less : (s t g : ℤ) → t ≡ s → g ≡ pos 0 → t ≡ s -ℤ g
same_less s t g e h = omega (arith, ints, e, h)

pub sum_del : (m : Map) (j : ℤ) → maps.sum (maps.del m j) ≡ maps.sum m -ℤ maps.get m j
sum_del m j = by (finmap.get m j) refl
  where
    by : (o : Option ℤ) → finmap.get m j ≡ o → maps.sum (maps.del m j) ≡ maps.sum m -ℤ maps.get m j
    by None e = same_less (maps.sum m) (maps.sum (maps.del m j)) (maps.get m j) (ap maps.sum (del_absent m j e)) (none_at m j e).0
    by (Some x) e =
        less_of (maps.sum m) (maps.sum (maps.del m j)) x (maps.get m j)
        (ap maps.sum (sym (put_back m j x e)) ∙ sum_put (maps.del m j) j x ∙ ap (λ (z : ℤ). (maps.sum (maps.del m j) +ℤ x) -ℤ z) (none_at (maps.del m j) j (del_same m j j refl)).0)
        (some_at m j x e).0

-- ---- the raised value
pub raised_there : (m : Map) (j n k : ℤ) → k ≡ j → int_lt (pos 0) (maps.get m j +ℤ n) ≡ true → (maps.get (maps.bump m j n) k ≡ maps.get m j +ℤ n) × (maps.has (maps.bump m j n) k ≡ pos 1)
raised_there m j n k e t =
    subst (λ (x : Map). (maps.get x k ≡ maps.get m j +ℤ n) × (maps.has x k ≡ pos 1)) (sym (bump_put m j n t))
    (some_at (maps.put m j (maps.get m j +ℤ n)) k (maps.get m j +ℤ n) (put_same m j (maps.get m j +ℤ n) k e))

pub raised_gone : (m : Map) (j n k : ℤ) → k ≡ j → int_lt (pos 0) (maps.get m j +ℤ n) ≡ false → (maps.get (maps.bump m j n) k ≡ pos 0) × (maps.has (maps.bump m j n) k ≡ pos 0)
raised_gone m j n k e t =
    subst (λ (x : Map). (maps.get x k ≡ pos 0) × (maps.has x k ≡ pos 0)) (sym (bump_del m j n t)) (none_at (maps.del m j) k (del_same m j k e))

pub raised_other : (m : Map) (j n k : ℤ) → k ≢ j → finmap.get (maps.bump m j n) k ≡ finmap.get m k
raised_other m j n k apart = by (int_lt (pos 0) (maps.get m j +ℤ n)) refl
  where
    by : (b : Bool) → int_lt (pos 0) (maps.get m j +ℤ n) ≡ b → finmap.get (maps.bump m j n) k ≡ finmap.get m k
    by true t = ap (λ (x : Map). finmap.get x k) (bump_put m j n t) ∙ put_other m j (maps.get m j +ℤ n) k apart
    by false t = ap (λ (x : Map). finmap.get x k) (bump_del m j n t) ∙ del_other m j k apart

with_one : (a s h x : ℤ) → a ≡ (s +ℤ pos 1) -ℤ h → x ≡ pos 1 → a ≡ (s +ℤ x) -ℤ h
with_one a s h x e f = omega (arith, ints, e, f)

with_none : (a s h x : ℤ) → a ≡ s -ℤ h → x ≡ pos 0 → a ≡ (s +ℤ x) -ℤ h
with_none a s h x e f = omega (arith, ints, e, f)

with_same : (a s g w x : ℤ) → a ≡ (s +ℤ w) -ℤ g → x ≡ w → a ≡ (s +ℤ x) -ℤ g
with_same a s g w x e f = omega (arith, ints, e, f)

pub size_bump : (m : Map) (j n : ℤ) → maps.size (maps.bump m j n) ≡ (maps.size m +ℤ maps.has (maps.bump m j n) j) -ℤ maps.has m j
size_bump m j n = by (int_lt (pos 0) (maps.get m j +ℤ n)) refl
  where
    by : (b : Bool) → int_lt (pos 0) (maps.get m j +ℤ n) ≡ b → maps.size (maps.bump m j n) ≡ (maps.size m +ℤ maps.has (maps.bump m j n) j) -ℤ maps.has m j
    by true t =
        with_one (maps.size (maps.bump m j n)) (maps.size m) (maps.has m j) (maps.has (maps.bump m j n) j)
        (ap maps.size (bump_put m j n t) ∙ size_put m j (maps.get m j +ℤ n)) (raised_there m j n j refl t).1
    by false t =
        with_none (maps.size (maps.bump m j n)) (maps.size m) (maps.has m j) (maps.has (maps.bump m j n) j)
        (ap maps.size (bump_del m j n t) ∙ size_del m j) (raised_gone m j n j refl t).1

pub sum_bump : (m : Map) (j n : ℤ) → maps.sum (maps.bump m j n) ≡ (maps.sum m +ℤ maps.get (maps.bump m j n) j) -ℤ maps.get m j
sum_bump m j n = by (int_lt (pos 0) (maps.get m j +ℤ n)) refl
  where
    by : (b : Bool) → int_lt (pos 0) (maps.get m j +ℤ n) ≡ b → maps.sum (maps.bump m j n) ≡ (maps.sum m +ℤ maps.get (maps.bump m j n) j) -ℤ maps.get m j
    by true t =
        with_same (maps.sum (maps.bump m j n)) (maps.sum m) (maps.get m j) (maps.get m j +ℤ n) (maps.get (maps.bump m j n) j)
        (ap maps.sum (bump_put m j n t) ∙ sum_put m j (maps.get m j +ℤ n)) (raised_there m j n j refl t).0
    by false t =
        with_none (maps.sum (maps.bump m j n)) (maps.sum m) (maps.get m j) (maps.get (maps.bump m j n) j)
        (ap maps.sum (bump_del m j n t) ∙ sum_del m j) (raised_gone m j n j refl t).0
