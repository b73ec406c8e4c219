-- Finite maps of numbers: what is at a key behind a change, and changes at two keys in either order.
use Rattle.std.proofs.Common.{◌≡◌, ℤ, pos, ◌+ℤ◌, ◌≤ℤ◌, ◌<ℤ◌, Bool, true, false, Option, Some, None, is_some, unwrap_or, refl, sym, ap, subst, ◌∙◌, arith, if◌then◌else◌, int_lt}
use Rattle.std.specs.Ordering.{int_eq, int_cmp}
use Rattle.std.specs.Cmp.{int_eq_equiv}
use Rattle.std.specs.FinMap.{get-empty}
use Rattle.std.specs.FinMap as finmap
use Rattle.std.proofs.lemmas.Bool.Decides.{Decides-int_eq}
use Rattle.std.proofs.lemmas.Int.{ints}
use Rattle.sync_terms.specs.Maps.{Map, nil, put, bump}
use Rattle.sync_terms.specs.Maps as maps
use Rattle.sync_join.specs.Join.{is_value}
use Rattle.sync_entries.proofs.Maps.{same, get-put}

pub equal : (a b : ℤ) → int_eq a b ≡ true → a ≡ b
equal a b e = (Decides-int_eq a b).0 e

-- tests of two keys that differ are not both true
apart : {X : Type 0} (a b : Bool) (x y z : X) → (a ≡ true → b ≡ true → ⊥) → (if a then x else (if b then y else z)) ≡ (if b then y else (if a then x else z))
apart true true x y z h = absurd (h refl refl)
apart true false x y z h = refl
apart false b x y z h = refl

pub put-put : (m : Map) (a v b w : ℤ) → int_eq a b ≡ false → put (put m a v) b w ≡ put (put m b w) a v
put-put m a v b w differ =
    same _ _ (λ q.
    get-put (put m a v) b w q
    ∙ ap (λ o. if int_eq q b then Some w else o) (get-put m a v q)
    ∙ apart (int_eq q b) (int_eq q a) (Some w) (Some v) (finmap.get m q) (λ at_b at_a.
    let here : int_eq a b ≡ true = (Decides-int_eq a b).1 (sym (equal q a at_a) ∙ equal q b at_b) in
    absurd (cc))
    ∙ ap (λ o. if int_eq q a then Some v else o) (sym (get-put m b w q))
    ∙ sym (get-put (put m b w) a v q))

-- no value is negative
abbrev pub AreNatural : Map → Type 0
AreNatural m = (q : ℤ) → pos 0 ≤ℤ maps.get m q

pub natural-nil : AreNatural nil
natural-nil q = let none : finmap.get nil q ≡ None = get-empty int_cmp q in subst (λ (o : Option ℤ). pos 0 ≤ℤ unwrap_or o (pos 0)) (sym none) (omega (arith, ints))

pub value-nil : (q : ℤ) → maps.get nil q ≤ℤ pos 0
value-nil q = let none : finmap.get nil q ≡ None = get-empty int_cmp q in subst (λ (o : Option ℤ). unwrap_or o (pos 0) ≤ℤ pos 0) (sym none) (omega (arith, ints))

above : (n : ℤ) → pos 0 <ℤ n → int_lt (pos 0) n ≡ true
above n h = grind (arith, ints)

more_than_nothing : (n : ℤ) → pos 0 ≤ℤ n → int_lt (pos 0) (n +ℤ pos 1) ≡ true
more_than_nothing n h = above (n +ℤ pos 1) (omega (arith, ints))

if-true : {X : Type 0} (b : Bool) (x y : X) → b ≡ true → (if b then x else y) ≡ x
if-true true x y e = refl
if-true false x y e = absurd (cc)

pub bump-put : (m : Map) (k : ℤ) → pos 0 ≤ℤ maps.get m k → bump m k (pos 1) ≡ put m k (maps.get m k +ℤ pos 1)
bump-put m k h = if-true _ _ _ (more_than_nothing (maps.get m k) h)

or-nothing : (b : Bool) (v : ℤ) (o : Option ℤ) → unwrap_or (if b then Some v else o) (pos 0) ≡ (if b then v else unwrap_or o (pos 0))
or-nothing true v o = refl
or-nothing false v o = refl

pub value-put : (m : Map) (k v q : ℤ) → maps.get (put m k v) q ≡ (if int_eq q k then v else maps.get m q)
value-put m k v q = ap (λ o. unwrap_or o (pos 0)) (get-put m k v q) ∙ or-nothing (int_eq q k) v (finmap.get m q)

natural_either : (b : Bool) (n m : ℤ) → pos 0 ≤ℤ n → pos 0 ≤ℤ m → pos 0 ≤ℤ (if b then n +ℤ pos 1 else m)
natural_either true n m h k = omega (arith, ints)
natural_either false n m h k = k

pub value-bump : (m : Map) (k q : ℤ) → pos 0 ≤ℤ maps.get m k → maps.get (bump m k (pos 1)) q ≡ (if int_eq q k then maps.get m k +ℤ pos 1 else maps.get m q)
value-bump m k q h = ap (λ n. maps.get n q) (bump-put m k h) ∙ value-put m k (maps.get m k +ℤ pos 1) q

pub natural-bump : (m : Map) (k : ℤ) → AreNatural m → AreNatural (bump m k (pos 1))
natural-bump m k h q =
    subst (λ (n : ℤ). pos 0 ≤ℤ n) (sym (value-bump m k q (h k)))
    (natural_either (int_eq q k) (maps.get m k) (maps.get m q) (h k) (h q))

-- what stands at another key stays
value-other : (m : Map) (k v q : ℤ) → int_eq q k ≡ false → maps.get (put m k v) q ≡ maps.get m q
value-other m k v q e = value-put m k v q ∙ ap (λ b. if b then v else maps.get m q) e

bump-other : (m : Map) (a b : ℤ) → AreNatural m → int_eq a b ≡ false → bump (bump m a (pos 1)) b (pos 1) ≡ put (put m a (maps.get m a +ℤ pos 1)) b (maps.get m b +ℤ pos 1)
bump-other m a b h differ =
    bump-put (bump m a (pos 1)) b (natural-bump m a h b)
    ∙ ap (λ n. put n b (maps.get n b +ℤ pos 1)) (bump-put m a (h a))
    ∙ ap (λ n. put (put m a (maps.get m a +ℤ pos 1)) b (n +ℤ pos 1)) (value-other m a (maps.get m a +ℤ pos 1) b (int_eq_equiv.symm b a ∙ differ))

bump_apart : (m : Map) (a b : ℤ) → AreNatural m → int_eq a b ≡ false → bump (bump m a (pos 1)) b (pos 1) ≡ bump (bump m b (pos 1)) a (pos 1)
bump_apart m a b h differ =
    bump-other m a b h differ
    ∙ put-put m a (maps.get m a +ℤ pos 1) b (maps.get m b +ℤ pos 1) differ
    ∙ sym (bump-other m b a h (int_eq_equiv.symm b a ∙ differ))

pub bump-bump : (m : Map) (a b : ℤ) → AreNatural m → bump (bump m a (pos 1)) b (pos 1) ≡ bump (bump m b (pos 1)) a (pos 1)
bump-bump m a b h =
    elim (int_eq a b) as (λ r. int_eq a b ≡ r → bump (bump m a (pos 1)) b (pos 1) ≡ bump (bump m b (pos 1)) a (pos 1)) [
      | true ↦ λ e. subst (λ (c : ℤ). bump (bump m a (pos 1)) c (pos 1) ≡ bump (bump m c (pos 1)) a (pos 1)) (equal a b e) refl
      | false ↦ λ e. bump_apart m a b h e
    ] refl

-- nothing is in the empty map
pub nil-entry : (k v : ℤ) → is_value (finmap.get nil k) v ≡ false
nil-entry k v = let none : finmap.get nil k ≡ None = get-empty int_cmp k in ap (λ o. is_value o v) none

pub nil-element : (k : ℤ) → is_some (finmap.get nil k) ≡ false
nil-element k = let none : finmap.get nil k ≡ None = get-empty int_cmp k in ap is_some none
