-- The formulas on maps are true under every valuation.
use Rattle.std.proofs.Common.{◌≡◌, ◌≢◌, inl, inr, ℤ, pos, Bool, true, false, ◌&&◌, ◌||◌, refl, ap, arith}
use Rattle.std.specs.Prelude.{not, int_le, int_lt, ◌≤ℤ◌}
use Rattle.std.specs.Ordering.{int_eq, int_cmp}
use Rattle.std.specs.FinMap as finmap
use Rattle.std.specs.FinMap.{get-empty}
use Rattle.std.proofs.lemmas.Int.{ints}
use Rattle.std.proofs.lemmas.Bool.{and_from, and_parts, or_left, or_right}
use Rattle.std.proofs.lemmas.Bool.Decides.{Decides-int_eq}
use Rattle.sync_terms.specs.Trees.{Tree, Lit, Name, Add, Sub, Scale, Get, Has, Size, Sum, Nil, Put, Del, Bump, Formula, Le, Eq, And, Imp}
use Rattle.sync_terms.specs.Values.{Valuation, num, mapped, truth, Holds}
use Rattle.sync_terms.specs.Maps as maps
use Rattle.sync_kernel_facts.specs.Lemmas.{zero, one, alike, is_found, is_gone, cong_fact, any_read, changed_read, is_raised, read_fact, size_law, size_fact, sum_law, small_sums, total_fact}
use Rattle.sync_kernel_facts.proofs.MapLaws.{eq_true, same_at, some_at, none_at, put_same, put_other, del_same, del_other, raised_there, raised_gone, raised_other, has_cases, size_put, size_del, size_bump, size_nil, size_natural, has_size, sum_empty, sum_nil, sum_alone, sum_put, sum_del, sum_bump}

int_le_true : (a b : ℤ) → a ≤ℤ b → int_le a b ≡ true
int_le_true a b h = grind (arith, ints)

int_le_from : (a b : ℤ) → int_lt b a ≡ false → int_le a b ≡ true
int_le_from a b h = grind (arith, ints)

zero_le_one : pos 0 ≤ℤ pos 1
zero_le_one = omega (arith, ints)

le_self : (a : ℤ) → a ≤ℤ a
le_self a = omega (arith, ints)

same_le : (a b c : ℤ) → a ≡ b → b ≤ℤ c → a ≤ℤ c
same_le a b c e h = omega (arith, ints, e, h)

le_same : (a b c : ℤ) → b ≡ c → a ≤ℤ c → a ≤ℤ b
le_same a b c e h = omega (arith, ints, e, h)

implied : (a b : Bool) → (a ≡ true → b ≡ true) → (not a || b) ≡ true
implied true b h = h refl
implied false b h = refl

-- one of two, by a test
either : (t a b : Bool) → (t ≡ true → a ≡ true) → (t ≡ false → b ≡ true) → ((t && a) || (not t && b)) ≡ true
either true a b f g = or_left a false (f refl)
either false a b f g = g refl

tested : (t a b c : Bool) → (t ≡ true → a ≡ true) → (t ≡ false → (b ≡ true) × (c ≡ true)) → ((t && a) || (b && c)) ≡ true
tested true a b c f g = or_left a (b && c) (f refl)
tested false a b c f g = let h = g refl in and_from b c h.0 h.1

module _ (v : Valuation) where
  alike_true : (m j n k : Tree) → (maps.get (mapped v m) (num v j) ≡ maps.get (mapped v n) (num v k)) × (maps.has (mapped v m) (num v j) ≡ maps.has (mapped v n) (num v k)) → Holds v (alike m j n k)
  unfolding truth
  alike_true m j n k h = and_from (int_eq (num v (Get m j)) (num v (Get n k))) (int_eq (num v (Has m j)) (num v (Has n k)))
      (eq_true (num v (Get m j)) (num v (Get n k)) h.0) (eq_true (num v (Has m j)) (num v (Has n k)) h.1)

  there_true : (m k w : Tree) → (maps.get (mapped v m) (num v k) ≡ num v w) × (maps.has (mapped v m) (num v k) ≡ pos 1) → Holds v (is_found m k w)
  unfolding truth
  there_true m k w h = and_from (int_eq (num v (Get m k)) (num v w)) (int_eq (num v (Has m k)) (pos 1))
      (eq_true (num v (Get m k)) (num v w) h.0) (eq_true (num v (Has m k)) (pos 1) h.1)

  gone_true : (m k : Tree) → (maps.get (mapped v m) (num v k) ≡ pos 0) × (maps.has (mapped v m) (num v k) ≡ pos 0) → Holds v (is_gone m k)
  unfolding truth
  gone_true m k h = and_from (int_eq (num v (Get m k)) (pos 0)) (int_eq (num v (Has m k)) (pos 0))
      (eq_true (num v (Get m k)) (pos 0) h.0) (eq_true (num v (Has m k)) (pos 0) h.1)

  changed_true : (m k inner j : Tree) (change : Formula) → (num v k ≡ num v j → Holds v change)
      → (num v k ≢ num v j → (maps.get (mapped v m) (num v k) ≡ maps.get (mapped v inner) (num v k)) × (maps.has (mapped v m) (num v k) ≡ maps.has (mapped v inner) (num v k)))
      → Holds v (changed_read m k inner j change)
  unfolding truth
  changed_true m k inner j change here there =
      either (int_eq (num v k) (num v j)) (truth v change) (truth v (alike m k inner k))
      (λ t. here ((Decides-int_eq (num v k) (num v j)).0 t))
      (λ f. alike_true m k inner k (there (λ e. apart (int_eq (num v k) (num v j)) f (eq_true (num v k) (num v j) e))))
    where
      apart : (b : Bool) → b ≡ false → b ≡ true → ⊥
      apart true f t = absurd (cc)
      apart false f t = absurd (cc)

  any_true : (m k : Tree) → Holds v (any_read m k)
  unfolding truth
  any_true m k = elim (has_cases (mapped v m) (num v k)) [
    | inl h ↦ and_from (int_le (pos 0) (num v (Has m k)) && int_le (num v (Has m k)) (pos 1)) (int_eq (num v (Has m k)) (pos 1) || int_eq (num v (Get m k)) (pos 0))
        (and_from (int_le (pos 0) (num v (Has m k))) (int_le (num v (Has m k)) (pos 1))
        (int_le_true (pos 0) (num v (Has m k)) (le_same (pos 0) (num v (Has m k)) (pos 1) h zero_le_one)) (int_le_true (num v (Has m k)) (pos 1) (same_le (num v (Has m k)) (pos 1) (pos 1) h (le_self (pos 1)))))
        (or_left (int_eq (num v (Has m k)) (pos 1)) (int_eq (num v (Get m k)) (pos 0)) (eq_true (num v (Has m k)) (pos 1) h))
    | inr h ↦ and_from (int_le (pos 0) (num v (Has m k)) && int_le (num v (Has m k)) (pos 1)) (int_eq (num v (Has m k)) (pos 1) || int_eq (num v (Get m k)) (pos 0))
        (and_from (int_le (pos 0) (num v (Has m k))) (int_le (num v (Has m k)) (pos 1))
        (int_le_true (pos 0) (num v (Has m k)) (le_same (pos 0) (num v (Has m k)) (pos 0) h.1 (le_self (pos 0)))) (int_le_true (num v (Has m k)) (pos 1) (same_le (num v (Has m k)) (pos 0) (pos 1) h.1 zero_le_one)))
        (or_right (int_eq (num v (Has m k)) (pos 1)) (int_eq (num v (Get m k)) (pos 0)) (eq_true (num v (Get m k)) (pos 0) h.0))
  ]

  -- the raised value, at its key
  raised_true : (m j k n : Tree) → num v k ≡ num v j → Holds v (is_raised (Bump m j n) k (Add (Get m j) n))
  unfolding truth
  raised_true m j k n e =
      tested (int_lt (pos 0) (num v (Add (Get m j) n))) (truth v (is_found (Bump m j n) k (Add (Get m j) n))) (int_le (num v (Add (Get m j) n)) (pos 0)) (truth v (is_gone (Bump m j n) k))
      (λ t. there_true (Bump m j n) k (Add (Get m j) n) (raised_there (mapped v m) (num v j) (num v n) (num v k) e t))
      (λ f. (int_le_from (num v (Add (Get m j) n)) (pos 0) f, gone_true (Bump m j n) k (raised_gone (mapped v m) (num v j) (num v n) (num v k) e f)))

  pub read_true : (m k : Tree) → Holds v (read_fact m k)
  read_true Nil k = gone_true Nil k (none_at maps.nil (num v k) (get-empty int_cmp (num v k)))
  read_true (Put m j w) k =
      changed_true (Put m j w) k m j (is_found (Put m j w) k w)
      (λ e. there_true (Put m j w) k w (some_at (mapped v (Put m j w)) (num v k) (num v w) (put_same (mapped v m) (num v j) (num v w) (num v k) e)))
      (λ n. same_at (mapped v (Put m j w)) (mapped v m) (num v k) (num v k) (put_other (mapped v m) (num v j) (num v w) (num v k) n))
  read_true (Del m j) k =
      changed_true (Del m j) k m j (is_gone (Del m j) k)
      (λ e. gone_true (Del m j) k (none_at (mapped v (Del m j)) (num v k) (del_same (mapped v m) (num v j) (num v k) e)))
      (λ n. same_at (mapped v (Del m j)) (mapped v m) (num v k) (num v k) (del_other (mapped v m) (num v j) (num v k) n))
  read_true (Bump m j n) k =
      changed_true (Bump m j n) k m j (is_raised (Bump m j n) k (Add (Get m j) n))
      (raised_true m j k n)
      (λ apart. same_at (mapped v (Bump m j n)) (mapped v m) (num v k) (num v k) (raised_other (mapped v m) (num v j) (num v n) (num v k) apart))
  read_true (Lit n) k = any_true (Lit n) k
  read_true (Name x) k = any_true (Name x) k
  read_true (Add a b) k = any_true (Add a b) k
  read_true (Sub a b) k = any_true (Sub a b) k
  read_true (Scale n a) k = any_true (Scale n a) k
  read_true (Get a b) k = any_true (Get a b) k
  read_true (Has a b) k = any_true (Has a b) k
  read_true (Size a) k = any_true (Size a) k
  read_true (Sum a) k = any_true (Sum a) k

  pub cong_true : (m j k : Tree) → Holds v (cong_fact m j k)
  unfolding truth
  cong_true m j k =
      implied (int_eq (num v j) (num v k)) (truth v (alike m j m k))
      (λ t. alike_true m j m k (same_at (mapped v m) (mapped v m) (num v j) (num v k) (ap (finmap.get (mapped v m)) ((Decides-int_eq (num v j) (num v k)).0 t))))

  size_law_any : (m : Tree) → Holds v (Le zero (Size m))
  unfolding truth
  size_law_any m = int_le_true (pos 0) (num v (Size m)) (size_natural (mapped v m))

  size_law_true : (m : Tree) → Holds v (size_law m)
  unfolding truth
  size_law_true Nil = eq_true (num v (Size Nil)) (pos 0) size_nil
  size_law_true (Put m j w) = eq_true (num v (Size (Put m j w))) (num v (Sub (Add (Size m) one) (Has m j))) (size_put (mapped v m) (num v j) (num v w))
  size_law_true (Del m j) = eq_true (num v (Size (Del m j))) (num v (Sub (Size m) (Has m j))) (size_del (mapped v m) (num v j))
  size_law_true (Bump m j n) = eq_true (num v (Size (Bump m j n))) (num v (Sub (Add (Size m) (Has (Bump m j n) j)) (Has m j))) (size_bump (mapped v m) (num v j) (num v n))
  size_law_true (Lit n) = size_law_any (Lit n)
  size_law_true (Name x) = size_law_any (Name x)
  size_law_true (Add a b) = size_law_any (Add a b)
  size_law_true (Sub a b) = size_law_any (Sub a b)
  size_law_true (Scale n a) = size_law_any (Scale n a)
  size_law_true (Get a b) = size_law_any (Get a b)
  size_law_true (Has a b) = size_law_any (Has a b)
  size_law_true (Size a) = size_law_any (Size a)
  size_law_true (Sum a) = size_law_any (Sum a)

  pub size_true : (m k : Tree) → Holds v (size_fact m k)
  unfolding truth
  size_true m k = and_from (int_le (num v (Has m k)) (num v (Size m))) (truth v (size_law m)) (int_le_true (num v (Has m k)) (num v (Size m)) (has_size (mapped v m) (num v k))) (size_law_true m)

  nothing_true : Holds v (Eq zero zero)
  unfolding truth
  nothing_true = eq_true (pos 0) (pos 0) refl

  sum_law_true : (m : Tree) → Holds v (sum_law m)
  unfolding truth
  sum_law_true Nil = eq_true (num v (Sum Nil)) (pos 0) sum_nil
  sum_law_true (Put m j w) = eq_true (num v (Sum (Put m j w))) (num v (Sub (Add (Sum m) w) (Get m j))) (sum_put (mapped v m) (num v j) (num v w))
  sum_law_true (Del m j) = eq_true (num v (Sum (Del m j))) (num v (Sub (Sum m) (Get m j))) (sum_del (mapped v m) (num v j))
  sum_law_true (Bump m j n) = eq_true (num v (Sum (Bump m j n))) (num v (Sub (Add (Sum m) (Get (Bump m j n) j)) (Get m j))) (sum_bump (mapped v m) (num v j) (num v n))
  sum_law_true (Lit n) = nothing_true
  sum_law_true (Name x) = nothing_true
  sum_law_true (Add a b) = nothing_true
  sum_law_true (Sub a b) = nothing_true
  sum_law_true (Scale n a) = nothing_true
  sum_law_true (Get a b) = nothing_true
  sum_law_true (Has a b) = nothing_true
  sum_law_true (Size a) = nothing_true
  sum_law_true (Sum a) = nothing_true

  small_true : (m k : Tree) → Holds v (small_sums m k)
  unfolding truth
  small_true m k =
      and_from (truth v (Imp (Eq (Size m) zero) (Eq (Sum m) zero))) (truth v (Imp (And (Eq (Size m) one) (Eq (Has m k) one)) (Eq (Sum m) (Get m k))))
      (implied (int_eq (num v (Size m)) (pos 0)) (int_eq (num v (Sum m)) (pos 0))
      (λ t. eq_true (num v (Sum m)) (pos 0) (sum_empty (mapped v m) ((Decides-int_eq (num v (Size m)) (pos 0)).0 t))))
      (implied (int_eq (num v (Size m)) (pos 1) && int_eq (num v (Has m k)) (pos 1)) (int_eq (num v (Sum m)) (num v (Get m k)))
      (λ t. (let p = and_parts (int_eq (num v (Size m)) (pos 1)) (int_eq (num v (Has m k)) (pos 1)) t in
      eq_true (num v (Sum m)) (num v (Get m k)) (sum_alone (mapped v m) (num v k) ((Decides-int_eq (num v (Size m)) (pos 1)).0 p.0) ((Decides-int_eq (num v (Has m k)) (pos 1)).0 p.1)))))

  pub total_true : (m k : Tree) → Holds v (total_fact m k)
  unfolding truth
  total_true m k = and_from (truth v (small_sums m k)) (truth v (sum_law m)) (small_true m k) (sum_law_true m)
