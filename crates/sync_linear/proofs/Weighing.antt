-- Terms that are weighed: sums and multiples of weights, and that a term's value is its constant and its weighed atoms.
use Rattle.std.proofs.Common.{◌≡◌, ℕ, ◌*◌, ℤ, pos, ◌+ℤ◌, ◌-ℤ◌, ◌*ℤ◌, refl, sym, ap, ◌∙◌, arith}
use Rattle.std.proofs.Math.IntN.{+ℤ_idl, +ℤ_idr}
use Rattle.std.proofs.lemmas.Int.{ints}
use borrow.Author.Differences.{up, down, product_is}
use Rattle.sync_terms.specs.Trees.{Tree, Lit, Name, Add, Sub, Scale, Get, Has, Size, Sum, Nil, Put, Del, Bump}
use Rattle.sync_terms.specs.Values.{Valuation, num}
use Rattle.sync_linear.specs.Forms.{constant_of, weighed}
use Rattle.sync_linear.proofs.Ring.{times_zero, distributes}

pub rearranged : (a b k m n : ℤ) → (a +ℤ (k *ℤ m)) +ℤ (b +ℤ (k *ℤ n)) ≡ (a +ℤ b) +ℤ (k *ℤ (m +ℤ n))
rearranged a b k m n = omega (arith, ints, distributes k m n)

pub taken : (a b k m n : ℤ) → (a +ℤ (k *ℤ m)) -ℤ (b +ℤ (k *ℤ n)) ≡ (a -ℤ b) +ℤ (k *ℤ (m -ℤ n))
taken a b k m n = let back : (m -ℤ n) +ℤ n ≡ m = omega (arith, ints) in
    omega (arith, ints, distributes k (m -ℤ n) n, ap (λ (z : ℤ). k *ℤ z) back)

-- products may be taken in another order
pub swapped : (c k m : ℤ) → c *ℤ (k *ℤ m) ≡ k *ℤ (c *ℤ m)
swapped c k m =
    omega (
      arith,
      ints,
      ap (λ (n : ℕ). up c * n) (product_is k m).0,
      ap (λ (n : ℕ). down c * n) (product_is k m).0,
      ap (λ (n : ℕ). up c * n) (product_is k m).1,
      ap (λ (n : ℕ). down c * n) (product_is k m).1,
      ap (λ (n : ℕ). up k * n) (product_is c m).0,
      ap (λ (n : ℕ). down k * n) (product_is c m).0,
      ap (λ (n : ℕ). up k * n) (product_is c m).1,
      ap (λ (n : ℕ). down k * n) (product_is c m).1,
    )

pub scaled : (c a k m : ℤ) → c *ℤ (a +ℤ (k *ℤ m)) ≡ (c *ℤ a) +ℤ (k *ℤ (c *ℤ m))
scaled c a k m = distributes c a (k *ℤ m) ∙ ap (λ (z : ℤ). (c *ℤ a) +ℤ z) (swapped c k m)

pub nothing_more : (k : ℤ) → pos 0 ≡ pos 0 +ℤ (k *ℤ pos 0)
nothing_more k = omega (arith, ints, times_zero k)

-- one more multiple of a weight
pub plus : (k : ℤ) (w v : Tree → ℤ) (t : Tree) → weighed (λ x. w x +ℤ (k *ℤ v x)) t ≡ weighed w t +ℤ (k *ℤ weighed v t)
plus k w v (Lit n) = nothing_more k
plus k w v (Name x) = refl
plus k w v (Add a b) =
    ap (λ (x : ℤ). x +ℤ weighed (λ x. w x +ℤ (k *ℤ v x)) b) (plus k w v a) ∙ ap (λ (x : ℤ). (weighed w a +ℤ (k *ℤ weighed v a)) +ℤ x) (plus k w v b)
    ∙ rearranged (weighed w a) (weighed w b) k (weighed v a) (weighed v b)
plus k w v (Sub a b) =
    ap (λ (x : ℤ). x -ℤ weighed (λ x. w x +ℤ (k *ℤ v x)) b) (plus k w v a) ∙ ap (λ (x : ℤ). (weighed w a +ℤ (k *ℤ weighed v a)) -ℤ x) (plus k w v b)
    ∙ taken (weighed w a) (weighed w b) k (weighed v a) (weighed v b)
plus k w v (Scale n a) = ap (λ (x : ℤ). n *ℤ x) (plus k w v a) ∙ scaled n (weighed w a) k (weighed v a)
plus k w v (Get m j) = refl
plus k w v (Has m j) = refl
plus k w v (Size m) = refl
plus k w v (Sum m) = refl
plus k w v Nil = nothing_more k
plus k w v (Put m j n) = nothing_more k
plus k w v (Del m j) = nothing_more k
plus k w v (Bump m j n) = nothing_more k

pub weighed_zero : (t : Tree) → weighed (λ _. pos 0) t ≡ pos 0
weighed_zero (Lit n) = refl
weighed_zero (Name x) = refl
weighed_zero (Add a b) = ap (λ (x : ℤ). x +ℤ weighed (λ _. pos 0) b) (weighed_zero a) ∙ ap (λ (x : ℤ). pos 0 +ℤ x) (weighed_zero b)
weighed_zero (Sub a b) = ap (λ (x : ℤ). x -ℤ weighed (λ _. pos 0) b) (weighed_zero a) ∙ ap (λ (x : ℤ). pos 0 -ℤ x) (weighed_zero b)
weighed_zero (Scale n a) = ap (λ (x : ℤ). n *ℤ x) (weighed_zero a) ∙ times_zero n
weighed_zero (Get m k) = refl
weighed_zero (Has m k) = refl
weighed_zero (Size m) = refl
weighed_zero (Sum m) = refl
weighed_zero Nil = refl
weighed_zero (Put m k n) = refl
weighed_zero (Del m k) = refl
weighed_zero (Bump m k n) = refl

-- ---- the value of a term

pub value_is : (v : Valuation) (t : Tree) → num v t ≡ constant_of t +ℤ weighed (num v) t
value_is v (Lit n) = sym (+ℤ_idr n)
value_is v (Name x) = sym (+ℤ_idl (num v (Name x)))
value_is v (Add a b) = omega (arith, ints, value_is v a, value_is v b)
value_is v (Sub a b) = omega (arith, ints, value_is v a, value_is v b)
value_is v (Scale n a) = ap (λ (z : ℤ). n *ℤ z) (value_is v a) ∙ distributes n (constant_of a) (weighed (num v) a)
value_is v (Get m k) = sym (+ℤ_idl (num v (Get m k)))
value_is v (Has m k) = sym (+ℤ_idl (num v (Has m k)))
value_is v (Size m) = sym (+ℤ_idl (num v (Size m)))
value_is v (Sum m) = sym (+ℤ_idl (num v (Sum m)))
value_is v Nil = refl
value_is v (Put m k n) = refl
value_is v (Del m k) = refl
value_is v (Bump m k n) = refl
