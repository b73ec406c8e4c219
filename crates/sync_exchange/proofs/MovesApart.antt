-- Names that stand once: by how often each stands, and as a list in which they differ.
use Rattle.std.proofs.Common.{◌≡◌, ℕ, ◌+◌, ◌<◌, ◌≤◌, Bool, true, false, List, [], ◌∷◌, inl, inr, ◌⊎◌, refl, arith, if◌then◌else◌, nat_eq}
use Rattle.std.specs.List.{AllByRecursion, IsDistinct}
use Rattle.std.proofs.lemmas.Bool.{cases_lt, eq-eqb}
use Rattle.sync_exchange.specs.declared.hands.Held.{Held}
use Rattle.sync_exchange.specs.Projection.{is_among}
use Rattle.sync_exchange.proofs.Tokens.{occurs, names_in, holds}
use Rattle.sync_exchange.proofs.Owning.{occurs-contains}

-- each name is held once at most
abbrev pub IsOnce : List Held → Type 0
IsOnce hs = (z : ℕ) → holds z hs ≤ 1

none-apart : (y : ℕ) (ys : List ℕ) → occurs y ys ≡ 0 → AllByRecursion (λ (z : ℕ). nat_eq y z ≡ false) ys
unfolding occurs
none-apart y [] e = tt
none-apart y (x ∷ xs) e = cases (nat_eq y x) refl e (none-apart y xs) where
  cases : (b : Bool) → nat_eq y x ≡ b → (if b then 1 else 0) + occurs y xs ≡ 0 → (occurs y xs ≡ 0 → AllByRecursion (λ (z : ℕ). nat_eq y z ≡ false) xs)
      → (nat_eq y x ≡ false) × AllByRecursion (λ (z : ℕ). nat_eq y z ≡ false) xs
  cases true same e later = absurd (omega (arith, e))
  cases false other e later = (other, later (omega (arith, e)))

own-occurs : (y : ℕ) (ys : List ℕ) → occurs y (y ∷ ys) ≤ 1 → occurs y ys ≡ 0
unfolding occurs
own-occurs y ys h = cases (nat_eq y y) (eq-eqb y y refl) h where
  cases : (b : Bool) → b ≡ true → (if b then 1 else 0) + occurs y ys ≤ 1 → occurs y ys ≡ 0
  cases true same h = omega (arith, h)
  cases false same h = absurd (cc)

later-occurs : (z y : ℕ) (ys : List ℕ) → occurs z (y ∷ ys) ≤ 1 → occurs z ys ≤ 1
unfolding occurs
later-occurs z y ys h = omega (arith, h)

pub occurs-distinct : (ys : List ℕ) → ((z : ℕ) → occurs z ys ≤ 1) → IsDistinct nat_eq ys
unfolding IsDistinct
occurs-distinct [] h = tt
occurs-distinct (y ∷ ys) h = (none-apart y ys (own-occurs y ys (h y)), occurs-distinct ys (λ z. later-occurs z y ys (h z)))

-- a name that is not held is held no time
pub not-held : (name : ℕ) (hs : List Held) → (is_among name hs → ⊥) → holds name hs ≡ 0
not-held name hs none = cases (cases_lt 0 (holds name hs)) where
  cases : (0 < holds name hs) ⊎ (holds name hs ≤ 0) → holds name hs ≡ 0
  cases (inl some) = absurd (none (occurs-contains name (names_in hs) (omega (arith, some))))
  cases (inr e) = omega (arith, e)
