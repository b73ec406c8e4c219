-- Values that are one of several: what holds at each of these holds.
use Rattle.std.proofs.Common.{◌≡◌, sym, subst, ◌⊎◌, inl, inr}

module _ {A : Type 0} (P : A → Type 0) where
  pub by1 : {k a : A} → k ≡ a → P a → P k
  by1 e p = subst P (sym e) p

  pub by2 : {k a b : A} → (k ≡ a) ⊎ (k ≡ b) → P a → P b → P k
  by2 (inl e) p q = by1 e p
  by2 (inr e) p q = by1 e q

  pub by3 : {k a b c : A} → (k ≡ a) ⊎ ((k ≡ b) ⊎ (k ≡ c)) → P a → P b → P c → P k
  by3 (inl e) p q r = by1 e p
  by3 (inr e) p q r = by2 e q r

  pub by4 : {k a b c d : A} → (k ≡ a) ⊎ ((k ≡ b) ⊎ ((k ≡ c) ⊎ (k ≡ d))) → P a → P b → P c → P d → P k
  by4 (inl e) p q r s = by1 e p
  by4 (inr e) p q r s = by3 e q r s

  pub by6 : {k a b c d f g : A} → (k ≡ a) ⊎ ((k ≡ b) ⊎ ((k ≡ c) ⊎ ((k ≡ d) ⊎ ((k ≡ f) ⊎ (k ≡ g))))) → P a → P b → P c → P d → P f → P g → P k
  by6 (inl e) p q r s t u = by1 e p
  by6 (inr (inl e)) p q r s t u = by1 e q
  by6 (inr (inr e)) p q r s t u = by4 e r s t u

  pub by8 : {k a b c d f g h i : A} → (k ≡ a) ⊎ ((k ≡ b) ⊎ ((k ≡ c) ⊎ ((k ≡ d) ⊎ ((k ≡ f) ⊎ ((k ≡ g) ⊎ ((k ≡ h) ⊎ (k ≡ i))))))) → P a → P b → P c → P d → P f → P g → P h → P i → P k
  by8 (inl e) p q r s t u v w = by1 e p
  by8 (inr (inl e)) p q r s t u v w = by1 e q
  by8 (inr (inr e)) p q r s t u v w = by6 e r s t u v w

  -- the same of values with a part
  pub by2-of : {X : Type 0} {k : A} {a b : X → A} → ((x : X) × (k ≡ a x)) ⊎ ((x : X) × (k ≡ b x)) → ((x : X) → P (a x)) → ((x : X) → P (b x)) → P k
  by2-of (inl e) p q = by1 e.1 (p e.0)
  by2-of (inr e) p q = by1 e.1 (q e.0)
