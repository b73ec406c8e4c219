-- A token under another name: what the hand holds then, and that its names still differ.
use Rattle.std.proofs.Common.{inl, inr}
use Rattle.std.specs.Prelude.{◌≡◌, ℕ, Bool, true, false, if◌then◌else◌, nat_eq, List, [], ◌∷◌, map, Some, None}
use Rattle.std.specs.List.{AllByRecursion, IsDistinct}
use Rattle.std.proofs.lemmas.Bool.{ne_eqb}
use Rattle.std.proofs.lemmas.Bool.Decides.{eqb_tells}
use Rattle.sync_join.specs.declared.tokens.Token.{Token as Shard}
use Rattle.sync_exchange.specs.Exchange.{held_as}
use Rattle.sync_exchange.specs.Splitting.{replaced, held}
use Rattle.sync_exchange.specs.declared.hands.Held.{Held}
use Rattle.sync_typing_laws.specs.Rests.{IsApart}
use mathlib.Core.Path.{refl, sym, subst, ◌∙◌}

itself : (a : ℕ) → nat_eq a a ≡ true
itself a = elim (eqb_tells a a) [ inl k ↦ k.0 | inr k ↦ absurd (k.1 refl) ]

same : (a b : ℕ) → nat_eq a b ≡ true → a ≡ b
same a b is = elim (eqb_tells a b) [ inl k ↦ k.1 | inr k ↦ absurd (let never : true ≡ false = sym is ∙ k.0 in cc) ]

turned : (a b : ℕ) → nat_eq a b ≡ false → nat_eq b a ≡ false
turned a b off = ne_eqb b a (λ k. (let never : true ≡ false = sym (subst (λ d. nat_eq a d ≡ true) (sym k) (itself a)) ∙ off in cc))

abbrev pub names_of : List Held → List ℕ
names_of hs = map (λ (h : Held). h.name) hs

-- a name that no token of the hand has
pub none_apart : (n : ℕ) (hs : List Held) → held_as n hs ≡ None → AllByRecursion (λ y. nat_eq n y ≡ false) (names_of hs)
unfolding held_as
none_apart n [] is = tt
none_apart n (h ∷ hs) is = by (nat_eq n h.name) refl is (none_apart n hs) where
  by : (b : Bool) → nat_eq n h.name ≡ b → (if b then Some h.token else held_as n hs) ≡ None → (held_as n hs ≡ None → AllByRecursion (λ y. nat_eq n y ≡ false) (names_of hs)) → (nat_eq n h.name ≡ false) × AllByRecursion (λ y. nat_eq n y ≡ false) (names_of hs)
  by true k e later = absurd (let never : Some h.token ≡ None = e in cc)
  by false k e later = (k, later e)

pub apart_none : (n : ℕ) (hs : List Held) → AllByRecursion (λ y. nat_eq n y ≡ false) (names_of hs) → held_as n hs ≡ None
unfolding held_as
apart_none n [] all = refl
apart_none n (h ∷ hs) all = subst (λ b. (if b then Some h.token else held_as n hs) ≡ None) (sym all.0) (apart_none n hs all.1)

pub renamed_here : (name new : ℕ) (u : Shard) (hs : List Held) → held_as name hs ≡ Some u → held_as new hs ≡ None → held_as new (replaced name (held new u u.value) hs) ≡ Some (held new u u.value).token
unfolding held_as
renamed_here name new u [] is free = absurd (let never : None ≡ Some u = is in cc)
renamed_here name new u (h ∷ hs) is free = by (nat_eq name h.name) refl is (none_apart new (h ∷ hs) free).0 (renamed_here name new u hs) where
  by : (b : Bool) → nat_eq name h.name ≡ b → (if b then Some h.token else held_as name hs) ≡ Some u → nat_eq new h.name ≡ false
      → (held_as name hs ≡ Some u → held_as new hs ≡ None → held_as new (replaced name (held new u u.value) hs) ≡ Some (held new u u.value).token)
      → held_as new (if b then held new u u.value ∷ hs else h ∷ replaced name (held new u u.value) hs) ≡ Some (held new u u.value).token
  by true k e off later = subst (λ b. (if b then Some (held new u u.value).token else held_as new hs) ≡ Some (held new u u.value).token) (sym (itself new)) refl
  by false k e off later = subst (λ b. (if b then Some h.token else held_as new (replaced name (held new u u.value) hs)) ≡ Some (held new u u.value).token) (sym off) (later e (apart_none new hs (none_apart new (h ∷ hs) free).1))

pub renamed_gone : (name new : ℕ) (u : Shard) (hs : List Held) → IsApart hs → held_as name hs ≡ Some u → (name ≡ new → ⊥) → held_as name (replaced name (held new u u.value) hs) ≡ None
unfolding held_as IsDistinct
renamed_gone name new u [] apart is other = refl
renamed_gone name new u (h ∷ hs) apart is other = by (nat_eq name h.name) refl is (renamed_gone name new u hs) where
  by : (b : Bool) → nat_eq name h.name ≡ b → (if b then Some h.token else held_as name hs) ≡ Some u
      → (IsApart hs → held_as name hs ≡ Some u → (name ≡ new → ⊥) → held_as name (replaced name (held new u u.value) hs) ≡ None)
      → held_as name (if b then held new u u.value ∷ hs else h ∷ replaced name (held new u u.value) hs) ≡ None
  by true k e later = subst (λ b. (if b then Some (held new u u.value).token else held_as name hs) ≡ None) (sym (ne_eqb name new other))
      (apart_none name hs (subst (λ d. AllByRecursion (λ y. nat_eq d y ≡ false) (names_of hs)) (sym (same name h.name k)) apart.0))
  by false k e later = subst (λ b. (if b then Some h.token else held_as name (replaced name (held new u u.value) hs)) ≡ None) (sym k) (later apart.1 e other)

still_apart : (n name new : ℕ) (u : Shard) (hs : List Held) → nat_eq n new ≡ false → AllByRecursion (λ y. nat_eq n y ≡ false) (names_of hs) → AllByRecursion (λ y. nat_eq n y ≡ false) (names_of (replaced name (held new u u.value) hs))
still_apart n name new u [] off all = tt
still_apart n name new u (h ∷ hs) off all = by (nat_eq name h.name) (still_apart n name new u hs) where
  by : (b : Bool) → (nat_eq n new ≡ false → AllByRecursion (λ y. nat_eq n y ≡ false) (names_of hs) → AllByRecursion (λ y. nat_eq n y ≡ false) (names_of (replaced name (held new u u.value) hs)))
      → AllByRecursion (λ y. nat_eq n y ≡ false) (names_of (if b then held new u u.value ∷ hs else h ∷ replaced name (held new u u.value) hs))
  by true later = (off, all.1)
  by false later = (all.0, later off all.1)

pub renamed_apart : (name new : ℕ) (u : Shard) (hs : List Held) → IsApart hs → held_as new hs ≡ None → IsApart (replaced name (held new u u.value) hs)
unfolding IsDistinct
renamed_apart name new u [] apart free = tt
renamed_apart name new u (h ∷ hs) apart free = by (nat_eq name h.name) (none_apart new (h ∷ hs) free) (renamed_apart name new u hs) where
  by : (b : Bool) → AllByRecursion (λ y. nat_eq new y ≡ false) (names_of (h ∷ hs)) → (IsApart hs → held_as new hs ≡ None → IsApart (replaced name (held new u u.value) hs))
      → IsApart (if b then held new u u.value ∷ hs else h ∷ replaced name (held new u u.value) hs)
  by true all later = (all.1, apart.1)
  by false all later = (still_apart h.name name new u hs (turned new h.name all.0) apart.0, later apart.1 (apart_none new hs all.1))
