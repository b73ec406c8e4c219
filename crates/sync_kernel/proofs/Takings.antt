-- What a fact is taken apart into holds, or one of two does.
use Rattle.std.proofs.Common.{◌≡◌, ◌⊎◌, inl, inr, ℤ, Bool, true, false, ◌&&◌, ◌||◌, Option, Some, None, refl, subst, ◌∙◌, arith}
use Rattle.std.specs.Prelude.{not, int_lt}
use Rattle.std.specs.Ordering.{int_eq}
use Rattle.std.proofs.lemmas.Int.{ints}
use Rattle.std.proofs.lemmas.Bool.{and_parts, or_cases}
use Rattle.sync_terms.specs.Trees.{Formula, Le, Lt, Eq, Not, And, Or, Imp, neg}
use Rattle.sync_terms.specs.Values.{Valuation, num, truth, Holds}
use Rattle.sync_terms.proofs.Meaning.{truth-neg}
use Rattle.sync_kernel.specs.Taking.{Two, parts_of, parts_of_not, cases_of, cases_of_not}

neither : (a b : Bool) → not (a || b) ≡ true → (not a ≡ true) × (not b ≡ true)
neither true b h = absurd (cc)
neither false b h = (refl, h)

not_implied : (a b : Bool) → not (not a || b) ≡ true → (a ≡ true) × (not b ≡ true)
not_implied true b h = (refl, h)
not_implied false b h = absurd (cc)

not_both : (a b : Bool) → not (a && b) ≡ true → (not a ≡ true) ⊎ (not b ≡ true)
not_both true b h = inr h
not_both false b h = inl refl

implied : (a b : Bool) → (not a || b) ≡ true → (not a ≡ true) ⊎ (b ≡ true)
implied true b h = inr h
implied false b h = inl refl

not_equal : (a b : ℤ) → not (int_eq a b) ≡ true → (int_lt a b ≡ true) ⊎ (int_lt b a ≡ true)
not_equal a b h = grind (arith, ints)

abbrev Both : Valuation → Option Two → Type 0
Both v None = Unit {0}
Both v (Some t) = Holds v t.left × Holds v t.right

abbrev Either : Valuation → Option Two → Type 0
Either v None = Unit {0}
Either v (Some t) = Holds v t.left ⊎ Holds v t.right

module _ (v : Valuation) where
  neg_holds : (f : Formula) → not (truth v f) ≡ true → Holds v (neg f)
  neg_holds f h = truth-neg v f ∙ h

  parts_not : (f : Formula) → not (truth v f) ≡ true → Both v (parts_of_not f)
  unfolding truth
  parts_not (Or f g) h = let p = neither (truth v f) (truth v g) h in (neg_holds f p.0, neg_holds g p.1)
  parts_not (Imp f g) h = let p = not_implied (truth v f) (truth v g) h in (p.0, neg_holds g p.1)
  parts_not (Le t u) h = tt
  parts_not (Lt t u) h = tt
  parts_not (Eq t u) h = tt
  parts_not (Not f) h = tt
  parts_not (And f g) h = tt

  parts_both : (f : Formula) → Holds v f → Both v (parts_of f)
  unfolding truth
  parts_both (And f g) h = and_parts (truth v f) (truth v g) h
  parts_both (Not f) h = parts_not f h
  parts_both (Le t u) h = tt
  parts_both (Lt t u) h = tt
  parts_both (Eq t u) h = tt
  parts_both (Or f g) h = tt
  parts_both (Imp f g) h = tt

  cases_not : (f : Formula) → not (truth v f) ≡ true → Either v (cases_of_not f)
  unfolding truth
  cases_not (And f g) h = elim (not_both (truth v f) (truth v g) h) [ inl a ↦ inl (neg_holds f a) | inr b ↦ inr (neg_holds g b) ]
  cases_not (Eq t u) h = not_equal (num v t) (num v u) h
  cases_not (Le t u) h = tt
  cases_not (Lt t u) h = tt
  cases_not (Not f) h = tt
  cases_not (Or f g) h = tt
  cases_not (Imp f g) h = tt

  cases_either : (f : Formula) → Holds v f → Either v (cases_of f)
  unfolding truth
  cases_either (Or f g) h = or_cases (truth v f) (truth v g) h
  cases_either (Imp f g) h = elim (implied (truth v f) (truth v g) h) [ inl a ↦ inl (neg_holds f a) | inr b ↦ inr b ]
  cases_either (Not f) h = cases_not f h
  cases_either (Le t u) h = tt
  cases_either (Lt t u) h = tt
  cases_either (Eq t u) h = tt
  cases_either (And f g) h = tt

  pub parts_hold : (f : Formula) (t : Two) → Holds v f → parts_of f ≡ Some t → Holds v t.left × Holds v t.right
  parts_hold f t h e = let p : Both v (Some t) = subst (Both v) e (parts_both f h) in p

  pub cases_hold : (f : Formula) (t : Two) → Holds v f → cases_of f ≡ Some t → Holds v t.left ⊎ Holds v t.right
  cases_hold f t h e = let p : Either v (Some t) = subst (Either v) e (cases_either f h) in p
