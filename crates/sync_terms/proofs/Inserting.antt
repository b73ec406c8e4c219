-- What inserting different keys in turn gives.
use Rattle.std.proofs.Common.{◌≡◌, ℕ, suc, ◌<◌, Bool, false, List, [], ◌∷◌, ◌++◌, length, get_or, refl, sym, ap, ◌∙◌, subst, cond, arith}
use Rattle.std.proofs.lemmas.List.{length-append, append-nil, append_assoc, get_or_append_left, get_or_at}
use Rattle.std.proofs.lemmas.Map.Keys.{apart_from_distinct}
use Rattle.std.specs.Cmp.{IsEquivalence}
use Rattle.std.specs.List.{IsDistinct, list_any}
use Rattle.indexmap.specs.IndexSet.{insert_all}

module _ {K : Type 0} (eq : K → K → Bool) (laws : IsEquivalence eq) where
  -- no earlier key is equal to a later one
  none-before : (ks : List K) (x : K) (xs : List K) → ((i : ℕ) → i < length ks → eq (get_or ks i x) x ≡ false) → list_any (eq x) ks ≡ false
  none-before [] x xs h = refl
  none-before (k ∷ ks) x xs h = grind (arith, laws.symm x k, h 0 (omega arith), none-before ks x xs (λ i l. h (suc i) (omega arith)))

  pub insert_all-distinct : (ks xs : List K) → IsDistinct eq (ks ++ xs) → insert_all eq ks xs ≡ ks ++ xs
  insert_all-distinct ks [] h = sym (append-nil ks)
  insert_all-distinct ks (x ∷ xs) h =
      let before : list_any (eq x) ks ≡ false = none-before ks x xs (λ i l. subst (λ y. eq y x ≡ false) (get_or_append_left ks (x ∷ xs) x i l) (subst (λ y. eq (get_or (ks ++ x ∷ xs) i x) y ≡ false) (get_or_at ks x xs x (length ks) refl) (apart_from_distinct eq (ks ++ x ∷ xs) i (length ks) x h l (omega (arith, length-append ks (x ∷ xs)))))) in
      let same : ks ++ x ∷ [] ++ xs ≡ ks ++ x ∷ xs = append_assoc ks (x ∷ []) xs in
      ap (λ b. insert_all eq (cond b ks (ks ++ x ∷ [])) xs) before ∙ insert_all-distinct (ks ++ x ∷ []) xs (subst (IsDistinct eq) (sym same) h) ∙ same
