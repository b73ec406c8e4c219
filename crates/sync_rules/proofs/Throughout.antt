-- Whether all elements of a list pass, from one on.
use Rattle.std.proofs.Common.{◌≡◌, ℕ, ◌+◌, ◌<◌, ◌≤◌, Bool, true, false, ◌&&◌, List, map, length, get_or, drop, sym, ap, ◌∙◌}
use Rattle.std.specs.List.{list_all}
use Rattle.std.proofs.lemmas.List.{at_drop_more, at_drop_all}

module _ {A B : Type 0} (p : B → Bool) (view : A → B) (xs : List A) (i : ℕ) (all : Bool) (inv : list_all p (map view (drop i xs)) ≡ all) where
  here : (d : A) → i < length xs → list_all p (map view (drop i xs)) ≡ (p (view (get_or xs i d)) && list_all p (map view (drop (i + 1) xs)))
  here d h = at_drop_more (λ ys. list_all p (map view ys)) xs i d h

  pub all-more : (d : A) → i < length xs → p (view (get_or xs i d)) ≡ true → list_all p (map view (drop (i + 1) xs)) ≡ all
  all-more d h passes = sym (here d h ∙ ap (λ b. b && list_all p (map view (drop (i + 1) xs))) passes) ∙ inv

  pub all-not : (d : A) → i < length xs → p (view (get_or xs i d)) ≡ false → false ≡ all
  all-not d h fails = sym (here d h ∙ ap (λ b. b && list_all p (map view (drop (i + 1) xs))) fails) ∙ inv

  pub all-end : length xs ≤ i → true ≡ all
  all-end h = sym (at_drop_all (λ ys. list_all p (map view ys)) xs i h) ∙ inv
