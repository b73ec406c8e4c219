-- The largest of numbers, one after another.
use Rattle.std.proofs.Common.{◌≡◌, ℕ, zero, suc, ◌+◌, ◌<◌, ◌≤◌, List, [], ◌∷◌, length, map, drop, max, get_or, refl, sym, ap, ◌∙◌, drop-cons, add-one, arith}
use Rattle.std.proofs.Math.ListN.{drop_of_length-le}
use Rattle.sync_thread_places.specs.Places.{most}

-- what is left has the largest together with what was seen
abbrev pub SeenMost : {A : Type 0} → (A → ℕ) → ℕ → ℕ → List A → Type 0
SeenMost f n i xs = max n (most (map f (drop i xs))) ≡ most (map f xs)

pub seen_more : {A : Type 0} (f : A → ℕ) (n k i : ℕ) (xs : List A) (x : A) → i < length xs → x ≡ get_or xs i x → k ≡ f x
    → SeenMost f n i xs → SeenMost f (max n k) (i + 1) xs
seen_more f n k i xs x within is of seen =
    let front : drop i xs ≡ x ∷ drop (suc i) xs = drop-cons xs i x within ∙ ap (λ y. y ∷ drop (suc i) xs) (sym is) in
    let both : max n (max (f x) (most (map f (drop (suc i) xs)))) ≡ most (map f xs) = ap (λ ys. max n (most (map f ys))) (sym front) ∙ seen in
    let next : most (map f (drop (i + 1) xs)) ≡ most (map f (drop (suc i) xs)) = ap (λ j. most (map f (drop j xs))) (add-one i) in
    omega (arith, both, next, of)

pub seen_all : {A : Type 0} (f : A → ℕ) (n i : ℕ) (xs : List A) → length xs ≤ i → SeenMost f n i xs → n ≡ most (map f xs)
seen_all f n i xs past seen =
    let none : most (map f (drop i xs)) ≡ 0 = ap (λ ys. most (map f ys)) (drop_of_length-le xs past) in
    omega (arith, seen, none)
