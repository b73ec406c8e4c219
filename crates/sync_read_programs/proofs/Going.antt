-- Loops that make one thing of each element, and change what is known.
use Rattle.std.proofs.Common.{◌≡◌, ℕ, ◌+◌, ◌<◌, List, [], ◌∷◌, ◌++◌, length, map, drop, get_or, Result, Ok, sym, ap, ◌∙◌}
use Rattle.std.proofs.lemmas.List.{map-append}
use Rattle.sync_base.specs.declared.stops.Refusal.{Refusal}
use Rattle.sync_base.specs.Outcome.{◌>>=◌}
use Rattle.sync_read.proofs.Going.{front}

behind : {A B E : Type 0} (r : Result A E) (k : A → Result B E) (a : A) → r ≡ Ok a → (r >>= k) ≡ k a
behind r k a is = ap (λ x. x >>= k) is

seen : {X Y : Type 0} (view : X → Y) (xs ys : List X) (x : X) → ys ≡ xs ++ x ∷ [] → map view ys ≡ map view xs ++ view x ∷ []
seen view xs ys x is = ap (map view) is ∙ map-append view xs (x ∷ [])

pub go : {X Y Raw : Type 0} (from : List Y → List Raw → Result (List Y) Refusal) (make : Raw → Result Y Refusal)
    → ((held : List Y) (o : Raw) (rest : List Raw) → from held (o ∷ rest) ≡ (make o >>= (λ y. from (held ++ y ∷ []) rest)))
    → (view : X → Y) (raw : List Raw) (i : ℕ) (o : Raw) (held more : List X) (x : X) (want : Result (List Y) Refusal)
    → i < length raw → o ≡ get_or raw i o → make o ≡ Ok (view x) → more ≡ held ++ x ∷ []
    → from (map view held) (drop i raw) ≡ want → from (map view more) (drop (i + 1) raw) ≡ want
go from make opens view raw i o held more x want below item made is so_far =
    ap (λ ys. from ys (drop (i + 1) raw)) (seen view held more x is)
    ∙ sym (opens (map view held) o (drop (i + 1) raw) ∙ behind (make o) (λ y. from (map view held ++ y ∷ []) (drop (i + 1) raw)) (view x) made)
    ∙ ap (from (map view held)) (sym (front raw i o below item))
    ∙ so_far

pub go_on : {X Y Raw S R : Type 0} (from : List Y → S → List Raw → Result R Refusal) (make : S → Raw → Result (Y × S) Refusal)
    → ((held : List Y) (s : S) (o : Raw) (rest : List Raw) → from held s (o ∷ rest) ≡ (make s o >>= (λ y. from (held ++ y.0 ∷ []) y.1 rest)))
    → (view : X → Y) (s next : S) (raw : List Raw) (i : ℕ) (o : Raw) (held more : List X) (x : X) (want : Result R Refusal)
    → i < length raw → o ≡ get_or raw i o → make s o ≡ Ok (view x, next) → more ≡ held ++ x ∷ []
    → from (map view held) s (drop i raw) ≡ want → from (map view more) next (drop (i + 1) raw) ≡ want
go_on from make opens view s next raw i o held more x want below item made is so_far =
    ap (λ ys. from ys next (drop (i + 1) raw)) (seen view held more x is)
    ∙ sym (opens (map view held) s o (drop (i + 1) raw) ∙ behind (make s o) (λ y. from (map view held ++ y.0 ∷ []) y.1 (drop (i + 1) raw)) (view x, next) made)
    ∙ ap (from (map view held) s) (sym (front raw i o below item))
    ∙ so_far
