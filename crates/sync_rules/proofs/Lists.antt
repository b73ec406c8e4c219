-- Tests of a list that is made from another, and lists that grow at their end.
use Rattle.std.proofs.Common.{◌≡◌, Bool, true, false, ◌||◌, List, [], ◌∷◌, ◌++◌, map, refl, ap, ◌∙◌, append_assoc, if◌then◌else◌}
use Rattle.std.specs.List.{list_any}

pub any-map : {A B : Type 0} (p : B → Bool) (f : A → B) (xs : List A) → list_any p (map f xs) ≡ list_any (λ x. p (f x)) xs
any-map p f [] = refl
any-map p f (x ∷ xs) = ap (λ b. p (f x) || b) (any-map p f xs)

-- x where the test is true
abbrev pub only : {X : Type 0} → Bool → X → List X
only true x = x ∷ []
only false x = []

pub if-only : {X : Type 0} (b : Bool) (x : X) (rest : List X) → (if b then x ∷ rest else rest) ≡ only b x ++ rest
if-only true x rest = refl
if-only false x rest = refl

pub append-nothing : {X : Type 0} (xs : List X) → xs ++ [] ≡ xs
append-nothing [] = refl
append-nothing (x ∷ xs) = ap (λ ys. x ∷ ys) (append-nothing xs)

-- what was to come has come
pub joined : {X : Type 0} (done more here rest all : List X) → done ++ (here ++ rest) ≡ all → more ≡ done ++ here → more ++ rest ≡ all
joined done more here rest all h e = ap (λ ys. ys ++ rest) e ∙ append_assoc done here rest ∙ h
