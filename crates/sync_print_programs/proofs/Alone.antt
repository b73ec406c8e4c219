-- Productions in whose brackets no production of the same kind stands.
use Rattle.std.proofs.Common.{◌≡◌, Bool, true, false, ◌&&◌, List, [], ◌∷◌, inl, inr, refl}
use Rattle.sync_parse_forms.specs.Codes.{Code}
use Rattle.sync_parse_forms.specs.Shows.{Each, no_one, and_next, Inner}

abbrev pub alone : {K : Type 0 → Type 1} {R A : Type 0} → Code K R A → Bool
alone (Code.leaf c) = true
alone (Code.a_sign s) = true
alone Code.a_name = true
alone Code.a_number = true
alone Code.inner = false
alone Code.nothing = true
alone (Code.after s c) = alone c
alone (Code.before c s) = alone c
alone (Code.both c d) = alone c && alone d
alone (Code.either t c d) = alone c && alone d
alone (Code.row t c) = alone c
alone (Code.listed z c) = alone c
alone (Code.bracketed o z c) = alone c
alone (Code.enclosed o z c) = alone c
alone (Code.node make parts law c) = alone c

both : (a b : Bool) → (a && b) ≡ true → (a ≡ true) × (b ≡ true)
both true b e = (refl, e)
both false b e = absurd cc

each : {A : Type 0} {P : A → Type 0} → ((x : A) → P x) → (xs : List A) → Each P xs
each p [] = no_one
each p (x ∷ xs) = and_next (p x) (each p xs)

-- so nothing has to be known of such ones
pub nothing_inner : {K : Type 0 → Type 1} {R A : Type 0} (P : R → Type 0) (c : Code K R A) → alone c ≡ true → (x : A) → Inner P c x
nothing_inner P (Code.leaf c) e x = tt
nothing_inner P (Code.a_sign s) e x = tt
nothing_inner P Code.a_name e x = tt
nothing_inner P Code.a_number e x = tt
nothing_inner P Code.inner e x = absurd cc
nothing_inner P Code.nothing e x = tt
nothing_inner P (Code.after s c) e x = nothing_inner P c e x
nothing_inner P (Code.before c s) e x = nothing_inner P c e x
nothing_inner P (Code.both c d) e x = let h = both (alone c) (alone d) e in (nothing_inner P c h.0 x.0, nothing_inner P d h.1 x.1)
nothing_inner P (Code.either t c d) e (inl x) = nothing_inner P c (both (alone c) (alone d) e).0 x
nothing_inner P (Code.either t c d) e (inr x) = nothing_inner P d (both (alone c) (alone d) e).1 x
nothing_inner P (Code.row t c) e xs = each (nothing_inner P c e) xs
nothing_inner P (Code.listed z c) e xs = each (nothing_inner P c e) xs
nothing_inner P (Code.bracketed o z c) e x = nothing_inner P c e x
nothing_inner P (Code.enclosed o z c) e x = nothing_inner P c e x.0
nothing_inner P (Code.node make parts law c) e x = nothing_inner P c e (parts x)
