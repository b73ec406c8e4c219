-- A production in its own brackets: what is shown of it to so many levels, and what that spells.
use Rattle.std.proofs.Common.{◌≡◌, ℕ, zero, suc, ◌<◌, ◌≤◌, List, [], ◌∷◌, ◌++◌, inl, inr, refl, ap, arith}
use Rattle.sync_lex.specs.declared.signs.Sign.{Sign}
use Rattle.sync_lex.specs.declared.signs.Sign.TheVariants as sign
use Rattle.sync_lex.specs.declared.terminals.Terminal.{Terminal}
use Rattle.sync_parse_forms.specs.Lexemes as lexeme
use Rattle.sync_parse_forms.specs.Lexemes.{Lexeme, Says}
use Rattle.sync_parse_forms.specs.Relations.{Spelled}
use Rattle.sync_parse_forms.specs.Codes.{Code}
use Rattle.sync_parse_forms.specs.Spellings.{spelled_levels}
use Rattle.sync_parse_forms.specs.Shows.{show, all_shown, commas_shown, list_shown, Each, no_one, and_next, shown_levels, SameLevels, FitsLevels, show_nested, Inner, Shrinking}
use Rattle.sync_parse_forms.proofs.Respelled.{Respelled, LeafShown, shown}

-- what is shown to so many levels spells a tree of so many levels that says the same
pub shows_spell : {K : Type 0 → Type 1} {R : Type 0} (j : (X : Type 0) → K X → Spelled X) (k : (X : Type 0) → K X → X → List Lexeme) (o : (X : Type 0) → K X → X → X → Type 0) (l : (X : Type 0) → K X → X → Type 0) → LeafShown K j k o l
    → (c : Code K R R) (n : ℕ) (y : R) → FitsLevels l c n y → (ts rest : List Terminal) → Says (shown_levels k c n y) ts rest → Respelled (spelled_levels j c n) (SameLevels o c n) y ts rest
unfolding shown_levels SameLevels FitsLevels spelled_levels
shows_spell j k o l w c zero y f ts rest h = absurd f
shows_spell j k o l w c (suc n) y f ts rest h = shown j k o l w (spelled_levels j c n) (shown_levels k c n) (SameLevels o c n) (FitsLevels l c n) (shows_spell j k o l w c n) c y f ts rest h

rows_same : {A : Type 0} {P : A → Type 0} (f g : A → List Lexeme) → ((x : A) → P x → f x ≡ g x) → (xs : List A) → Each P xs → all_shown f xs ≡ all_shown g xs
rows_same f g e [] no_one = refl
rows_same f g e (x ∷ xs) (and_next p ps) = λ i. e x p i ++ rows_same f g e xs ps i

commas_same : {A : Type 0} {P : A → Type 0} (f g : A → List Lexeme) → ((x : A) → P x → f x ≡ g x) → (xs : List A) → Each P xs → commas_shown f xs ≡ commas_shown g xs
commas_same f g e [] no_one = refl
commas_same f g e (x ∷ xs) (and_next p ps) = λ i. lexeme.a_sign sign.Comma ∷ (e x p i ++ commas_same f g e xs ps i)

lists_same : {A : Type 0} {P : A → Type 0} (f g : A → List Lexeme) → ((x : A) → P x → f x ≡ g x) → (xs : List A) → Each P xs → list_shown f xs ≡ list_shown g xs
lists_same f g e [] no_one = refl
lists_same f g e (x ∷ xs) (and_next p ps) = λ i. e x p i ++ commas_same f g e xs ps i

inner_same : {K : Type 0 → Type 1} {R A : Type 0} {P : R → Type 0} (k : (X : Type 0) → K X → X → List Lexeme) (r z : R → List Lexeme) → ((y : R) → P y → r y ≡ z y) → (c : Code K R A) (x : A) → Inner P c x → show k r c x ≡ show k z c x
inner_same k r z e (Code.leaf c) x p = refl
inner_same k r z e (Code.a_sign s) x p = refl
inner_same k r z e Code.a_name x p = refl
inner_same k r z e Code.a_number x p = refl
inner_same k r z e Code.inner x p = e x p
inner_same k r z e Code.nothing x p = refl
inner_same k r z e (Code.after s c) x p = ap (λ v. lexeme.a_sign s ∷ v) (inner_same k r z e c x p)
inner_same k r z e (Code.before c s) x p = ap (λ v. v ++ lexeme.a_sign s ∷ []) (inner_same k r z e c x p)
inner_same k r z e (Code.both c d) x p = λ i. inner_same k r z e c x.0 p.0 i ++ inner_same k r z e d x.1 p.1 i
inner_same k r z e (Code.either t c d) (inl x) p = inner_same k r z e c x p
inner_same k r z e (Code.either t c d) (inr x) p = inner_same k r z e d x p
inner_same k r z e (Code.row t c) xs p = rows_same (show k r c) (show k z c) (inner_same k r z e c) xs p
inner_same k r z e (Code.listed q c) xs p = lists_same (show k r c) (show k z c) (inner_same k r z e c) xs p
inner_same k r z e (Code.bracketed o q c) x p = ap (λ v. lexeme.a_sign o ∷ (v ++ lexeme.a_sign q ∷ [])) (inner_same k r z e c x p)
inner_same k r z e (Code.enclosed o q c) x p = ap (λ v. lexeme.a_sign o ∷ (v ++ lexeme.a_sign q ∷ [])) (inner_same k r z e c x.0 p)
inner_same k r z e (Code.node make parts law c) x p = inner_same k r z e c (parts x) p

enough_shown : {K : Type 0 → Type 1} {R : Type 0} (k : (X : Type 0) → K X → X → List Lexeme) (size : R → ℕ) (c : Code K R R) → Shrinking size c → (n m : ℕ) (y : R) → size y < n → size y < m → shown_levels k c n y ≡ shown_levels k c m y
unfolding shown_levels
enough_shown k size c small zero m y p q = absurd (omega (arith, p))
enough_shown k size c small (suc n) zero y p q = absurd (omega (arith, q))
enough_shown k size c small (suc n) (suc m) y p q = inner_same k (shown_levels k c n) (shown_levels k c m) (λ z less. enough_shown k size c small n m z (omega (arith, p, less)) (omega (arith, q, less))) c y (small y)

pub show_unrolled : {K : Type 0 → Type 1} {R : Type 0} (k : (X : Type 0) → K X → X → List Lexeme) (size : R → ℕ) (c : Code K R R) → Shrinking size c → (y : R) → show_nested k size c y ≡ show k (show_nested k size c) c y
unfolding shown_levels show_nested
show_unrolled k size c small y = inner_same k (shown_levels k c (size y)) (show_nested k size c) (λ z less. enough_shown k size c small (size y) (suc (size z)) z less (omega arith)) c y (small y)
