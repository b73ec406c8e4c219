-- The canonical form of what a production spells, and what it says: computed from the production.
use Rattle.std.specs.Prelude.{◌≡◌, ◌≤◌, ℕ, zero, suc, List, [], ◌∷◌, ◌++◌, ◌⊎◌}
use Rattle.std.proofs.Common.{inl, inr}
use Rattle.sync_lex.specs.declared.signs.Sign.{Sign}
use Rattle.sync_lex.specs.declared.signs.Sign.TheVariants as sign
use Rattle.sync_base.specs.Limits.{largest}
use Rattle.sync_parse_forms.specs.Lexemes as lexeme
use Rattle.sync_parse_forms.specs.Lexemes.{Lexeme}
use Rattle.sync_parse_forms.specs.Codes.{Code, leaf, a_sign, a_name, a_number, inner, nothing, after, before, both, either, row, listed, bracketed, enclosed, node}

-- ---- lists of lexemes

abbrev pub all_shown : {A : Type 0} → (A → List Lexeme) → List A → List Lexeme
all_shown f [] = []
all_shown f (x ∷ xs) = f x ++ all_shown f xs

-- items, each behind a comma
abbrev pub commas_shown : {A : Type 0} → (A → List Lexeme) → List A → List Lexeme
commas_shown f [] = []
commas_shown f (x ∷ xs) = lexeme.a_sign sign.Comma ∷ (f x ++ commas_shown f xs)

-- items with commas between
abbrev pub list_shown : {A : Type 0} → (A → List Lexeme) → List A → List Lexeme
list_shown f [] = []
list_shown f (x ∷ xs) = f x ++ commas_shown f xs

-- ---- of a production

-- the canonical lexemes, where it is known what is shown of the leaves and of what stands in its own brackets
abbrev pub show : {K : Type 0 → Type 1} {R A : Type 0} → ((X : Type 0) → K X → X → List Lexeme) → (R → List Lexeme) → Code K R A → A → List Lexeme
show k r (leaf {A = X} c) x = k X c x
show k r (a_sign s) x = lexeme.a_sign s ∷ []
show k r a_name x = lexeme.a_name x.name ∷ []
show k r a_number x = lexeme.a_number x ∷ []
show k r inner x = r x
show k r nothing x = []
show k r (after s c) x = lexeme.a_sign s ∷ show k r c x
show k r (before c s) x = show k r c x ++ lexeme.a_sign s ∷ []
show k r (both c d) x = show k r c x.0 ++ show k r d x.1
show k r (either t c d) (inl x) = show k r c x
show k r (either t c d) (inr x) = show k r d x
show k r (row t c) xs = all_shown (show k r c) xs
show k r (listed e c) xs = list_shown (show k r c) xs
show k r (bracketed o e c) x = lexeme.a_sign o ∷ (show k r c x ++ lexeme.a_sign e ∷ [])
show k r (enclosed o e c) x = lexeme.a_sign o ∷ (show k r c x.0 ++ lexeme.a_sign e ∷ [])
show k r (node make parts law c) x = show k r c (parts x)

-- two rows that say the same, item by item
pub data SameRows {A : Type 0} (Same : A → A → Type 0) : List A → List A → Type 0 where
  none : SameRows Same [] []
  next : {x y : A} {xs ys : List A} → Same x y → SameRows Same xs ys → SameRows Same (x ∷ xs) (y ∷ ys)

-- two values say the same: only lines may differ
abbrev pub Same : {K : Type 0 → Type 1} {R A : Type 0} → ((X : Type 0) → K X → X → X → Type 0) → (R → R → Type 0) → Code K R A → A → A → Type 0
Same k r (leaf {A = X} c) x y = k X c x y
Same k r (a_sign s) x y = Unit {0}
Same k r a_name x y = x.name ≡ y.name
Same k r a_number x y = x ≡ y
Same k r inner x y = r x y
Same k r nothing x y = Unit {0}
Same k r (after s c) x y = Same k r c x y
Same k r (before c s) x y = Same k r c x y
Same k r (both c d) x y = Same k r c x.0 y.0 × Same k r d x.1 y.1
Same k r (either t c d) (inl x) (inl y) = Same k r c x y
Same k r (either t c d) (inr x) (inr y) = Same k r d x y
Same k r (either t c d) (inl x) (inr y) = ⊥
Same k r (either t c d) (inr x) (inl y) = ⊥
Same k r (row t c) xs ys = SameRows (Same k r c) xs ys
Same k r (listed e c) xs ys = SameRows (Same k r c) xs ys
Same k r (bracketed o e c) x y = Same k r c x y
Same k r (enclosed o e c) x y = Same k r c x.0 y.0
Same k r (node make parts law c) x y = Same k r c (parts x) (parts y)

pub data Each {A : Type 0} (P : A → Type 0) : List A → Type 0 where
  no_one : Each P []
  and_next : {x : A} {xs : List A} → P x → Each P xs → Each P (x ∷ xs)

-- its numbers are such as a text can hold, and its leaves are within their limits
abbrev pub Fits : {K : Type 0 → Type 1} {R A : Type 0} → ((X : Type 0) → K X → X → Type 0) → (R → Type 0) → Code K R A → A → Type 0
Fits k r (leaf {A = X} c) x = k X c x
Fits k r (a_sign s) x = Unit {0}
Fits k r a_name x = Unit {0}
Fits k r a_number x = x ≤ largest
Fits k r inner x = r x
Fits k r nothing x = Unit {0}
Fits k r (after s c) x = Fits k r c x
Fits k r (before c s) x = Fits k r c x
Fits k r (both c d) x = Fits k r c x.0 × Fits k r d x.1
Fits k r (either t c d) (inl x) = Fits k r c x
Fits k r (either t c d) (inr x) = Fits k r d x
Fits k r (row t c) xs = Each (Fits k r c) xs
Fits k r (listed e c) xs = Each (Fits k r c) xs
Fits k r (bracketed o e c) x = Fits k r c x
Fits k r (enclosed o e c) x = Fits k r c x.0
Fits k r (node make parts law c) x = Fits k r c (parts x)

-- ---- the production that stands in its own brackets, with so many levels of it

unfoldable pub shown_levels : {K : Type 0 → Type 1} {R : Type 0} → ((X : Type 0) → K X → X → List Lexeme) → Code K R R → ℕ → R → List Lexeme
shown_levels k c zero x = []
shown_levels k c (suc n) x = show k (shown_levels k c n) c x

unfoldable pub SameLevels : {K : Type 0 → Type 1} {R : Type 0} → ((X : Type 0) → K X → X → X → Type 0) → Code K R R → ℕ → R → R → Type 0
SameLevels o c zero x y = ⊥
SameLevels o c (suc n) x y = Same o (SameLevels o c n) c x y

unfoldable pub FitsLevels : {K : Type 0 → Type 1} {R : Type 0} → ((X : Type 0) → K X → X → Type 0) → Code K R R → ℕ → R → Type 0
FitsLevels l c zero x = ⊥
FitsLevels l c (suc n) x = Fits l (FitsLevels l c n) c x

-- with as many levels as a size says
unfoldable pub show_nested : {K : Type 0 → Type 1} {R : Type 0} → ((X : Type 0) → K X → X → List Lexeme) → (R → ℕ) → Code K R R → R → List Lexeme
show_nested k size c y = shown_levels k c (suc (size y)) y

-- what holds of all that stands in its own brackets
abbrev pub Inner : {K : Type 0 → Type 1} {R A : Type 0} → (R → Type 0) → Code K R A → A → Type 0
Inner r (leaf c) x = Unit {0}
Inner r (a_sign s) x = Unit {0}
Inner r a_name x = Unit {0}
Inner r a_number x = Unit {0}
Inner r inner x = r x
Inner r nothing x = Unit {0}
Inner r (after s c) x = Inner r c x
Inner r (before c s) x = Inner r c x
Inner r (both c d) x = Inner r c x.0 × Inner r d x.1
Inner r (either t c d) (inl x) = Inner r c x
Inner r (either t c d) (inr x) = Inner r d x
Inner r (row t c) xs = Each (Inner r c) xs
Inner r (listed e c) xs = Each (Inner r c) xs
Inner r (bracketed o e c) x = Inner r c x
Inner r (enclosed o e c) x = Inner r c x.0
Inner r (node make parts law c) x = Inner r c (parts x)

-- what stands in its own brackets is smaller
abbrev pub Shrinking : {K : Type 0 → Type 1} {R : Type 0} → (R → ℕ) → Code K R R → Type 0
Shrinking {R = R} size c = (y : R) → Inner (λ z. suc (size z) ≤ size y) c y
