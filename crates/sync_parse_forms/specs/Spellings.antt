-- TerminalKind a production spells: a relation, which does not look ahead, does not count, and has no limit.
use Rattle.std.specs.Prelude.{ℕ, zero, suc, List}
use Rattle.std.proofs.Common.{inl, inr}
use Rattle.sync_lex.specs.declared.signs.Sign.{Sign}
use Rattle.sync_parse_forms.specs.Relations.{Spelled, The, AName, ANumber, Yields, Here, Then, Either, Many, Listed}
use Rattle.sync_parse_forms.specs.Codes.{Code, leaf, a_sign, a_name, a_number, inner, nothing, after, before, both, either, row, listed, bracketed, enclosed, node}

-- in brackets; with the line of the closing one
abbrev pub Inside : {A : Type 0} → Sign → Sign → Spelled A → Spelled (A × ℕ)
Inside open_ close m = Then (The open_) (λ o. Then m (λ x. Then (The close) (λ l. Yields (x, l))))

-- what a production spells, where it is known what the leaves and what stands in its own brackets spell
abbrev pub spelling : {K : Type 0 → Type 1} {R A : Type 0} → ((X : Type 0) → K X → Spelled X) → Spelled R → Code K R A → Spelled A
spelling k r (leaf {A = X} c) = k X c
spelling k r (a_sign s) = The s
spelling k r a_name = AName
spelling k r a_number = ANumber
spelling k r inner = r
spelling k r nothing = Yields tt
spelling k r (after s c) = Then (The s) (λ l. spelling k r c)
spelling k r (before c s) = Then (spelling k r c) (λ x. Then (The s) (λ l. Yields x))
spelling k r (both c d) = Then (spelling k r c) (λ x. Then (spelling k r d) (λ y. Yields (x, y)))
spelling k r (either t c d) = Either (Then (spelling k r c) (λ x. Yields (inl x))) (Then (spelling k r d) (λ y. Yields (inr y)))
spelling k r (row t c) = Many (spelling k r c)
spelling k r (listed e c) = Listed (spelling k r c)
spelling k r (bracketed o e c) = Then (Inside o e (spelling k r c)) (λ x. Yields x.0)
spelling k r (enclosed o e c) = Inside o e (spelling k r c)
spelling k r (node make parts law c) = Then Here (λ start. Then (spelling k r c) (λ x. Yields (make start x)))

-- ---- the production that stands in its own brackets

-- with so many levels of it
unfoldable pub spelled_levels : {K : Type 0 → Type 1} {R : Type 0} → ((X : Type 0) → K X → Spelled X) → Code K R R → ℕ → Spelled R
spelled_levels k c zero = λ ts rest x. ⊥
spelled_levels k c (suc depth) = spelling k (spelled_levels k c depth) c

-- to any depth
abbrev pub spelling_nested : {K : Type 0 → Type 1} {R : Type 0} → ((X : Type 0) → K X → Spelled X) → Code K R R → Spelled R
spelling_nested k c ts rest x = (depth : ℕ) × spelled_levels k c depth ts rest x
