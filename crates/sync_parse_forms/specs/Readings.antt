-- How a production is read. A place has a level: 65 less the number of brackets that are open before it.
use Rattle.std.specs.Prelude.{ℕ, zero, suc, ◌-◌, Bool, true, false, ◌||◌, List, [], ◌∷◌, length, Result, Ok, Err, if◌then◌else◌}
use Rattle.std.proofs.Common.{inl, inr}
use Rattle.sync_base.specs.Outcome as outcome
use Rattle.sync_lex.specs.declared.signs.Sign.{Sign}
use Rattle.sync_lex.specs.declared.terminals.TerminalKind.{TerminalKind}
use Rattle.sync_lex.specs.declared.terminals.TerminalKind.TheVariants as what
use Rattle.sync_lex.specs.declared.terminals.Terminal.{Terminal}
use Rattle.sync_parse_exprs.specs.declared.faults.Fault.TheVariants.{Ended}
use Rattle.sync_parse_exprs.specs.Terminals as terminals
use Rattle.sync_parse_exprs.specs.Terminals.{Reader, begins_with, goes_on, sign_at, name_at, number_at}
use Rattle.sync_parse_forms.specs.Codes.{Test, at_sign, at_signs, at_name, at_number, to_brace, Code, leaf, a_sign, a_name, a_number, inner, nothing, after, before, both, either, row, listed, bracketed, enclosed, node}

-- what is read at a level
abbrev pub Levelled : Type 0 → Type 0
Levelled A = ℕ → Reader A

-- ---- tests

abbrev pub is_name : TerminalKind → Bool
is_name (what.Name n strategy) = true
is_name (what.Number n) = false
is_name (what.Sign s) = false

abbrev pub is_number : TerminalKind → Bool
is_number (what.Name n strategy) = false
is_number (what.Number n) = true
is_number (what.Sign s) = false

abbrev pub begins_name : List Terminal → Bool
begins_name [] = false
begins_name (w ∷ ws) = is_name w.what

abbrev pub begins_number : List Terminal → Bool
begins_number [] = false
begins_number (w ∷ ws) = is_number w.what

-- whether one of these signs stands here
abbrev pub begins_one : List Sign → List Terminal → Bool
begins_one [] ts = false
begins_one (s ∷ ss) ts = begins_with s ts || begins_one ss ts

abbrev pub tests : Test → List Terminal → Bool
tests (at_sign s) = begins_with s
tests (at_signs ss) = begins_one ss
tests at_name = begins_name
tests at_number = begins_number
tests to_brace = goes_on

-- ---- putting together

abbrev pub gives : {A : Type 0} → A → Levelled A
gives x left ts = Ok (x, ts)

-- one, and behind it another
abbrev pub followed : {A B : Type 0} → Levelled A → (A → Levelled B) → Levelled B
followed m g left ts = outcome.◌>>=◌ (m left ts) (λ x. g x.0 left x.1)

abbrev pub choice : {A : Type 0} → (List Terminal → Bool) → Levelled A → Levelled A → Levelled A
choice begins m n left ts = if begins ts then m left ts else n left ts

-- with the terminals from its beginning on
abbrev pub here : Levelled (List Terminal)
here left ts = Ok (ts, ts)

-- in brackets, one level deeper; with the line of the closing one
abbrev pub inside : {A : Type 0} → Sign → Sign → Levelled A → Levelled (A × ℕ)
inside open_ close m left ts = outcome.◌>>=◌ (sign_at left open_ ts) (λ o. outcome.◌>>=◌ (m (left - 1) o.1) (λ x. outcome.◌>>=◌ (sign_at (left - 1) close x.1) (λ e. Ok ((x.0, e.0), e.1))))

abbrev pub a_row : {A : Type 0} → (List Terminal → Bool) → Levelled A → Levelled (List A)
a_row begins m left ts = terminals.row begins (m left) (length ts) [] ts

abbrev pub a_list : {A : Type 0} → Sign → Levelled A → Levelled (List A)
a_list close m left ts = terminals.listed (m left) close ts

-- how a production is read, where it is known how the leaves and what stands in its own brackets are read
abbrev pub reading : {K : Type 0 → Type 1} {R A : Type 0} → ((X : Type 0) → K X → Levelled X) → Levelled R → Code K R A → Levelled A
reading k r (leaf {A = X} c) = k X c
reading k r (a_sign s) = λ left. sign_at left s
reading k r a_name = name_at
reading k r a_number = number_at
reading k r inner = r
reading k r nothing = gives tt
reading k r (after s c) = followed (λ left. sign_at left s) (λ l. reading k r c)
reading k r (before c s) = followed (reading k r c) (λ x. followed (λ left. sign_at left s) (λ l. gives x))
reading k r (both c d) = followed (reading k r c) (λ x. followed (reading k r d) (λ y. gives (x, y)))
reading k r (either t c d) = choice (tests t) (followed (reading k r c) (λ x. gives (inl x))) (followed (reading k r d) (λ y. gives (inr y)))
reading k r (row t c) = a_row (tests t) (reading k r c)
reading k r (listed e c) = a_list e (reading k r c)
reading k r (bracketed o e c) = followed (inside o e (reading k r c)) (λ x. gives x.0)
reading k r (enclosed o e c) = inside o e (reading k r c)
reading k r (node make parts law c) = followed here (λ start. followed (reading k r c) (λ x. gives (make start x)))

-- ---- the production that stands in its own brackets

-- with so many levels of it
unfoldable pub read_levels : {K : Type 0 → Type 1} {R : Type 0} → ((X : Type 0) → K X → Levelled X) → Code K R R → ℕ → Levelled R
read_levels k c zero = λ left ts. Err Ended
read_levels k c (suc depth) = reading k (read_levels k c depth) c

-- one level for each bracket that may still be open
abbrev pub reading_nested : {K : Type 0 → Type 1} {R : Type 0} → ((X : Type 0) → K X → Levelled X) → Code K R R → Levelled R
reading_nested k c left = read_levels k c (suc left) left
