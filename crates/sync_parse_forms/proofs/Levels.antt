-- How a production is read depends only on how what stands in its own brackets is read at lower levels.
use Rattle.std.proofs.Common.{◌≡◌, ℕ, zero, suc, ◌-◌, ◌<◌, ◌≤◌, Bool, true, false, ◌&&◌, if◌then◌else◌, List, [], ◌∷◌, length, Result, Ok, Err, refl, sym, ap, ◌∙◌, subst, arith, inl, inr}
use Rattle.sync_base.specs.Outcome as outcome
use Rattle.sync_lex.specs.declared.signs.Sign.{Sign}
use Rattle.sync_lex.specs.declared.terminals.Terminal.{Terminal}
use Rattle.sync_lex.specs.Terminals.{is_sign}
use Rattle.sync_parse_exprs.specs.declared.faults.Fault.TheVariants as fault
use Rattle.sync_parse_exprs.specs.Terminals.{Read, Reader, sign_at, row, listed}
use Rattle.sync_parse_forms.specs.Codes.{Code}
use Rattle.sync_parse_forms.specs.Deciding.{closed}
use Rattle.sync_parse_forms.specs.Readings.{Levelled, tests, reading, read_levels, reading_nested}

-- below this level inner forms count
abbrev pub bound : Bool → ℕ → ℕ
bound true left = suc left
bound false left = left

pub record Alike {R : Type 0} (n : ℕ) (g h : Levelled R) : Type 0 where
  pub at : (l : ℕ) → l < n → g l ≡ h l

lower : {R : Type 0} {n : ℕ} {g h : Levelled R} (m : ℕ) → m ≤ n → Alike n g h → Alike m g h
lower m less a = record { at = λ l room. a.at l (omega (arith, less, room)) }

no_sign : {B : Type 0} (s : Sign) (f g : ℕ × List Terminal → Read B) (ts : List Terminal) → outcome.◌>>=◌ (sign_at 0 s ts) f ≡ outcome.◌>>=◌ (sign_at 0 s ts) g
unfolding sign_at
no_sign s f g [] = refl
no_sign {B = B} s f g (w ∷ ws) = go (is_sign w s)
  where
    go : (c : Bool) → outcome.◌>>=◌ {B = B × List Terminal} (if c then Err (fault.Deep w.line) else Err (fault.Wanted w.line)) f
        ≡ outcome.◌>>=◌ (if c then Err (fault.Deep w.line) else Err (fault.Wanted w.line)) g
    go true = refl
    go false = refl

abbrev tail_read : {A : Type 0} → Sign → ℕ → Reader A → ℕ × List Terminal → Read (A × ℕ)
tail_read e l m o = outcome.◌>>=◌ (m o.1) (λ y. outcome.◌>>=◌ (sign_at l e y.1) (λ z. Ok ((y.0, z.0), z.1)))

abbrev no_line : {A : Type 0} → (A × ℕ) × List Terminal → Read A
no_line v = Ok (v.0.0, v.1)

bracket_case : {K : Type 0 → Type 1} {R A : Type 0} (j : (X : Type 0) → K X → Levelled X) (g h : Levelled R) (o e : Sign) (c : Code K R A)
    → (left : ℕ) → (0 < left → reading j g c (left - 1) ≡ reading j h c (left - 1)) → reading j g (Code.bracketed o e c) left ≡ reading j h (Code.bracketed o e c) left
bracket_case {A = A} j g h o e c zero again = λ i ts. outcome.◌>>=◌ (no_sign {B = A × ℕ} o (tail_read e (0 - 1) (reading j g c (0 - 1))) (tail_read e (0 - 1) (reading j h c (0 - 1))) ts i) no_line
bracket_case {A = A} j g h o e c (suc below) again =
    let same = again (omega arith) in
    λ i ts. outcome.◌>>=◌ (outcome.◌>>=◌ {B = (A × ℕ) × List Terminal} (sign_at (suc below) o ts) (tail_read e (suc below - 1) (same i))) no_line

inner_bound : (open_ : Bool) (left : ℕ) → 0 < left → suc (left - 1) ≤ bound open_ left
inner_bound true left room = omega arith
inner_bound false left room = omega arith

enclosed_case : {K : Type 0 → Type 1} {R A : Type 0} (j : (X : Type 0) → K X → Levelled X) (g h : Levelled R) (o e : Sign) (c : Code K R A)
    → (left : ℕ) → (0 < left → reading j g c (left - 1) ≡ reading j h c (left - 1)) → reading j g (Code.enclosed o e c) left ≡ reading j h (Code.enclosed o e c) left
enclosed_case {A = A} j g h o e c zero again = λ i ts. no_sign {B = A × ℕ} o (tail_read e (0 - 1) (reading j g c (0 - 1))) (tail_read e (0 - 1) (reading j h c (0 - 1))) ts i
enclosed_case {A = A} j g h o e c (suc below) again =
    let same = again (omega arith) in
    λ i ts. outcome.◌>>=◌ {B = (A × ℕ) × List Terminal} (sign_at (suc below) o ts) (tail_read e (suc below - 1) (same i))

parts : (a b : Bool) → (a && b) ≡ true → (a ≡ true) × (b ≡ true)
parts true b e = (refl, e)
parts false b e = absurd cc

pub reads_alike : {K : Type 0 → Type 1} {R A : Type 0} (j : (X : Type 0) → K X → Levelled X) (g h : Levelled R) (open_ : Bool) (c : Code K R A) → closed open_ c ≡ true → (left : ℕ) → Alike (bound open_ left) g h → reading j g c left ≡ reading j h c left
reads_alike j g h open_ (Code.leaf c) k left a = refl
reads_alike j g h open_ (Code.a_sign s) k left a = refl
reads_alike j g h open_ Code.a_name k left a = refl
reads_alike j g h open_ Code.a_number k left a = refl
reads_alike j g h true Code.inner k left a = a.at left (omega arith)
reads_alike j g h false Code.inner k left a = absurd cc
reads_alike j g h open_ Code.nothing k left a = refl
reads_alike j g h open_ (Code.after s c) k left a = let p = reads_alike j g h open_ c k left a in λ i ts. outcome.◌>>=◌ (sign_at left s ts) (λ x. p i x.1)
reads_alike j g h open_ (Code.before c s) k left a = let p = reads_alike j g h open_ c k left a in λ i ts. outcome.◌>>=◌ (p i ts) (λ x. outcome.◌>>=◌ (sign_at left s x.1) (λ y. Ok (x.0, y.1)))
reads_alike j g h open_ (Code.both c d) k left a =
    let l = parts (closed open_ c) (closed open_ d) k in
    let p = reads_alike j g h open_ c l.0 left a in
    let q = reads_alike j g h open_ d l.1 left a in
    λ i ts. outcome.◌>>=◌ (p i ts) (λ x. outcome.◌>>=◌ (q i x.1) (λ y. Ok ((x.0, y.0), y.1)))
reads_alike j g h open_ (Code.either t c d) k left a =
    let l = parts (closed open_ c) (closed open_ d) k in
    let p = reads_alike j g h open_ c l.0 left a in
    let q = reads_alike j g h open_ d l.1 left a in
    λ i ts. if tests t ts then outcome.◌>>=◌ (p i ts) (λ x. Ok (inl x.0, x.1)) else outcome.◌>>=◌ (q i ts) (λ x. Ok (inr x.0, x.1))
reads_alike j g h open_ (Code.row t c) k left a = let p = reads_alike j g h open_ c k left a in λ i ts. row (tests t) (p i) (length ts) [] ts
reads_alike j g h open_ (Code.listed z c) k left a = let p = reads_alike j g h open_ c k left a in λ i ts. listed (p i) z ts
reads_alike j g h open_ (Code.bracketed o e c) k left a = bracket_case j g h o e c left (λ room. reads_alike j g h true c k (left - 1) (lower (suc (left - 1)) (inner_bound open_ left room) a))
reads_alike j g h open_ (Code.enclosed o e c) k left a = enclosed_case j g h o e c left (λ room. reads_alike j g h true c k (left - 1) (lower (suc (left - 1)) (inner_bound open_ left room) a))
reads_alike j g h open_ (Code.node make of law c) k left a = let p = reads_alike j g h open_ c k left a in λ i ts. outcome.◌>>=◌ (p i ts) (λ x. Ok (make ts x.0, x.1))

-- more levels than brackets can be open change nothing
enough : {K : Type 0 → Type 1} {R : Type 0} (j : (X : Type 0) → K X → Levelled X) (c : Code K R R) → closed false c ≡ true → (n m left : ℕ) → left < n → left < m → read_levels j c n left ≡ read_levels j c m left
unfolding read_levels
enough j c k zero m left p q = absurd (omega (arith, p))
enough j c k (suc n) zero left p q = absurd (omega (arith, q))
enough j c k (suc n) (suc m) left p q = reads_alike j (read_levels j c n) (read_levels j c m) false c k left (record { at = λ l room. enough j c k n m l (omega (arith, p, room)) (omega (arith, q, room)) })

-- the recursion, as it is read
pub nested_reads : {K : Type 0 → Type 1} {R : Type 0} (j : (X : Type 0) → K X → Levelled X) (c : Code K R R) → closed false c ≡ true → (left : ℕ) → reading_nested j c left ≡ reading j (reading_nested j c) c left
unfolding read_levels
nested_reads j c k left = reads_alike j (read_levels j c left) (reading_nested j c) false c k left (record { at = λ l room. enough j c k left (suc l) l room (omega arith) })
