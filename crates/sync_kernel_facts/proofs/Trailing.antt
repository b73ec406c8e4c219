-- The first places of literals, while places come and go.
use Rattle.std.proofs.Common.{◌≡◌, ◌≢◌, ℕ, suc, ◌+◌, ◌<◌, Bool, true, false, cond, ◌||◌, if◌then◌else◌, List, [], ◌∷◌, ◌++◌, length, Option, Some, None, refl, sym, ap, ◌∙◌, arith}
use Rattle.std.specs.Prelude.{is_some, nat_eq}
use Rattle.std.specs.Bool.{beq}
use Rattle.std.proofs.lemmas.Bool.{and_parts, and_from, eqb-true, eq-eqb}
use Rattle.sync_base.specs.Outcome.{first}
use Rattle.sync_kernel_facts.specs.declared.literals.Literal.{Literal}
use Rattle.sync_kernel_facts.specs.Literals.{same_literal}
use Rattle.sync_kernel_facts.specs.Trails.{is_entry, has_entry, first_place}
use Rattle.sync_kernel_facts.proofs.Stacking.{first_if}

abbrev Entries : Type 0
Entries = List (Option Literal)

-- ---- one place more

abbrev last : ℕ → Literal → Option Literal → Option ℕ
last n l e = if is_entry l e then Some n else None

place_last : (n : ℕ) (l : Literal) (es : Entries) (e : Option Literal) → first_place n l (es ++ e ∷ []) ≡ first (first_place n l es) (last (n + length es) l e)
place_last n l [] e = ap (λ (m : ℕ). last m l e) (omega arith)
place_last n l (x ∷ xs) e =
    ap (λ (o : Option ℕ). if is_entry l x then Some n else o) (place_last (suc n) l xs e ∙ ap (λ (m : ℕ). first (first_place (suc n) l xs) (last m l e)) (omega arith))
    ∙ sym (first_if (is_entry l x) n (first_place (suc n) l xs) (last (n + suc (length xs)) l e))

pub has_place : (n : ℕ) (l : Literal) (es : Entries) → is_some (first_place n l es) ≡ has_entry es l
has_place n l [] = refl
has_place n l (x ∷ xs) = by (is_entry l x) (has_place (suc n) l xs)
  where
    by : (b : Bool) → is_some (first_place (suc n) l xs) ≡ has_entry xs l → is_some (if b then Some n else first_place (suc n) l xs) ≡ (b || has_entry xs l)
    by true h = refl
    by false h = h

place_below : (n : ℕ) (l : Literal) (es : Entries) (p : ℕ) → first_place n l es ≡ Some p → p < n + length es
place_below n l [] p e = absurd (cc)
place_below n l (x ∷ xs) p e = by (is_entry l x) (place_below (suc n) l xs p) e
  where
    by : (b : Bool) → (first_place (suc n) l xs ≡ Some p → p < suc n + length xs) → (if b then Some n else first_place (suc n) l xs) ≡ Some p → p < n + suc (length xs)
    by true below e = let same : n ≡ p = cc in omega arith
    by false below e = let k = below e in omega arith

-- ---- the literal of the last place

same_sign : (a b : Bool) → beq a b ≡ true → a ≡ b
same_sign true true e = refl
same_sign false false e = refl
same_sign true false e = absurd (cc)
same_sign false true e = absurd (cc)

pub literal_is : (a b : Literal) → same_literal a b ≡ true → a ≡ b
literal_is a b e =
    let p = and_parts (nat_eq a.form.0 b.form.0) (beq a.negated b.negated) e in
    ap (λ (n : ℕ). record { form = record { 0 = n }; negated = a.negated }) (eqb-true a.form.0 b.form.0 p.0) ∙ ap (λ (x : Bool). record { form = b.form; negated = x }) (same_sign a.negated b.negated p.1)

literal_same : (l : Literal) → same_literal l l ≡ true
literal_same l = and_from (nat_eq l.form.0 l.form.0) (beq l.negated l.negated) (eq-eqb l.form.0 l.form.0 refl) (by l.negated)
  where
    by : (b : Bool) → beq b b ≡ true
    by true = refl
    by false = refl

same_place : (l q : Literal) (es : Entries) → same_literal l q ≡ true → first_place 0 q es ≡ first_place 0 l es
same_place l q es e = ap (λ (k : Literal). first_place 0 k es) (sym (literal_is l q e))

first_none : {A : Type 0} (o : Option A) → first o None ≡ o
first_none (Some x) = refl
first_none None = refl

first_found : {A : Type 0} (o p : Option A) → is_some o ≡ true → first o p ≡ o
first_found (Some x) p h = refl
first_found None p h = absurd (cc)

none_found : {A : Type 0} (o : Option A) → is_some o ≡ false → o ≡ None
none_found (Some x) h = absurd (cc)
none_found None h = refl

module _ (es : Entries) (l : Literal) (old new : Literal → Option ℕ) where
  -- a literal that has no place yet
  pub places_new : ((q : Literal) → old q ≡ first_place 0 q es) → is_some (old l) ≡ false → ((q : Literal) → new q ≡ cond (same_literal l q) (Some (length es)) (old q)) → (q : Literal) → new q ≡ first_place 0 q (es ++ Some l ∷ [])
  places_new was absent is q = is q ∙ by (same_literal l q) refl ∙ sym (place_last 0 q es (Some l))
    where
      by : (b : Bool) → same_literal l q ≡ b → cond b (Some (length es)) (old q) ≡ first (first_place 0 q es) (if b then Some (0 + length es) else None)
      by true e =
          ap Some (let z : length es ≡ 0 + length es = omega arith in z)
          ∙ sym (ap (λ (o : Option ℕ). first o (Some (0 + length es))) (same_place l q es e ∙ sym (was l) ∙ none_found (old l) absent))
      by false e = was q ∙ sym (first_none (first_place 0 q es))

  -- one that has a place before the last
  places_kept : is_some (first_place 0 l es) ≡ true → (q : Literal) → first_place 0 q (es ++ Some l ∷ []) ≡ first_place 0 q es
  places_kept here q = place_last 0 q es (Some l) ∙ by (same_literal l q) refl
    where
      by : (b : Bool) → same_literal l q ≡ b → first (first_place 0 q es) (if b then Some (0 + length es) else None) ≡ first_place 0 q es
      by true e = first_found (first_place 0 q es) (Some (0 + length es)) (ap is_some (same_place l q es e) ∙ here)
      by false e = first_none (first_place 0 q es)

  pub places_again : ((q : Literal) → old q ≡ first_place 0 q es) → is_some (old l) ≡ true → (q : Literal) → old q ≡ first_place 0 q (es ++ Some l ∷ [])
  places_again was there q = was q ∙ sym (places_kept (ap is_some (sym (was l)) ∙ there) q)

  -- the last place goes, and was the first with its literal
  pub places_gone : ((q : Literal) → old q ≡ first_place 0 q (es ++ Some l ∷ [])) → old l ≡ Some (length es) → ((q : Literal) → new q ≡ cond (same_literal l q) None (old q)) → (q : Literal) → new q ≡ first_place 0 q es
  places_gone was newest is q = is q ∙ by (same_literal l q) refl
    where
      by : (b : Bool) → same_literal l q ≡ b → cond b None (old q) ≡ first_place 0 q es
      by true e = sym (same_place l q es e ∙ gone (first_place 0 l es) refl (sym (place_last 0 l es (Some l)) ∙ sym (was l) ∙ newest))
        where
          gone : (o : Option ℕ) → first_place 0 l es ≡ o → first o (last (0 + length es) l (Some l)) ≡ Some (length es) → o ≡ None
          gone (Some p) at f = let k = place_below 0 l es p at in let same : p ≡ length es = cc in absurd (omega arith)
          gone None at f = refl
      by false e =
          was q ∙ place_last 0 q es (Some l) ∙ ap (λ (b : Bool). first (first_place 0 q es) (if b then Some (0 + length es) else None)) e ∙ first_none (first_place 0 q es)

  -- and was not
  pub places_left : (p : ℕ) → ((q : Literal) → old q ≡ first_place 0 q (es ++ Some l ∷ [])) → old l ≡ Some p → p ≢ length es → (q : Literal) → old q ≡ first_place 0 q es
  places_left p was at ne q = was q ∙ places_kept (there (first_place 0 l es) (sym (place_last 0 l es (Some l)) ∙ sym (was l) ∙ at)) q
    where
      there : (o : Option ℕ) → first o (last (0 + length es) l (Some l)) ≡ Some p → is_some o ≡ true
      there (Some x) f = refl
      there None f = absurd (by (is_entry l (Some l)) f)
        where
          by : (b : Bool) → (if b then Some (0 + length es) else None) ≡ Some p → ⊥
          by true f = let same : 0 + length es ≡ p = cc in ne (omega arith)
          by false f = cc

  -- it has a place
  pub places_found : ((q : Literal) → old q ≡ first_place 0 q (es ++ Some l ∷ [])) → old l ≡ None → ⊥
  places_found was none = by (first_place 0 l es) (same_literal l l) (literal_same l) (sym (place_last 0 l es (Some l)) ∙ sym (was l) ∙ none)
    where
      by : (o : Option ℕ) (b : Bool) → b ≡ true → first o (if b then Some (0 + length es) else None) ≡ None → ⊥
      by (Some x) b e f = cc
      by None true e f = cc
      by None false e f = cc

-- a place without a literal
pub places_none : (es : Entries) (q : Literal) → first_place 0 q (es ++ None ∷ []) ≡ first_place 0 q es
places_none es q = place_last 0 q es None ∙ first_none (first_place 0 q es)
