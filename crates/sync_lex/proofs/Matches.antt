-- A piece that is a word is spelled by its kind, and no longer front of the bytes spells a lexeme.
use Rattle.std.proofs.Common.{◌≡◌, ℕ, zero, suc, ◌+◌, ◌<◌, ◌≤◌, Bool, true, false, cond, max, List, [], ◌∷◌, length, take, get_or, refl, sym, ap, ◌∙◌, arith, length-take, inl, inr, ⊎_elim}
use Rattle.std.specs.Prelude.{codes, nat_eq, nat_lt, not, ◌||◌, Contains, ◌⊎◌}
use Rattle.std.specs.Char.{is_ascii_digit}
use Rattle.std.specs.List.{starts_with, prefix_len, take_while, list_all}
use Rattle.std.proofs.Math.Numerals.{one-add}
use Rattle.std.proofs.lemmas.Bool.{cases_lt, false≢true}
use Rattle.std.proofs.lemmas.Bool.Decides.{nat_tests}
use Rattle.std.proofs.lemmas.List.Folds.{length-prefix_len}
use Rattle.sync_base.proofs.Basics.{both}
use lib.Pointwise.{bytes_decides}
use Rattle.sync_lex.specs.declared.pieces.Piece.{Piece}
use Rattle.sync_lex.specs.declared.pieces.Piece.TheVariants.{Gap, Match, Broken}
use Rattle.sync_lex.specs.declared.lexemes.Kind.{Kind}
use Rattle.sync_lex.specs.declared.lexemes.Kind.TheVariants.{Name, Number, Sign}
use Rattle.sync_base.specs.declared.stops.Rule.TheVariants.{L3, L4}
use Rattle.sync_lex.specs.Bytes.{is_blank, begins_name, continues_name, number_value}
use Rattle.sync_lex.specs.Signs.{spelling_of}
use Rattle.sync_lex.specs.Punctuation.{punctuation, longest, sign_len}
use Rattle.sync_lex.specs.Pieces.{name_piece, number_piece, sign_piece, piece}
use Rattle.sync_base.specs.Limits.{largest, longest_name}
use Rattle.sync_lex.specs.Spelling.{IsSpelled}
use Rattle.sync_lex.proofs.Numbers.{digit_bounds}
use Rattle.sync_lex.proofs.Within.{by_test, continues}

-- no longer front of the bytes spells a lexeme
abbrev pub NoLonger : List ℕ → ℕ → Type 0
NoLonger bytes len = (kind : Kind) (n : ℕ) → len < n → n ≤ length bytes → ¬ (IsSpelled kind (take n bytes))

abbrev pub IsMatch : List ℕ → Piece → Type 0
IsMatch bytes (Gap len) = Unit {0}
IsMatch bytes (Match kind len) = IsSpelled kind (take len bytes) × NoLonger bytes len
IsMatch bytes (Broken rule) = Unit {0}

module _ (p : ℕ → Bool) where
  one_passes : (x m : ℕ) (xs : List ℕ) (here : Bool) → p x ≡ here → list_all p (take m xs) ≡ true → list_all p (take (cond here (1 + m) 0) (x ∷ xs)) ≡ true
  one_passes x m xs true e later = rw one-add (rw (e, later) refl)
  one_passes x m xs false e later = refl

  pub prefix_passes : (xs : List ℕ) → list_all p (take (prefix_len p xs) xs) ≡ true
  prefix_passes [] = refl
  prefix_passes (x ∷ xs) = one_passes x (prefix_len p xs) xs (p x) refl (prefix_passes xs)

  passing_within : (n : ℕ) (xs : List ℕ) → n ≤ length xs → list_all p (take n xs) ≡ true → n ≤ prefix_len p xs
  passing_within zero xs le e = omega arith
  passing_within (suc n) [] le e = absurd (omega arith)
  passing_within (suc n) (x ∷ xs) le e =
      let parts = both (p x) (list_all p (take n xs)) e in
      rw parts.0 (omega (arith, passing_within n xs (omega arith) parts.1))

  take_run : (b : ℕ) (bytes : List ℕ) → p b ≡ true → take (prefix_len p (b ∷ bytes)) (b ∷ bytes) ≡ b ∷ take (prefix_len p bytes) bytes
  take_run b bytes e = rw (e, one-add) refl

pub all_at : (p : List ℕ → Bool) (words : List (List ℕ)) (k : ℕ) (d : List ℕ) → list_all p words ≡ true → k < length words → p (get_or words k d) ≡ true
all_at p [] k d e lt = absurd (omega arith)
all_at p (word ∷ words) zero d e lt = (both (p word) (list_all p words) e).0
all_at p (word ∷ words) (suc k) d e lt = all_at p words k d (both (p word) (list_all p words) e).1 (omega arith)

-- what begins neither a name nor a number
begins_other : ℕ → Bool
begins_other b = not (begins_name b || is_ascii_digit b)

signs_begin_other : list_all (λ sign. begins_other (get_or sign 0 0)) punctuation ≡ true
unfolding begins_other begins_name spelling_of
signs_begin_other = refl

neither : (a b : Bool) → not (a || b) ≡ true → (a ≡ false) × (b ≡ false)
neither true b e = absurd cc
neither false true e = absurd cc
neither false false e = (refl, refl)

sign_begins : (b : ℕ) (bytes : List ℕ) → Contains punctuation (b ∷ bytes) → (begins_name b ≡ false) × (is_ascii_digit b ≡ false)
unfolding begins_other
sign_begins b bytes (k, lt, e) =
    let other = all_at (λ sign. begins_other (get_or sign 0 0)) punctuation k (b ∷ bytes) signs_begin_other lt in
    neither (begins_name b) (is_ascii_digit b) (rw e at other)

digit_begins : (b : ℕ) → is_ascii_digit b ≡ true → begins_name b ≡ false
unfolding begins_name
digit_begins b e = let bounds = digit_bounds b e in grind (arith, nat_tests)

name_no_longer : (b : ℕ) (bytes : List ℕ) → begins_name b ≡ true → NoLonger (b ∷ bytes) (prefix_len continues_name (b ∷ bytes))
name_no_longer b bytes e kind zero lt le spelled = absurd (omega arith)
name_no_longer b bytes e Name (suc n) lt le spelled =
    absurd (omega (arith, passing_within continues_name (suc n) (b ∷ bytes) le (rw (continues b e) spelled.1)))
name_no_longer b bytes e Number (suc n) lt le spelled =
    let digit = (both (is_ascii_digit b) (list_all is_ascii_digit (take n bytes)) spelled).0 in
    false≢true (sym (digit_begins b digit) ∙ e)
name_no_longer b bytes e Sign (suc n) lt le spelled = false≢true (sym (sign_begins b (take n bytes) spelled).0 ∙ e)

name_is_match : (b : ℕ) (bytes : List ℕ) → begins_name b ≡ true → IsMatch (b ∷ bytes) (name_piece (prefix_len continues_name (b ∷ bytes)))
name_is_match b bytes e =
    let len = prefix_len continues_name (b ∷ bytes) in
    by_test (IsMatch (b ∷ bytes)) (nat_lt longest_name len) (Broken L4) (Match Name len) (λ _. tt)
    (λ _. (rw (take_run continues_name b bytes (continues b e)) (e, prefix_passes continues_name bytes), name_no_longer b bytes e))

number_no_longer : (b : ℕ) (bytes : List ℕ) (len : ℕ) → len ≡ prefix_len is_ascii_digit (b ∷ bytes) → is_ascii_digit b ≡ true → NoLonger (b ∷ bytes) len
number_no_longer b bytes len is e kind zero lt le spelled = absurd (omega arith)
number_no_longer b bytes len is e Name (suc n) lt le spelled = false≢true (sym (digit_begins b e) ∙ spelled.0)
number_no_longer b bytes len is e Number (suc n) lt le spelled = absurd (omega (arith, passing_within is_ascii_digit (suc n) (b ∷ bytes) le spelled))
number_no_longer b bytes len is e Sign (suc n) lt le spelled = false≢true (sym (sign_begins b (take n bytes) spelled).1 ∙ e)

number_spelled : (b : ℕ) (bytes : List ℕ) (len : ℕ) → len ≡ prefix_len is_ascii_digit (b ∷ bytes) → is_ascii_digit b ≡ true → IsSpelled Number (take len (b ∷ bytes))
number_spelled b bytes len is e =
    rw (is, take_run is_ascii_digit b bytes e) (rw (e, prefix_passes is_ascii_digit bytes) refl)

number_is_match : (b : ℕ) (bytes : List ℕ) → is_ascii_digit b ≡ true → IsMatch (b ∷ bytes) (number_piece (take_while is_ascii_digit (b ∷ bytes)))
number_is_match b bytes e =
    let digits = take_while is_ascii_digit (b ∷ bytes) in
    let is = length-prefix_len is_ascii_digit (b ∷ bytes) in
    by_test (IsMatch (b ∷ bytes)) (nat_lt largest (number_value digits)) (Broken L3) (Match Number (length digits)) (λ _. tt)
    (λ _. (number_spelled b bytes (length digits) is e, number_no_longer b bytes (length digits) is e))

max_is : (a b c : ℕ) → max a b ≡ c → (a ≡ c) ⊎ (b ≡ c)
max_is a b c e = ⊎_elim (λ lt. inr (omega arith)) (λ le. inl (omega arith)) (cases_lt a b)

begun : (word bytes : List ℕ) → starts_with nat_eq bytes word ≡ true → take (length word) bytes ≡ word
begun word bytes e = sym ((bytes_decides word (take (length word) bytes)).0 e)

starts_own : (n : ℕ) (bytes : List ℕ) → n ≤ length bytes → starts_with nat_eq bytes (take n bytes) ≡ true
starts_own n bytes le =
    let len : length (take n bytes) ≡ n = omega (arith, length-take n bytes) in
    (bytes_decides (take n bytes) (take (length (take n bytes)) bytes)).1 (ap (λ (k : ℕ). take k bytes) (sym len))

-- one more word in front
among_more : (words : List (List ℕ)) (word w : List ℕ) → Contains words w → Contains (word ∷ words) w
among_more words word w (k, lt, e) = (suc k, omega arith, e)

-- the longest is the first word, where the bytes begin with it, or one of the others
longest_of_more : (word : List ℕ) (words : List (List ℕ)) (bytes : List ℕ) (n : ℕ) (here : Bool) → starts_with nat_eq bytes word ≡ here
    → max (cond here (length word) 0) (longest words bytes) ≡ suc n → (longest words bytes ≡ suc n → Contains words (take (suc n) bytes)) → Contains (word ∷ words) (take (suc n) bytes)
longest_of_more word words bytes n true starts is later = ⊎_elim
    (λ len. (0, omega arith, sym (ap (λ (k : ℕ). take k bytes) (sym len) ∙ begun word bytes starts)))
    (λ len. among_more words word (take (suc n) bytes) (later len)) (max_is (length word) (longest words bytes) (suc n) is)
longest_of_more word words bytes n false starts is later = among_more words word (take (suc n) bytes) (later (omega arith))

longest_is_in : (words : List (List ℕ)) (bytes : List ℕ) (n : ℕ) → longest words bytes ≡ suc n → Contains words (take (suc n) bytes)
longest_is_in [] bytes n e = absurd (omega arith)
longest_is_in (word ∷ words) bytes n e = longest_of_more word words bytes n (starts_with nat_eq bytes word) refl e (longest_is_in words bytes n)

longest_ge : (words : List (List ℕ)) (bytes : List ℕ) (k : ℕ) (d : List ℕ) → k < length words → starts_with nat_eq bytes (get_or words k d) ≡ true → length (get_or words k d) ≤ longest words bytes
longest_ge [] bytes k d lt starts = absurd (omega arith)
longest_ge (word ∷ words) bytes zero d lt starts = rw starts (omega arith)
longest_ge (word ∷ words) bytes (suc k) d lt starts = omega (arith, longest_ge words bytes k d (omega arith) starts)

sign_no_longer : (b : ℕ) (bytes : List ℕ) → begins_name b ≡ false → is_ascii_digit b ≡ false → NoLonger (b ∷ bytes) (sign_len (b ∷ bytes))
unfolding sign_len
sign_no_longer b bytes no_name no_digit kind zero lt le spelled = absurd (omega arith)
sign_no_longer b bytes no_name no_digit Name (suc n) lt le spelled = false≢true (sym no_name ∙ spelled.0)
sign_no_longer b bytes no_name no_digit Number (suc n) lt le spelled =
    false≢true (sym no_digit ∙ (both (is_ascii_digit b) (list_all is_ascii_digit (take n bytes)) spelled).0)
sign_no_longer b bytes no_name no_digit Sign (suc n) lt le (k, lt_k, e) =
    let all = b ∷ bytes in
    let own = starts_own (suc n) all le in
    let most = longest_ge punctuation all k (take (suc n) all) lt_k (ap (starts_with nat_eq all) e ∙ own) in
    absurd (omega (arith, most, ap length e, length-take (suc n) all))

sign_is_match : (b : ℕ) (bytes : List ℕ) (len : ℕ) → len ≡ sign_len (b ∷ bytes) → begins_name b ≡ false → is_ascii_digit b ≡ false → IsMatch (b ∷ bytes) (sign_piece len)
unfolding sign_len
sign_is_match b bytes zero is no_name no_digit = tt
sign_is_match b bytes (suc len) is no_name no_digit =
    (longest_is_in punctuation (b ∷ bytes) len (sym is), rw is (sign_no_longer b bytes no_name no_digit))

pub piece_is_match : (bytes : List ℕ) → IsMatch bytes (piece bytes)
unfolding piece
piece_is_match [] = tt
piece_is_match (b ∷ bytes) =
    let all = b ∷ bytes in
    by_test (IsMatch all) (is_blank b) _ _ (λ _. tt) (λ _.
    by_test (IsMatch all) (begins_name b) _ _ (name_is_match b bytes) (λ no_name.
    by_test (IsMatch all) (is_ascii_digit b) _ _ (number_is_match b bytes) (λ no_digit.
    by_test (IsMatch all) (starts_with nat_eq all (codes "//")) _ _ (λ _. tt)
    (λ _. sign_is_match b bytes (sign_len all) refl no_name no_digit))))
