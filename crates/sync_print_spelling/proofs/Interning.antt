-- Names in the order of their first appearance, and the numbers that spellings have among them.
use Rattle.std.proofs.Common.{◌≡◌, ◌≢◌, ℕ, suc, ◌+◌, ◌<◌, Bool, true, false, cond, not, ◌||◌, if◌then◌else◌, List, [], ◌∷◌, ◌++◌, length, get_or, slice_get, zero, AllPairs, refl, sym, ap, subst, ◌∙◌, append_assoc, append-nil, arith}
use Rattle.std.specs.List.{list_any}
use Rattle.std.specs.Str.{bytes_eq}
use Rattle.std.specs.Option.{option_map_or}
use Rattle.std.proofs.lemmas.Slice.Eq.{bytes_eq-Decides}
use Rattle.std.proofs.lemmas.List.Sums.{position_or_len_is}
use Rattle.std.proofs.lemmas.List.Folds.{list_any-append}
use Rattle.std.proofs.lemmas.List.{length-append}
use Rattle.sync_base.proofs.Basics.{or_true}
use Rattle.sync_base.specs.declared.names.Name.{Name}
use Rattle.sync_lex.specs.Terminals.{name_of, spells, number_in, names_with}
use Rattle.sync_print_spelling.specs.Namings.{in_order}

-- ---- spellings that are alike

same_bytes : (xs ys : List ℕ) → bytes_eq xs ys ≡ true → xs ≡ ys
same_bytes xs ys e = (bytes_eq-Decides xs ys).0 e

pub itself : (xs : List ℕ) → bytes_eq xs xs ≡ true
itself xs = (bytes_eq-Decides xs xs).1 refl

pub no_true : (c : Bool) → (c ≡ true → ⊥) → c ≡ false
no_true true none = absurd (none refl)
no_true false none = refl

or_rest : (c d : Bool) → (c || d) ≡ true → c ≡ false → d ≡ true
or_rest true d any e = absurd cc
or_rest false d any e = any

-- ---- the spelling with a number

-- how the name at this place is spelled
abbrev pub spelled_at : List Name → ℕ → List ℕ
spelled_at names number = option_map_or (λ (n : Name). n.bytes) (slice_get names number) []

pub spelled_is : (names : List Name) (x : ℕ) (d : Name) → x < length names → spelled_at names x ≡ (get_or names x d).bytes
spelled_is [] x d lt = absurd (omega arith)
spelled_is (n ∷ names) zero d lt = refl
spelled_is (n ∷ names) (suc x) d lt = spelled_is names x d (omega arith)

-- ---- the number of a spelling that is there

number_case : (c : Bool) (k j : ℕ) → (c ≡ false → k ≡ j) → cond (not c) (1 + k) 0 ≡ cond (not c) (1 + j) 0
number_case true k j same = refl
number_case false k j same = ap (λ n. 1 + n) (same refl)

-- more names behind leave it as it is
pub number_kept : (bytes : List ℕ) (names more : List Name) → list_any (spells bytes) names ≡ true → number_in (names ++ more) bytes ≡ number_in names bytes
unfolding number_in
number_kept bytes [] more any = absurd cc
number_kept bytes (n ∷ names) more any =
    number_case (spells bytes n) _ _ (λ e. number_kept bytes names more (or_rest (spells bytes n) (list_any (spells bytes) names) any e))

spelled_case : (n : Name) (names : List Name) (bytes : List ℕ) (c : Bool) (k : ℕ) → (c ≡ true → n.bytes ≡ bytes) → (c ≡ false → spelled_at names k ≡ bytes) → spelled_at (n ∷ names) (cond (not c) (1 + k) 0) ≡ bytes
spelled_case n names bytes true k here later = here refl
spelled_case n names bytes false k here later =
    let more : suc k ≡ 1 + k = omega arith in
    subst (λ m. spelled_at (n ∷ names) m ≡ bytes) more (later refl)

-- it is spelled so
pub spelled_found : (bytes : List ℕ) (names more : List Name) → list_any (spells bytes) names ≡ true → spelled_at (names ++ more) (number_in names bytes) ≡ bytes
unfolding number_in
spelled_found bytes [] more any = absurd cc
spelled_found bytes (n ∷ names) more any =
    spelled_case n (names ++ more) bytes (spells bytes n) (number_in names bytes) (λ e. sym (same_bytes bytes n.bytes e))
    (λ e. spelled_found bytes names more (or_rest (spells bytes n) (list_any (spells bytes) names) any e))

below_case : (c : Bool) (k size : ℕ) → (c ≡ false → k < size) → cond (not c) (1 + k) 0 < suc size
below_case true k size later = omega arith
below_case false k size later = omega (arith, later refl)

pub number_below : (bytes : List ℕ) (names : List Name) → list_any (spells bytes) names ≡ true → number_in names bytes < length names
unfolding number_in
number_below bytes [] any = absurd cc
number_below bytes (n ∷ names) any =
    below_case (spells bytes n) _ _ (λ e. number_below bytes names (or_rest (spells bytes n) (list_any (spells bytes) names) any e))

-- ---- a spelling that is put to the names

number_at_end : (bytes : List ℕ) (names : List Name) → number_in (names ++ name_of bytes ∷ []) bytes ≡ number_in names bytes
unfolding number_in
number_at_end bytes [] = rw (itself bytes) refl
number_at_end bytes (n ∷ names) = number_case (spells bytes n) _ _ (λ e. number_at_end bytes names)

-- names with one at the end where it was not there
put_case : (c : Bool) (names : List Name) (bytes : List ℕ) → number_in (if c then names else names ++ name_of bytes ∷ []) bytes ≡ number_in names bytes
put_case true names bytes = refl
put_case false names bytes = number_at_end bytes names

pub number_with : (bytes : List ℕ) (names : List Name) → number_in (names_with names bytes) bytes ≡ number_in names bytes
unfolding names_with
number_with bytes names = put_case (list_any (spells bytes) names) names bytes

has_case : (c : Bool) (names : List Name) (bytes : List ℕ) → list_any (spells bytes) names ≡ c → list_any (spells bytes) (if c then names else names ++ name_of bytes ∷ []) ≡ true
has_case true names bytes e = e
has_case false names bytes e = list_any-append (spells bytes) names (name_of bytes ∷ []) ∙ (rw (itself bytes) (or_true (list_any (spells bytes) names)))

pub has_now : (bytes : List ℕ) (names : List Name) → list_any (spells bytes) (names_with names bytes) ≡ true
unfolding names_with
has_now bytes names = has_case (list_any (spells bytes) names) names bytes refl

more_case : (c : Bool) (names : List Name) (bytes : List ℕ) → (more : List Name) × ((if c then names else names ++ name_of bytes ∷ []) ≡ names ++ more)
more_case true names bytes = ([], sym (append-nil names))
more_case false names bytes = (name_of bytes ∷ [], refl)

with_more : (bytes : List ℕ) (names : List Name) → (more : List Name) × (names_with names bytes ≡ names ++ more)
unfolding names_with
with_more bytes names = more_case (list_any (spells bytes) names) names bytes

-- ---- all the names

pub in_order_more : (spellings : List (List ℕ)) (names : List Name) → (more : List Name) × (in_order names spellings ≡ names ++ more)
unfolding in_order
in_order_more [] names = ([], sym (append-nil names))
in_order_more (s ∷ spellings) names =
    let one = with_more s names in
    let rest = in_order_more spellings (names_with names s) in
    (one.0 ++ rest.0, rest.1 ∙ (ap (λ ns. ns ++ rest.0) one.1 ∙ append_assoc names one.0 rest.0))

-- a spelling's number does not change where more names come
pub number_last : (names : List Name) (bytes : List ℕ) (spellings : List (List ℕ)) → number_in (in_order (names_with names bytes) spellings) bytes ≡ number_in names bytes
number_last names bytes spellings =
    let all = in_order_more spellings (names_with names bytes) in
    ap (λ ns. number_in ns bytes) all.1 ∙ (number_kept bytes (names_with names bytes) all.0 (has_now bytes names) ∙ number_with bytes names)

-- and it is that of the spelling, among all the names
pub spelled_last : (names : List Name) (bytes : List ℕ) (spellings : List (List ℕ)) → spelled_at (in_order (names_with names bytes) spellings) (number_in names bytes) ≡ bytes
spelled_last names bytes spellings =
    let all = in_order_more spellings (names_with names bytes) in
    ap (λ ns. spelled_at ns (number_in names bytes)) all.1 ∙ (ap (λ n. spelled_at (names_with names bytes ++ all.0) n) (sym (number_with bytes names))
    ∙ spelled_found bytes (names_with names bytes) all.0 (has_now bytes names))

pub number_last_below : (names : List Name) (bytes : List ℕ) (spellings : List (List ℕ)) → number_in names bytes < length (in_order (names_with names bytes) spellings)
number_last_below names bytes spellings =
    let all = in_order_more spellings (names_with names bytes) in
    let below = number_below bytes (names_with names bytes) (has_now bytes names) in
    omega (arith, number_with bytes names, ap length all.1, length-append (names_with names bytes) all.0)

-- where no two names are spelled alike, the number of a name's spelling is its own
pub own_number : (names : List Name) → AllPairs (λ (a b : Name). a.bytes ≢ b.bytes) names → (x : ℕ) → x < length names → number_in names (spelled_at names x) ≡ x
unfolding number_in
own_number names apart x lt =
    let d = name_of [] in
    let is = spelled_is names x d lt in
    position_or_len_is (spells (spelled_at names x)) names x d (omega arith)
    (λ k below. no_true (spells (spelled_at names x) (get_or names k d)) (λ e. apart k x d below lt (sym (same_bytes (spelled_at names x) (get_or names k d).bytes e) ∙ is)))
    (λ _. subst (λ bs. bytes_eq (spelled_at names x) bs ≡ true) is (itself (spelled_at names x)))
