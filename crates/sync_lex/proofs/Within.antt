-- A piece is not empty and lies within the bytes.
use Rattle.std.proofs.Common.{◌≡◌, ℕ, zero, suc, ◌<◌, ◌≤◌, Bool, true, false, cond, eqb, max, List, [], ◌∷◌, length, take, refl, sym, subst, arith, length-take}
use Rattle.std.specs.Prelude.{codes, nat_eq, nat_lt, not, ◌||◌, ◌==◌}
use Rattle.std.specs.Char.{is_ascii_digit}
use Rattle.std.specs.Int.{is_in_range}
use Rattle.std.specs.List.{starts_with, prefix_len, take_while}
use Rattle.std.proofs.lemmas.Bool.{eqb-true}
use Rattle.std.proofs.lemmas.List.Sums.{prefix_len-le-length}
use Rattle.std.proofs.lemmas.List.Folds.{length-prefix_len}
use Rattle.sync_base.proofs.Basics.{both}
use lib.Pointwise.{pointwise, pointwise_long}
use Rattle.sync_lex.specs.declared.pieces.Piece.{Piece}
use Rattle.sync_lex.specs.declared.pieces.Piece.TheVariants.{Gap, Match, Broken}
use Rattle.sync_lex.specs.declared.lexemes.Kind.{Kind}
use Rattle.sync_lex.specs.declared.lexemes.Kind.TheVariants.{Name, Number}
use Rattle.sync_base.specs.Limits.{largest, longest_name}
use Rattle.sync_base.specs.declared.stops.Rule.TheVariants.{L3, L4}
use Rattle.sync_lex.specs.Bytes.{is_blank, begins_name, continues_name, number_value}
use Rattle.sync_lex.specs.Punctuation.{punctuation, longest, sign_len}
use Rattle.sync_lex.specs.Pieces.{name_piece, number_piece, sign_piece, piece}

-- the piece is not empty and lies within so many bytes
abbrev pub IsIn : ℕ → Piece → Type 0
IsIn size (Gap len) = (0 < len) × (len ≤ size)
IsIn size (Match kind len) = (0 < len) × (len ≤ size)
IsIn size (Broken rule) = Unit {0}

-- a fact of the piece that a test chooses
pub by_test : (P : Piece → Type 0) (c : Bool) (x y : Piece) → (c ≡ true → P x) → (c ≡ false → P y) → P (cond c x y)
by_test P true x y p q = p refl
by_test P false x y p q = q refl

run_is_in : (p : ℕ → Bool) (b : ℕ) (bytes : List ℕ) → p b ≡ true → (0 < prefix_len p (b ∷ bytes)) × (prefix_len p (b ∷ bytes) ≤ length (b ∷ bytes))
run_is_in p b bytes passes = (rw passes (omega arith), prefix_len-le-length p (b ∷ bytes))

widened : (d u l x : Bool) → ((u || l) || x) ≡ true → (((d || u) || l) || x) ≡ true
widened true u l x e = refl
widened false u l x e = e

-- what begins a name continues one
pub continues : (b : ℕ) → begins_name b ≡ true → continues_name b ≡ true
unfolding begins_name continues_name
continues b = widened (is_in_range 48 57 b) (is_in_range 65 90 b) (is_in_range 97 122 b) (b == 95)

pub starts_within : (bytes word : List ℕ) → starts_with nat_eq bytes word ≡ true → length word ≤ length bytes
starts_within bytes word e = omega (arith, pointwise_long nat_eq word (take (length word) bytes) e, length-take (length word) bytes)

no_feed : (b : ℕ) → eqb 47 b ≡ true → not (b == 10) ≡ true
no_feed b e = rw (sym (eqb-true 47 b e)) refl

max_within : (len most size : ℕ) (here : Bool) → (here ≡ true → len ≤ size) → most ≤ size → max (cond here len 0) most ≤ size
max_within len most size true fits le = omega (arith, fits refl)
max_within len most size false fits le = omega arith

longest_within : (words : List (List ℕ)) (bytes : List ℕ) → longest words bytes ≤ length bytes
longest_within [] bytes = omega arith
longest_within (word ∷ words) bytes =
    max_within (length word) (longest words bytes) (length bytes) (starts_with nat_eq bytes word) (starts_within bytes word) (longest_within words bytes)

sign_within : (bytes : List ℕ) → sign_len bytes ≤ length bytes
unfolding sign_len
sign_within bytes = longest_within punctuation bytes

name_is_in : (size len : ℕ) → (0 < len) × (len ≤ size) → IsIn size (name_piece len)
name_is_in size len fits = by_test (IsIn size) (nat_lt longest_name len) (Broken L4) (Match Name len) (λ _. tt) (λ _. fits)

number_is_in : (size : ℕ) (digits : List ℕ) → (0 < length digits) × (length digits ≤ size) → IsIn size (number_piece digits)
number_is_in size digits fits =
    by_test (IsIn size) (nat_lt largest (number_value digits)) (Broken L3) (Match Number (length digits)) (λ _. tt) (λ _. fits)

sign_is_in : (size len : ℕ) → len ≤ size → IsIn size (sign_piece len)
sign_is_in size zero le = tt
sign_is_in size (suc len) le = (omega arith, le)

pub piece_is_in : (bytes : List ℕ) → IsIn (length bytes) (piece bytes)
unfolding piece
piece_is_in [] = tt
piece_is_in (b ∷ bytes) =
    let size = length (b ∷ bytes) in
    by_test (IsIn size) (is_blank b) _ _ (λ _. (omega arith, omega arith)) (λ _.
    by_test (IsIn size) (begins_name b) _ _ (λ e. name_is_in size _ (run_is_in continues_name b bytes (continues b e))) (λ _.
    by_test (IsIn size) (is_ascii_digit b) _ _ (λ e. number_is_in size (take_while is_ascii_digit (b ∷ bytes)) (rw (length-prefix_len is_ascii_digit (b ∷ bytes)) (run_is_in is_ascii_digit b bytes e))) (λ _.
    by_test (IsIn size) (starts_with nat_eq (b ∷ bytes) (codes "//")) _ _ (λ e. run_is_in (λ c. not (c == 10)) b bytes (no_feed b (both (eqb 47 b) (pointwise nat_eq (47 ∷ []) (take 1 bytes)) e).0))
    (λ _. sign_is_in size _ (sign_within (b ∷ bytes))))))

pub gap_fits : (bytes : List ℕ) (len : ℕ) → Gap len ≡ piece bytes → (0 < len) × (len ≤ length bytes)
gap_fits bytes len e = subst (IsIn (length bytes)) (sym e) (piece_is_in bytes)

pub word_fits : (bytes : List ℕ) (kind : Kind) (len : ℕ) → Match kind len ≡ piece bytes → (0 < len) × (len ≤ length bytes)
word_fits bytes kind len e = subst (IsIn (length bytes)) (sym e) (piece_is_in bytes)
