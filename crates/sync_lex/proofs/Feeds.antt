-- A piece has a line feed nowhere but at its first byte, so what follows it is read on the line behind that byte.
use Rattle.std.proofs.Common.{◌≡◌, ℕ, zero, suc, ◌+◌, ◌-◌, ◌<◌, ◌≤◌, Bool, true, false, cond, List, [], ◌∷◌, ◌++◌, length, length-drop, take, drop, drop-cons, add-one, get_or, refl, sym, ap, ◌∙◌, subst, arith}
use Rattle.std.specs.Prelude.{codes, nat_eq, nat_lt, not, ◌||◌, ◌==◌, Contains}
use Rattle.std.specs.Char.{is_ascii_digit}
use Rattle.std.specs.List.{starts_with, prefix_len, take_while, list_all}
use Rattle.std.proofs.lemmas.Bool.Decides.{nat_tests}
use Rattle.std.proofs.lemmas.List.{drop-drop}
use Rattle.sync_base.proofs.Basics.{both}
use Rattle.sync_base.specs.Limits.{largest, longest_name}
use Rattle.sync_base.specs.declared.stops.Rule.TheVariants.{L3, L4}
use Rattle.sync_lex.specs.declared.lexemes.Lexeme.{Lexeme}
use Rattle.sync_lex.specs.declared.lexemes.Kind.{Kind}
use Rattle.sync_lex.specs.declared.lexemes.Kind.TheVariants.{Name, Number, Sign}
use Rattle.sync_lex.specs.declared.pieces.Piece.{Piece}
use Rattle.sync_lex.specs.declared.pieces.Piece.TheVariants.{Gap, Match, Broken}
use Rattle.sync_lex.specs.Bytes.{is_blank, begins_name, continues_name, number_value}
use Rattle.sync_lex.specs.Signs.{spelling_of}
use Rattle.sync_lex.specs.Punctuation.{punctuation, sign_len}
use Rattle.sync_lex.specs.Pieces.{sign_piece, piece}
use Rattle.sync_lex.specs.Lexemes.{Lexed, line_after}
use Rattle.sync_lex.specs.Spelling.{IsSpelled}
use Rattle.sync_lex.proofs.Held.{held_from, gap_begins, word_begins}
use Rattle.sync_lex.proofs.Numbers.{digit_bounds}
use Rattle.sync_lex.proofs.Within.{by_test, gap_fits, word_fits}
use Rattle.sync_lex.proofs.Matches.{all_at, prefix_passes, IsMatch, piece_is_match}

-- the byte is no line feed
abbrev pub no_feed : ℕ → Bool
no_feed b = not (b == 10)

abbrev pub HasNoFeed : List ℕ → Type 0
HasNoFeed bytes = list_all no_feed bytes ≡ true

all_imply : (p q : ℕ → Bool) → ((b : ℕ) → p b ≡ true → q b ≡ true) → (xs : List ℕ) → list_all p xs ≡ true → list_all q xs ≡ true
all_imply p q imply [] e = refl
all_imply p q imply (x ∷ xs) e =
    let parts = both (p x) (list_all p xs) e in
    rw (imply x parts.0, all_imply p q imply xs parts.1) refl

digit_no_feed : (b : ℕ) → is_ascii_digit b ≡ true → no_feed b ≡ true
digit_no_feed b e = let bounds = digit_bounds b e in grind (arith, nat_tests)

begins_no_feed : (b : ℕ) → begins_name b ≡ true → no_feed b ≡ true
unfolding begins_name
begins_no_feed b e = grind (arith, nat_tests)

continues_no_feed : (b : ℕ) → continues_name b ≡ true → no_feed b ≡ true
unfolding continues_name
continues_no_feed b e = grind (arith, nat_tests)

signs_have_no_feed : list_all (λ sign. list_all no_feed sign) punctuation ≡ true
unfolding spelling_of
signs_have_no_feed = refl

spelled_smooth : (kind : Kind) (word : List ℕ) → IsSpelled kind word → HasNoFeed word
spelled_smooth Name [] h = refl
spelled_smooth Name (b ∷ bytes) h = rw (begins_no_feed b h.0, all_imply continues_name no_feed continues_no_feed bytes h.1) refl
spelled_smooth Number [] h = refl
spelled_smooth Number (b ∷ bytes) h = all_imply is_ascii_digit no_feed digit_no_feed (b ∷ bytes) h
spelled_smooth Sign word (k, lt, e) = rw e at (all_at (λ sign. list_all no_feed sign) punctuation k word signs_have_no_feed lt)

first_no_feed : (len b : ℕ) (bytes : List ℕ) → 0 < len → HasNoFeed (take len (b ∷ bytes)) → no_feed b ≡ true
first_no_feed zero b bytes some h = absurd (omega arith)
first_no_feed (suc len) b bytes some h = (both (no_feed b) (list_all no_feed (take len bytes)) h).0

line_stays : (feed : Bool) (line : ℕ) → not feed ≡ true → cond feed (line + 1) line ≡ line
line_stays true line e = absurd cc
line_stays false line e = refl

no_feed_line : (b line : ℕ) → no_feed b ≡ true → line_after b line ≡ line
no_feed_line b line e = line_stays (b == 10) line e

-- of a run of bytes that are no line feeds
behind_first : (len b : ℕ) (bytes : List ℕ) → HasNoFeed (take len (b ∷ bytes)) → HasNoFeed (take (len - 1) bytes)
behind_first zero b bytes h = refl
behind_first (suc len) b bytes h = let e : suc len - 1 ≡ len = omega arith in rw e (both (no_feed b) (list_all no_feed (take len bytes)) h).1

-- a gap is one byte, or it ends before the next line feed
abbrev IsSmoothGap : List ℕ → Piece → Type 0
IsSmoothGap bytes (Gap len) = HasNoFeed (take (len - 1) (drop 1 bytes))
IsSmoothGap bytes (Match kind len) = Unit {0}
IsSmoothGap bytes (Broken rule) = Unit {0}

sign_is_smooth : (bytes : List ℕ) (len : ℕ) → IsSmoothGap bytes (sign_piece len)
sign_is_smooth bytes zero = tt
sign_is_smooth bytes (suc len) = tt

gap_is_smooth : (bytes : List ℕ) → IsSmoothGap bytes (piece bytes)
unfolding piece
gap_is_smooth [] = tt
gap_is_smooth (b ∷ bytes) =
    let all = b ∷ bytes in
    by_test (IsSmoothGap all) (is_blank b) _ _ (λ _. refl) (λ _.
    by_test (IsSmoothGap all) (begins_name b) _ _
    (λ _. by_test (IsSmoothGap all) (nat_lt longest_name (prefix_len continues_name all)) (Broken L4) (Match Name (prefix_len continues_name all)) (λ _. tt) (λ _. tt)) (λ _.
    by_test (IsSmoothGap all) (is_ascii_digit b) _ _
    (λ _. by_test (IsSmoothGap all) (nat_lt largest (number_value (take_while is_ascii_digit all))) (Broken L3) (Match Number (length (take_while is_ascii_digit all))) (λ _. tt) (λ _. tt)) (λ _.
    by_test (IsSmoothGap all) (starts_with nat_eq all (codes "//")) _ _ (λ _. behind_first (prefix_len no_feed all) b bytes (prefix_passes no_feed all))
    (λ _. sign_is_smooth all (sign_len all)))))

-- the loop: it goes on behind bytes that are no line feeds
skips : (held : List Lexeme) (at line skip : ℕ) (bytes : List ℕ) → skip ≤ length bytes → HasNoFeed (take skip bytes)
    → held_from held at line skip bytes ≡ held_from held (at + skip) line 0 (drop skip bytes)
skips held at line zero bytes le h = let e : at ≡ at + 0 = omega arith in ap (λ (n : ℕ). held_from held n line 0 bytes) e
skips held at line (suc skip) [] le h = absurd (omega arith)
skips held at line (suc skip) (b ∷ bytes) le h =
    let parts = both (no_feed b) (list_all no_feed (take skip bytes)) h in
    let same : line_after b line ≡ line = no_feed_line b line parts.0 in
    let place : at + 1 + skip ≡ at + suc skip = omega arith in
    ap (λ (l : ℕ). held_from held (at + 1) l skip bytes) same ∙ skips held (at + 1) line skip bytes (omega arith) parts.1
    ∙ ap (λ (n : ℕ). held_from held n line 0 (drop skip bytes)) place

module _ (text : List ℕ) (held : List Lexeme) (at line : ℕ) (total : Lexed) (lt : at < length text) where
  here : drop at text ≡ get_or text at 0 ∷ drop (at + 1) text
  here = drop-cons text at 0 lt ∙ rw add-one refl

  jumped : (more : List Lexeme) (l len : ℕ) → 0 < len → len ≤ length (drop at text) → HasNoFeed (take (len - 1) (drop (at + 1) text))
      → held_from more (at + 1) l (len - 1) (drop (at + 1) text) ≡ total → held_from more (at + len) l 0 (drop (at + len) text) ≡ total
  jumped more l len some fits smooth so_far =
      let place : at + 1 + (len - 1) ≡ at + len = omega arith in
      let rest : drop (len - 1) (drop (at + 1) text) ≡ drop (at + len) text = drop-drop (len - 1) (at + 1) text ∙ ap (λ (n : ℕ). drop n text) place in
      let went = skips more (at + 1) l (len - 1) (drop (at + 1) text) (omega (arith, length-drop at text, length-drop (at + 1) text)) smooth in
      sym (ap (λ (n : ℕ). held_from more n l 0 (drop (at + len) text)) place) ∙ sym (ap (held_from more (at + 1 + (len - 1)) l 0) rest) ∙ sym went ∙ so_far

  -- what follows behind a gap, and behind a word
  pub behind_gap : (len : ℕ) → Gap len ≡ piece (drop at text) → held_from held at line 0 (drop at text) ≡ total
      → held_from held (at + len) (line_after (get_or text at 0) line) 0 (drop (at + len) text) ≡ total
  behind_gap len is so_far =
      let fits = gap_fits (drop at text) len is in
      let smooth : HasNoFeed (take (len - 1) (drop 1 (drop at text))) = subst (IsSmoothGap (drop at text)) (sym is) (gap_is_smooth (drop at text)) in
      jumped held (line_after (get_or text at 0) line) len fits.0 fits.1 (rw here at smooth) (gap_begins text held at line total len lt is so_far)

  pub behind_word : (kind : Kind) (len : ℕ) → Match kind len ≡ piece (drop at text) → held_from held at line 0 (drop at text) ≡ total
      → held_from (held ++ record { kind = kind; start = at; end = at + len; line = line } ∷ []) (at + len) line 0 (drop (at + len) text) ≡ total
  behind_word kind len is so_far =
      let fits = word_fits (drop at text) kind len is in
      let match : IsMatch (drop at text) (Match kind len) = subst (IsMatch (drop at text)) (sym is) (piece_is_match (drop at text)) in
      let smooth : HasNoFeed (take len (get_or text at 0 ∷ drop (at + 1) text)) = rw here at (spelled_smooth kind (take len (drop at text)) match.0) in
      let one = first_no_feed len (get_or text at 0) (drop (at + 1) text) fits.0 smooth in
      let same = no_feed_line (get_or text at 0) line one in
      let more = held ++ record { kind = kind; start = at; end = at + len; line = line } ∷ [] in
      jumped more line len fits.0 fits.1 (behind_first len (get_or text at 0) (drop (at + 1) text) smooth)
      (ap (λ (l : ℕ). held_from more (at + 1) l (len - 1) (drop (at + 1) text)) (sym same) ∙ word_begins text held at line total kind len lt is so_far)
