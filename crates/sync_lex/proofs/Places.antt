-- The lexemes of a text lie in order, each on its line and the longest at its place.
use Rattle.std.proofs.Common.{◌≡◌, ℕ, zero, suc, ◌+◌, ◌-◌, ◌<◌, ◌≤◌, Bool, true, false, cond, eqb, List, [], ◌∷◌, length, take, drop, drop-cons, get_or, length-drop, add-one, Ok, Err, refl, sym, ap, ◌∙◌, subst, arith}
use Rattle.std.specs.Prelude.{◌==◌, nat_lt, AllPairs}
use Rattle.std.specs.List.{AllByRecursion}
use Rattle.std.proofs.lemmas.List.{take_all, drop_all, drop-drop}
use Rattle.std.proofs.lemmas.List.Sums.{count_by_more_yes, count_by_more_no}
use Rattle.std.proofs.lemmas.List.Elements.{All-from_recursion}
use Rattle.std.proofs.lemmas.List.Kept.{AllPairs-cons}
use Rattle.sync_base.specs.Limits.{longest_text}
use Rattle.sync_base.specs.declared.stops.Refusal.{Refusal}
use Rattle.sync_base.specs.declared.stops.Rule.TheVariants.{L1}
use Rattle.sync_lex.specs.declared.lexemes.Kind.{Kind}
use Rattle.sync_lex.specs.declared.lexemes.Lexeme.{Lexeme}
use Rattle.sync_lex.specs.declared.pieces.Piece.{Piece}
use Rattle.sync_lex.specs.declared.pieces.Piece.TheVariants.{Gap, Match, Broken}
use Rattle.sync_lex.specs.Pieces.{piece}
use Rattle.sync_lex.specs.Spelling.{IsSpelled, line_at, IsLexeme, Gaps, nothing, AreParted}
use Rattle.sync_lex.specs.Lexemes.{Lexed, line_after, with_first, with_piece, lexemes_from, lexemes_of}
use Rattle.sync_lex.proofs.Within.{IsIn, piece_is_in}
use Rattle.sync_lex.proofs.Parting.{IsParting, parted_less, piece_parts}
use Rattle.sync_lex.proofs.Matches.{NoLonger, IsMatch, piece_is_match}

abbrev pub IsBefore : Lexeme → Lexeme → Type 0
IsBefore x y = x.end ≤ y.start

-- lexemes and a last line, as they come from a place on
pub record Lie (text : List ℕ) (low : ℕ) (x : List Lexeme × ℕ) : Type 0 where
  pub each : AllByRecursion (IsLexeme text) x.0
  pub behind : AllByRecursion (λ y. low ≤ y.start) x.0
  pub apart : AllPairs IsBefore x.0
  pub last : x.1 ≡ line_at text (length text)
  pub parted : AreParted text low x.0

ok_is : (a b : List Lexeme × ℕ) → ◌≡◌ {A = Lexed} (Ok a) (Ok b) → a ≡ b
ok_is a b e = cc

with_first_ok : (w : Lexeme) (rest : Lexed) (x : List Lexeme × ℕ) → with_first w rest ≡ Ok x → (y : List Lexeme × ℕ) × (rest ≡ Ok y) × ((w ∷ y.0, y.1) ≡ x)
with_first_ok w (Ok y) x e = (y, refl, ok_is (w ∷ y.0, y.1) x e)
with_first_ok w (Err r) x e = absurd cc

behind_less : (low high : ℕ) (xs : List Lexeme) → low ≤ high → AllByRecursion (λ y. high ≤ y.start) xs → AllByRecursion (λ y. low ≤ y.start) xs
behind_less low high [] le all = tt
behind_less low high (y ∷ xs) le all = (omega (arith, all.0), behind_less low high xs le all.1)

-- from a place before a gap
lie_less : (text : List ℕ) (low high : ℕ) (x : List Lexeme × ℕ) → low ≤ high → Gaps (drop low text) (drop high text) → Lie text high x → Lie text low x
lie_less text low high x le gap h = record {
  each = h.each;
  behind = behind_less low high x.0 le h.behind;
  apart = h.apart;
  last = h.last;
  parted = parted_less text low high x.0 gap h.parted;
}

no_gap : (text : List ℕ) (low high : ℕ) → low ≡ high → Gaps (drop low text) (drop high text)
no_gap text low high e = subst (λ n. Gaps (drop low text) (drop n text)) e nothing

module _ (text : List ℕ) (at line b : ℕ) (bytes : List ℕ) (here : drop at text ≡ b ∷ bytes) (lined : line ≡ line_at text at) where
  at_within : at + (length bytes + 1) ≡ length text
  at_within = omega (arith, length-drop at text, ap length here)

  at_byte : get_or text at 0 ≡ b
  at_byte = let lt : at < length text = omega (arith, at_within) in let e = drop-cons text at 0 lt in cc

  next_rest : drop (at + 1) text ≡ bytes
  next_rest = let lt : at < length text = omega (arith, at_within) in let e = drop-cons text at 0 lt in rw add-one cc

  line_by : (feed : Bool) → eqb b 10 ≡ feed → cond feed (line + 1) line ≡ line_at text (at + 1)
  line_by true e =
      let lt : at < length text = omega (arith, at_within) in
      omega (arith, count_by_more_yes (λ c. c == 10) text at 0 lt (rw at_byte e))
  line_by false e =
      let lt : at < length text = omega (arith, at_within) in
      omega (arith, count_by_more_no (λ c. c == 10) text at 0 lt (rw at_byte e))

  next_line : line_after b line ≡ line_at text (at + 1)
  next_line = line_by (eqb b 10) refl

  word_is : (kind : Kind) (len : ℕ) → (0 < len) × (len ≤ length (b ∷ bytes)) → IsSpelled kind (take len (b ∷ bytes)) × NoLonger (b ∷ bytes) len
      → IsLexeme text (record { kind = kind; start = at; end = at + len; line = line })
  word_is kind len fits match =
      let len_is : (at + len) - at ≡ len = omega arith in
      record {
        filled = omega arith;
        within = omega (arith, at_within);
        line = lined;
        spelled = rw (here, len_is) match.0;
        longest = λ other end lt le. rw here (match.1 other (end - at) (omega arith) (omega (arith, at_within)));
      }

  gap_here : (len : ℕ) → 0 < len → Gaps (b ∷ bytes) (drop len (b ∷ bytes)) → Gaps (drop at text) (drop (at + 1 + (len - 1)) text)
  gap_here len some gap =
      let last : at + len ≡ at + 1 + (len - 1) = omega arith in
      let to : drop len (b ∷ bytes) ≡ drop (at + 1 + (len - 1)) text = ap (drop len) (sym here) ∙ drop-drop len at text ∙ ap (λ (n : ℕ). drop n text) last in
      subst (λ z. Gaps z (drop (at + 1 + (len - 1)) text)) (sym here) (subst (λ z. Gaps (b ∷ bytes) z) to gap)

  lies_placed : (p : Piece) (follows : ℕ → Lexed) → IsIn (length (b ∷ bytes)) p → IsMatch (b ∷ bytes) p → IsParting (b ∷ bytes) p
      → ((skip : ℕ) (y : List Lexeme × ℕ) → skip ≤ length bytes → follows skip ≡ Ok y → Lie text (at + 1 + skip) y)
      → (x : List Lexeme × ℕ) → with_piece at line p follows ≡ Ok x → Lie text at x
  lies_placed (Gap len) follows fits match gap later x e = lie_less text at (at + 1 + (len - 1)) x (omega arith) (gap_here len fits.0 gap) (later (len - 1) x (omega arith) e)
  lies_placed (Match kind len) follows fits match gap later x e =
      let w : Lexeme = record { kind = kind; start = at; end = at + len; line = line } in
      let parts = with_first_ok w (follows (len - 1)) x e in
      let rest = later (len - 1) parts.0 (omega arith) parts.1 in
      let behind = behind_less (at + len) (at + 1 + (len - 1)) parts.0.0 (omega arith) rest.behind in
      subst (Lie text at) parts.2 (record {
        each = (word_is kind len fits match, rest.each);
        behind = (omega arith, behind_less at (at + len) parts.0.0 (omega arith) behind);
        apart = AllPairs-cons IsBefore w parts.0.0 (All-from_recursion (IsBefore w) parts.0.0 behind) rest.apart;
        last = rest.last;
        parted = (nothing, subst (λ n. AreParted text n parts.0.0) (omega arith) rest.parted);
      })
  lies_placed (Broken rule) follows fits match gap later x e = absurd cc

none_apart : AllPairs IsBefore []
none_apart i j d lt le = absurd (omega arith)

lies_from : (text : List ℕ) (at line skip : ℕ) (bytes : List ℕ) (x : List Lexeme × ℕ) → drop at text ≡ bytes → line ≡ line_at text at → skip ≤ length bytes
    → lexemes_from at line skip bytes ≡ Ok x → Lie text (at + skip) x
unfolding lexemes_from
lies_from text at line skip [] x here lined fits e =
    let past : length text ≤ at = omega (arith, length-drop at text, ap length here) in
    subst (Lie text (at + skip)) (ok_is ([], line) x e)
    (record {
      each = tt;
      behind = tt;
      apart = none_apart;
      last = rw (lined, take_all at text past, take_all (length text) text (omega arith)) refl;
      parted = subst (λ z. Gaps z []) (sym (drop_all (at + skip) text (omega arith))) nothing;
    })
lies_from text at line (suc skip) (b ∷ bytes) x here lined fits e =
    lie_less text (at + suc skip) (at + 1 + skip) x (omega arith) (no_gap text (at + suc skip) (at + 1 + skip) (omega arith))
    (lies_from text (at + 1) (line_after b line) skip bytes x (next_rest text at line b bytes here lined) (next_line text at line b bytes here lined) (omega arith) e)
lies_from text at line zero (b ∷ bytes) x here lined fits e =
    lie_less text (at + 0) at x (omega arith) (no_gap text (at + 0) at (omega arith))
    (lies_placed text at line b bytes here lined (piece (b ∷ bytes)) (λ skip. lexemes_from (at + 1) (line_after b line) skip bytes) (piece_is_in (b ∷ bytes)) (piece_is_match (b ∷ bytes))
    (piece_parts (b ∷ bytes))
    (λ skip y le is. lies_from text (at + 1) (line_after b line) skip bytes y (next_rest text at line b bytes here lined) (next_line text at line b bytes here lined) le is) x e)

past_limit : (c : Bool) (fault : Refusal) (read : Lexed) (x : List Lexeme × ℕ) → cond c (Err fault) read ≡ Ok x → read ≡ Ok x
past_limit true fault read x e = absurd cc
past_limit false fault read x e = e

pub lies : (text : List ℕ) (x : List Lexeme × ℕ) → lexemes_of text ≡ Ok x → Lie text 0 x
unfolding lexemes_of
lies text x e = lies_from text 0 1 0 text x refl refl (omega arith) (past_limit (nat_lt longest_text (length text)) (record { line = 1; rule = L1 }) (lexemes_from 0 1 0 text) x e)
