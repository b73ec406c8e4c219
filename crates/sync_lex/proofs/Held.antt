-- Reading on with the lexemes found so far, as the loop does.
use Rattle.std.proofs.Common.{◌≡◌, ℕ, zero, suc, ◌+◌, ◌-◌, ◌<◌, ◌≤◌, add-one, length, drop, take, drop-cons, length-drop, ◌≢◌, ne_eqb, get_or, arith, List, [], ◌∷◌, ◌++◌, Ok, Err, refl, sym, ap, ◌∙◌, append_assoc}
use Rattle.std.proofs.lemmas.List.{append-nil, drop_all, take_all}
use Rattle.std.proofs.lemmas.Bool.{le-ltb}
use Rattle.sync_base.specs.Limits.{longest_text}
use Rattle.sync_base.specs.declared.stops.Rule.{Rule}
use Rattle.sync_base.specs.Outcome.{◌>>=◌}
use Rattle.sync_lex.specs.declared.lexemes.Kind.{Kind}
use Rattle.sync_lex.specs.declared.lexemes.Lexeme.{Lexeme}
use Rattle.sync_lex.specs.declared.pieces.Piece.{Piece}
use Rattle.sync_lex.specs.declared.pieces.Piece.TheVariants.{Gap, Match, Broken}
use Rattle.sync_lex.specs.Pieces.{piece}
use Rattle.sync_lex.specs.Lexemes.{Lexed, line_after, with_first, with_piece, lexemes_from, lexemes_of}

-- as placed, behind the lexemes found so far
abbrev pub held_on : List Lexeme → ℕ → ℕ → Piece → (List Lexeme → ℕ → Lexed) → Lexed
held_on held at line (Gap len) follows = follows held (len - 1)
held_on held at line (Match kind len) follows = follows (held ++ record { kind = kind; start = at; end = at + len; line = line } ∷ []) (len - 1)
held_on held at line (Broken rule) follows = Err (record { line = line; rule = rule })

-- the loop: lexemes_from, behind the lexemes found so far
abbrev pub held_from : List Lexeme → ℕ → ℕ → ℕ → List ℕ → Lexed
held_from held at line skip [] = Ok (held, line)
held_from held at line (suc skip) (b ∷ bytes) = held_from held (at + 1) (line_after b line) skip bytes
held_from held at line zero (b ∷ bytes) = held_on held at line (piece (b ∷ bytes)) (λ more skip. held_from more (at + 1) (line_after b line) skip bytes)

abbrev with_front : List Lexeme → Lexed → Lexed
with_front held rest = rest >>= λ r. Ok (held ++ r.0, r.1)

held_first : (held : List Lexeme) (x : Lexeme) (rest : Lexed) → with_front (held ++ x ∷ []) rest ≡ with_front held (with_first x rest)
held_first held x (Ok r) = ap (λ (xs : List Lexeme). Ok (xs, r.1)) (append_assoc held (x ∷ []) r.0)
held_first held x (Err e) = refl

held_placed : (held : List Lexeme) (at line : ℕ) (p : Piece) (follows : List Lexeme → ℕ → Lexed) (alone : ℕ → Lexed)
    → ((more : List Lexeme) (skip : ℕ) → follows more skip ≡ with_front more (alone skip)) → held_on held at line p follows ≡ with_front held (with_piece at line p alone)
held_placed held at line (Gap len) follows alone same = same held (len - 1)
held_placed held at line (Match kind len) follows alone same =
    let x : Lexeme = record { kind = kind; start = at; end = at + len; line = line } in
    same (held ++ x ∷ []) (len - 1) ∙ held_first held x (alone (len - 1))
held_placed held at line (Broken rule) follows alone same = refl

held_from_is : (held : List Lexeme) (at line skip : ℕ) (bytes : List ℕ) → held_from held at line skip bytes ≡ with_front held (lexemes_from at line skip bytes)
unfolding lexemes_from
held_from_is held at line skip [] = ap (λ (xs : List Lexeme). Ok (xs, line)) (sym (append-nil held))
held_from_is held at line (suc skip) (b ∷ bytes) = held_from_is held (at + 1) (line_after b line) skip bytes
held_from_is held at line zero (b ∷ bytes) =
    held_placed held at line (piece (b ∷ bytes)) (λ more skip. held_from more (at + 1) (line_after b line) skip bytes) (λ skip. lexemes_from (at + 1) (line_after b line) skip bytes)
    (λ more skip. held_from_is more (at + 1) (line_after b line) skip bytes)

front_nil : (rest : Lexed) → with_front [] rest ≡ rest
front_nil (Ok r) = refl
front_nil (Err e) = refl

pub held_is : (at line skip : ℕ) (bytes : List ℕ) → lexemes_from at line skip bytes ≡ held_from [] at line skip bytes
held_is at line skip bytes = sym (held_from_is [] at line skip bytes ∙ front_nil (lexemes_from at line skip bytes))

module _ (text : List ℕ) (held : List Lexeme) (at line : ℕ) (total : Lexed) where
  at_byte : at < length text → drop at text ≡ get_or text at 0 ∷ drop (at + 1) text
  at_byte lt = drop-cons text at 0 lt ∙ rw add-one refl

  -- what follows where a piece before this place goes on, or a gap or a word begins here
  pub goes_on : (skip : ℕ) → at < length text → 0 < skip → held_from held at line skip (drop at text) ≡ total
      → held_from held (at + 1) (line_after (get_or text at 0) line) (skip - 1) (drop (at + 1) text) ≡ total
  goes_on skip lt some so_far =
      let more : skip ≡ suc (skip - 1) = omega arith in
      let one : held_from held at line skip (drop at text) ≡ held_from held (at + 1) (line_after (get_or text at 0) line) (skip - 1) (drop (at + 1) text) =
      ap (λ (k : ℕ). held_from held at line k (drop at text)) more ∙ ap (held_from held at line (suc (skip - 1))) (at_byte lt) in
      sym one ∙ so_far

  begins : at < length text → held_from held at line 0 (drop at text) ≡ total
      → held_on held at line (piece (drop at text)) (λ more skip. held_from more (at + 1) (line_after (get_or text at 0) line) skip (drop (at + 1) text)) ≡ total
  begins lt so_far = rw (at_byte lt) (rw (at_byte lt) at so_far)

  pub gap_begins : (len : ℕ) → at < length text → Gap len ≡ piece (drop at text) → held_from held at line 0 (drop at text) ≡ total
      → held_from held (at + 1) (line_after (get_or text at 0) line) (len - 1) (drop (at + 1) text) ≡ total
  gap_begins len lt is so_far = rw (← is) at (begins lt so_far)

  pub word_begins : (kind : Kind) (len : ℕ) → at < length text → Match kind len ≡ piece (drop at text) → held_from held at line 0 (drop at text) ≡ total
      → held_from (held ++ record { kind = kind; start = at; end = at + len; line = line } ∷ []) (at + 1) (line_after (get_or text at 0) line) (len - 1) (drop (at + 1) text) ≡ total
  word_begins kind len lt is so_far = rw (← is) at (begins lt so_far)

  pub is_broken : (rule : Rule) → at < length text → Broken rule ≡ piece (drop at text) → held_from held at line 0 (drop at text) ≡ total
      → total ≡ Err (record { line = line; rule = rule })
  is_broken rule lt is so_far = sym (rw (← is) at (begins lt so_far))

  pub is_done : (skip : ℕ) → length text ≤ at → held_from held at line skip (drop at text) ≡ total → total ≡ Ok (held, line)
  is_done skip le so_far = sym so_far ∙ ap (held_from held at line skip) (drop_all at text le)

-- what is read at a place is what is left there
pub read_here : (text : List ℕ) (at : ℕ) (p : Piece) → p ≡ piece (take (length text - at) (drop at text)) → p ≡ piece (drop at text)
read_here text at p is = is ∙ ap piece (take_all (length text - at) (drop at text) (omega (arith, length-drop at text)))

pub is_next_line : (b line new : ℕ) → b ≡ 10 → new ≡ line + 1 → new ≡ line_after b line
is_next_line b line new feed is = rw feed is

pub is_same_line : (b line new : ℕ) → b ≢ 10 → new ≡ line → new ≡ line_after b line
is_same_line b line new other is = rw (ne_eqb b 10 other) is

-- where the text is not too long, the loop gives its lexemes
pub whole : (text : List ℕ) → length text ≤ longest_text → lexemes_of text ≡ held_from [] 0 1 0 text
unfolding lexemes_of
whole text le = rw (le-ltb longest_text (length text) le) (held_is 0 1 0 text)
