-- How a text falls into lexemes.
use Rattle.std.specs.Prelude.{ℕ, zero, suc, ◌+◌, ◌-◌, ◌==◌, List, [], ◌∷◌, length, Result, Ok, Err, nat_lt, if◌then◌else◌}
use Rattle.sync_base.specs.declared.stops.Refusal.{Refusal}
use Rattle.sync_base.specs.declared.stops.Rule.TheVariants.{L1}
use Rattle.sync_base.specs.Outcome.{◌>>=◌}
use Rattle.sync_lex.specs.declared.lexemes.Lexeme.{Lexeme}
use Rattle.sync_lex.specs.declared.pieces.Piece.{Piece}
use Rattle.sync_lex.specs.declared.pieces.Piece.TheVariants.{Gap, Match, Broken}
use Rattle.sync_base.specs.Limits.{longest_text}
use Rattle.sync_lex.specs.Pieces.{piece}

-- lexemes in order and the line of the end, or the first broken rule
abbrev pub Lexed : Type 0
Lexed = Result (List Lexeme × ℕ) Refusal

-- the line behind a byte
abbrev pub line_after : ℕ → ℕ → ℕ
line_after b line = if b == 10 then line + 1 else line

abbrev pub with_first : Lexeme → Lexed → Lexed
with_first x rest = rest >>= λ r. Ok (x ∷ r.0, r.1)

-- a piece at this place and line, and what follows it where so many bytes more belong to it
abbrev pub with_piece : ℕ → ℕ → Piece → (ℕ → Lexed) → Lexed
with_piece at line (Gap len) follows = follows (len - 1)
with_piece at line (Match kind len) follows = with_first (record { kind = kind; start = at; end = at + len; line = line }) (follows (len - 1))
with_piece at line (Broken rule) follows = Err (record { line = line; rule = rule })

-- the lexemes from a place and a line on, where the next so many bytes belong to a piece before them
unfoldable pub lexemes_from : ℕ → ℕ → ℕ → List ℕ → Lexed
lexemes_from at line skip [] = Ok ([], line)
lexemes_from at line (suc skip) (b ∷ bytes) = lexemes_from (at + 1) (line_after b line) skip bytes
lexemes_from at line zero (b ∷ bytes) = with_piece at line (piece (b ∷ bytes)) (λ skip. lexemes_from (at + 1) (line_after b line) skip bytes)

-- the lexemes of a text and the line of its end
unfoldable pub lexemes_of : List ℕ → Lexed
lexemes_of text = if nat_lt longest_text (length text) then Err (record { line = 1; rule = L1 }) else lexemes_from 0 1 0 text
