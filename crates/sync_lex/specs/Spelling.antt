-- What lexemes are, apart from how they are found.
use Rattle.std.specs.Prelude.{◌≡◌, ℕ, ◌+◌, ◌<◌, ◌≤◌, ◌==◌, not, IsTrue, List, [], ◌∷◌, length, take, drop, slice_range, count_by, codes, nat_eq, Contains}
use Rattle.std.specs.Char.{is_ascii_digit}
use Rattle.std.specs.List.{list_all, prefix_len, starts_with}
use Rattle.sync_lex.specs.declared.lexemes.Kind.{Kind}
use Rattle.sync_lex.specs.declared.lexemes.Kind.TheVariants.{Name, Number, Sign}
use Rattle.sync_lex.specs.declared.lexemes.Lexeme.{Lexeme}
use Rattle.sync_lex.specs.Bytes.{is_blank, begins_name, continues_name}
use Rattle.sync_lex.specs.Punctuation.{punctuation}

-- the bytes spell a lexeme of the kind
abbrev pub IsSpelled : Kind → List ℕ → Type 0
IsSpelled Name [] = ⊥
IsSpelled Name (b ∷ bytes) = IsTrue (begins_name b) × IsTrue (list_all continues_name bytes)
IsSpelled Number [] = ⊥
IsSpelled Number (b ∷ bytes) = IsTrue (list_all is_ascii_digit (b ∷ bytes))
IsSpelled Sign bytes = Contains punctuation bytes

-- the line of a place: 1 and the line feeds before it
abbrev pub line_at : List ℕ → ℕ → ℕ
line_at text at = 1 + count_by (λ b. b == 10) (take at text)

-- bytes of the text that spell a lexeme of its kind, on their line, and no longer run of bytes from there spells one
pub record IsLexeme (text : List ℕ) (x : Lexeme) : Type 0 where
  pub filled : x.start < x.end
  pub within : x.end ≤ length text
  pub line : x.line ≡ line_at text x.start
  pub spelled : IsSpelled x.kind (slice_range text x.start x.end)
  pub longest : (kind : Kind) (end : ℕ) → x.end < end → end ≤ length text → ¬ (IsSpelled kind (slice_range text x.start end))

-- from the next line feed on
abbrev pub behind_line : List ℕ → List ℕ
behind_line bytes = drop (prefix_len (λ b. not (b == 10)) bytes) bytes

-- from these bytes to those stand blanks and comments alone; a comment is `//` and all up to the next line feed, or to the end
pub data Gaps : List ℕ → List ℕ → Type 0 where
  nothing : {bytes : List ℕ} → Gaps bytes bytes
  blank : {b : ℕ} {bytes rest : List ℕ} → IsTrue (is_blank b) → Gaps bytes rest → Gaps (b ∷ bytes) rest
  comment : {bytes rest : List ℕ} → IsTrue (starts_with nat_eq bytes (codes "//")) → Gaps (behind_line bytes) rest → Gaps bytes rest

-- from a place on, before the first lexeme, between them and behind the last stand blanks and comments alone
abbrev pub AreParted : List ℕ → ℕ → List Lexeme → Type 0
AreParted text at [] = Gaps (drop at text) []
AreParted text at (x ∷ xs) = Gaps (drop at text) (drop x.start text) × AreParted text x.end xs
