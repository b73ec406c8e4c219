-- What the lexemes of a text say.
use Rattle.std.specs.Prelude.{ℕ, ◌+◌, ◌-◌, ◌*◌, Bool, false, List, [], ◌∷◌, ◌++◌, length, min, nat_le, slice_range, ◌&&◌, if◌then◌else◌, Option, Some, None, MatchOption, Result, Ok, ◌≡◌}
use Rattle.std.specs.List.{list_any, position_or_len}
use Rattle.std.specs.Str.{bytes_eq}
use Rattle.sync_base.specs.declared.stops.Refusal.{Refusal}
use Rattle.sync_base.specs.declared.names.Name.{Name}
use Rattle.sync_base.specs.Outcome.{◌>>=◌}
use Rattle.sync_lex.specs.declared.lexemes.Lexeme.{Lexeme}
use Rattle.sync_lex.specs.declared.lexemes.Kind.{Kind}
use Rattle.sync_lex.specs.declared.lexemes.Kind.TheVariants as kind
use Rattle.sync_lex.specs.Lexemes.{lexemes_of}
use Rattle.sync_lex.specs.declared.signs.Sign.{Sign}
use Rattle.sync_lex.specs.declared.terminals.TerminalKind.{TerminalKind}
use Rattle.sync_lex.specs.declared.terminals.TerminalKind.TheVariants as what
use Rattle.sync_lex.specs.declared.terminals.Terminal.{Terminal}
use Rattle.sync_lex.specs.declared.terminals.Terminals.{Terminals}
use Rattle.sync_base.specs.Limits.{largest}
use Rattle.sync_lex.specs.Signs.{is_same, sign_of}
use Rattle.sync_lex.specs.Strategies.{strategy_of}

abbrev pub says_sign : TerminalKind → Sign → Bool
says_sign (what.Sign own) s = is_same own s
says_sign (what.Name n strategy) s = false
says_sign (what.Number n) s = false

abbrev pub is_sign : Terminal → Sign → Bool
is_sign w s = says_sign w.what s

-- the number that decimal digits write behind those of n
abbrev pub decimal_after : ℕ → List ℕ → ℕ
decimal_after n [] = n
decimal_after n (digit ∷ digits) = decimal_after (n * 10 + (digit - 48)) digits

-- the number that decimal digits write, cut off at 2 ^ 127 - 1
unfoldable pub number_of : List ℕ → ℕ
number_of digits = min largest (decimal_after 0 digits)

-- the bytes of a lexeme; none where it does not lie in the text
unfoldable pub bytes_at : List ℕ → Lexeme → List ℕ
bytes_at text x = if nat_le x.start x.end && nat_le x.end (length text) then slice_range text x.start x.end else []

abbrev pub name_of : List ℕ → Name
name_of bytes = record { bytes = bytes }

abbrev pub spells : List ℕ → Name → Bool
spells bytes name = bytes_eq bytes name.bytes

-- the number of a spelling in a list of names: its place, or the next free number
unfoldable pub number_in : List Name → List ℕ → ℕ
number_in names bytes = position_or_len (spells bytes) names

-- the names with a spelling, at the end where it was not there
unfoldable pub names_with : List Name → List ℕ → List Name
names_with names bytes = if list_any (spells bytes) names then names else names ++ name_of bytes ∷ []

-- what names and signs say, and the names with it; a sign or a reserved word is no name
abbrev pub named : List Name → List ℕ → Option Sign → TerminalKind × List Name
named names bytes (Some s) = (what.Sign s, names)
named names bytes None = (what.Name (number_in names bytes) (strategy_of bytes), names_with names bytes)

abbrev pub said : List Name → Kind → List ℕ → TerminalKind × List Name
said names kind.Number bytes = (what.Number (number_of bytes), names)
said names kind.Name bytes = named names bytes (sign_of bytes)
said names kind.Sign bytes = named names bytes (sign_of bytes)

-- what a table says of bytes is what they say as names and signs, and adds no name; bytes that it lacks are no name so far
abbrev pub Recalls : List Name → (List ℕ → Option TerminalKind) → Type 0
Recalls names table = (bytes : List ℕ) → MatchOption (table bytes) (list_any (spells bytes) names ≡ false) (λ w. (w, names) ≡ named names bytes (sign_of bytes))

-- the terminals of these lexemes behind some terminals, with the names so far
unfoldable pub terminals_after : List ℕ → List Terminal → List Name → List Lexeme → List Terminal × List Name
terminals_after text held names [] = (held, names)
terminals_after text held names (x ∷ xs) =
    let s = said names x.kind (bytes_at text x) in
    terminals_after text (held ++ record { what = s.0; line = x.line } ∷ []) s.1 xs

-- the terminals of a text and its names, in the order of their first appearance
unfoldable pub terminals_of : List ℕ → List Lexeme → List Terminal × List Name
terminals_of text lexemes = terminals_after text [] [] lexemes

-- the terminals of a text, its names and the line of its end, or the first rule L that it breaks
unfoldable pub terminals_in : List ℕ → Result Terminals Refusal
terminals_in text = lexemes_of text >>= λ t. (let w = terminals_of text t.0 in Ok (record { list = w.0; names = record { list = w.1 }; last_line = t.1 }))
