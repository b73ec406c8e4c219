-- What stands at the front of a text: the longest match.
use Rattle.std.specs.Prelude.{ℕ, zero, suc, ◌==◌, not, List, [], ◌∷◌, length, codes, nat_eq, nat_lt, if◌then◌else◌}
use Rattle.std.specs.Char.{is_ascii_digit}
use Rattle.std.specs.List.{starts_with, prefix_len, take_while}
use Rattle.sync_base.specs.declared.stops.Rule.TheVariants.{L2, L3, L4}
use Rattle.sync_lex.specs.declared.lexemes.Kind.TheVariants.{Name, Number, Sign}
use Rattle.sync_lex.specs.declared.pieces.Piece.{Piece}
use Rattle.sync_lex.specs.declared.pieces.Piece.TheVariants.{Gap, Match, Broken}
use Rattle.sync_lex.specs.Bytes.{is_blank, begins_name, continues_name, number_value}
use Rattle.sync_base.specs.Limits.{longest_name, largest}
use Rattle.sync_lex.specs.Punctuation.{sign_len}

-- a name of so many bytes
abbrev pub name_piece : ℕ → Piece
name_piece len = if nat_lt longest_name len then Broken L4 else Match Name len

-- a number of these digits
abbrev pub number_piece : List ℕ → Piece
number_piece digits = if nat_lt largest (number_value digits) then Broken L3 else Match Number (length digits)

-- a sign of so many bytes
abbrev pub sign_piece : ℕ → Piece
sign_piece zero = Broken L2
sign_piece (suc len) = Match Sign (suc len)

-- a blank, a name, a number, a comment to the end of its line, or a sign
unfoldable pub piece : List ℕ → Piece
piece [] = Broken L2
piece (b ∷ bytes) =
    if is_blank b then Gap 1
    else if begins_name b then name_piece (prefix_len continues_name (b ∷ bytes))
    else if is_ascii_digit b then number_piece (take_while is_ascii_digit (b ∷ bytes))
    else if starts_with nat_eq (b ∷ bytes) (codes "//") then Gap (prefix_len (λ c. not (c == 10)) (b ∷ bytes))
    else sign_piece (sign_len (b ∷ bytes))
