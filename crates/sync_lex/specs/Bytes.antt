-- Which bytes begin, continue and part lexemes.
use Rattle.std.specs.Prelude.{ℕ, ◌-◌, Bool, ◌==◌, ◌||◌, List, length, slice_index_or}
use Rattle.std.specs.Char.{is_ascii_alphabetic, is_ascii_alphanumeric, is_ascii_digit}
use Rattle.std.specs.Str.Parse.{digits_value}

-- a space, a tab, a carriage return or a line feed
unfoldable pub is_blank : ℕ → Bool
is_blank b = b == 32 || b == 9 || b == 13 || b == 10

unfoldable pub begins_name : ℕ → Bool
begins_name b = is_ascii_alphabetic b || b == 95

unfoldable pub continues_name : ℕ → Bool
continues_name b = is_ascii_alphanumeric b || b == 95

-- the number that decimal digits write, the most significant first
abbrev pub number_value : List ℕ → ℕ
number_value digits = digits_value 10 digits

-- the last byte is a digit
abbrev pub ends_in_digit : List ℕ → Bool
ends_in_digit bytes = is_ascii_digit (slice_index_or bytes (length bytes - 1) 0)
