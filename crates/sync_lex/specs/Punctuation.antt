-- Which sign that is no reserved word stands at the front of bytes.
use Rattle.std.specs.Prelude.{ℕ, Bool, max, List, [], ◌∷◌, length, map, nat_eq, if◌then◌else◌}
use Rattle.std.specs.List.{starts_with, list_any}
use Rattle.sync_lex.specs.Signs.{symbols, spelling_of}

-- how the signs are written that are no reserved words
abbrev pub punctuation : List (List ℕ)
punctuation = map spelling_of symbols

-- whether the bytes begin with one of the spellings
abbrev pub begins_any : List (List ℕ) → List ℕ → Bool
begins_any spellings bytes = list_any (λ spelling. starts_with nat_eq bytes spelling) spellings

-- the length of the longest of the spellings that the bytes begin with, 0 where there is none
abbrev pub longest : List (List ℕ) → List ℕ → ℕ
longest [] bytes = 0
longest (spelling ∷ spellings) bytes = max (if starts_with nat_eq bytes spelling then length spelling else 0) (longest spellings bytes)

unfoldable pub sign_len : List ℕ → ℕ
sign_len bytes = longest punctuation bytes
