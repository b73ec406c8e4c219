-- The symbols of a program's words, and the names of the others; those of names are given by the store of terms.
use Rattle.std.specs.Prelude.{ℕ, ◌-◌, ◌/◌, ◌%◌, Bool, nat_eq}

-- what a clause says of its word: the word's value, and its number in its array
abbrev pub value_symbol : ℕ
value_symbol = 32

abbrev pub index_symbol : ℕ
index_symbol = 33

-- the value of a word before an operation on it, and the one after it
abbrev pub old_symbol : ℕ
old_symbol = 34

abbrev pub new_symbol : ℕ
new_symbol = 35

-- how often the newest calculation went round, or what it left over
abbrev pub wrap_symbol : ℕ
wrap_symbol = 36

-- From here on symbols are those of names.
abbrev pub first_name_symbol : ℕ
first_name_symbol = 64

-- the name that such a symbol is of, and whether it is `held` of it
abbrev pub name_of_symbol : ℕ → ℕ
name_of_symbol x = (x - first_name_symbol) / 4

abbrev pub is_held_symbol : ℕ → Bool
is_held_symbol x = nat_eq ((x - first_name_symbol) % 4) 2
