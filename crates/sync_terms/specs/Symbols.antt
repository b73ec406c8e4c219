-- The symbols that a name of the text has; those below 64 are fields and words.
use Rattle.std.specs.Prelude.{ℕ, suc, ◌+◌, ◌*◌}

-- the name with number n as a parameter, bound name, local or proof name
abbrev pub name_symbol : ℕ → ℕ
name_symbol n = 64 + 4 * n

-- `$` before the name of a symbol
abbrev pub dollar_symbol : ℕ → ℕ
dollar_symbol x = suc x

-- `held` of the name of a symbol, as a token's name
abbrev pub held_symbol : ℕ → ℕ
held_symbol x = suc (suc x)
