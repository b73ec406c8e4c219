-- The symbols that a program's terms name besides fields: words of the language, names, and `held` of tokens.
use Rattle.std.specs.Prelude.{◌≡◌, ℕ, ◌<◌, List, map}
use Rattle.sync_terms.specs.Symbols.{name_symbol, held_symbol}
use Rattle.sync_thread.specs.Arrays.{name_limit}
-- what the words of the language stand for, handed on
pub use Rattle.sync_thread.specs.Symbols.{value_symbol, index_symbol, old_symbol, new_symbol, wrap_symbol}

-- `held` of the token with the name of this number
abbrev pub held_of : ℕ → ℕ
held_of n = held_symbol (name_symbol n)

abbrev pub symbols : List ℕ → List ℕ
symbols ns = map name_symbol ns

-- Symbols from here on are no text's: they stand after those of all names.
abbrev pub first_fresh : ℕ
first_fresh = name_symbol name_limit

-- Whatever two names of texts are: their symbols and those of their tokens differ, and none is a word's or a new one.
pub record SymbolsDiffer : Type 0 where
  pub names : (m n : ℕ) → name_symbol m ≡ name_symbol n → m ≡ n
  pub tokens : (m n : ℕ) → held_of m ≡ held_of n → m ≡ n
  pub apart : (m n : ℕ) → name_symbol m ≡ held_of n → ⊥
  pub no_word : (n : ℕ) → wrap_symbol < name_symbol n
  pub old_names : (n : ℕ) → n < name_limit → name_symbol n < first_fresh
  pub old_tokens : (n : ℕ) → n < name_limit → held_of n < first_fresh
