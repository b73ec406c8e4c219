-- The lexemes of a canonical form, and terminals that say them.
use Rattle.std.specs.Prelude.{◌≡◌, ℕ, List, [], ◌∷◌, Option, Some}
use Rattle.sync_base.specs.declared.strategies.Strategy.{Strategy}
use Rattle.sync_lex.specs.declared.signs.Sign.{Sign}
use Rattle.sync_lex.specs.declared.terminals.TerminalKind.TheVariants as what
use Rattle.sync_lex.specs.declared.terminals.Terminal.{Terminal}

-- a sign or reserved word, a number, a name by its place in a list of names, or the name of a strategy
pub data Lexeme : Type 0 where
  a_sign : Sign → Lexeme
  a_number : ℕ → Lexeme
  a_name : ℕ → Lexeme
  a_strategy : Strategy → Lexeme

-- a terminal says a lexeme
abbrev pub IsSaid : Lexeme → Terminal → Type 0
IsSaid (a_sign s) w = w.what ≡ what.Sign s
IsSaid (a_number n) w = w.what ≡ what.Number n
IsSaid (a_name x) w = (s : Option Strategy) × (w.what ≡ what.Name x s)
IsSaid (a_strategy s) w = (x : ℕ) × (w.what ≡ what.Name x (Some s))

-- the terminals from a place on say these lexemes, and then come the rest
pub data Says : List Lexeme → List Terminal → List Terminal → Type 0 where
  no_more : {ts : List Terminal} → Says [] ts ts
  one_more : {x : Lexeme} {xs : List Lexeme} {w : Terminal} {ts rest : List Terminal} → IsSaid x w → Says xs ts rest → Says (x ∷ xs) (w ∷ ts) rest
