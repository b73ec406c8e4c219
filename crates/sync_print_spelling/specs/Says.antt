-- Terminals of a text that say lexemes.
use Rattle.std.specs.Prelude.{◌≡◌, ℕ, List, [], ◌∷◌, Option, Some}
use Rattle.sync_base.specs.declared.strategies.Strategy.{Strategy}
use Rattle.sync_lex.specs.declared.terminals.TerminalKind.TheVariants as what
use Rattle.sync_lex.specs.declared.terminals.Terminal.{Terminal}
use Rattle.sync_print.specs.Lexemes.{Lexeme, a_sign, a_number, a_name, a_strategy}

-- a terminal says a lexeme
abbrev pub SaysOne : Lexeme → Terminal → Type 0
SaysOne (a_sign s) w = w.what ≡ what.Sign s
SaysOne (a_number n) w = w.what ≡ what.Number n
SaysOne (a_name x) w = (s : Option Strategy) × (w.what ≡ what.Name x s)
SaysOne (a_strategy s) w = (x : ℕ) × (w.what ≡ what.Name x (Some s))

-- the terminals from a place on say these lexemes, and then come the rest
pub data Says : List Lexeme → List Terminal → List Terminal → Type 0 where
  no_more : {ts : List Terminal} → Says [] ts ts
  one_more : {x : Lexeme} {xs : List Lexeme} {w : Terminal} {ts rest : List Terminal} → SaysOne x w → Says xs ts rest → Says (x ∷ xs) (w ∷ ts) rest
