-- What terminals and lexemes leave behind: names, or how often a word stands, or any other trace.
use Rattle.std.specs.Prelude.{◌≡◌, ℕ, List, [], ◌∷◌, ◌++◌}
use Rattle.sync_base.specs.declared.strategies.Strategy.{Strategy}
use Rattle.sync_lex.specs.declared.signs.Sign.{Sign}
use Rattle.sync_lex.specs.declared.terminals.TerminalKind.{TerminalKind}
use Rattle.sync_lex.specs.declared.terminals.TerminalKind.TheVariants as what
use Rattle.sync_lex.specs.declared.terminals.Terminal.{Terminal}
use Rattle.sync_parse_forms.specs.Lexemes.{Lexeme, a_sign, a_number, a_name, a_strategy}

-- what a lexeme leaves; the name of a strategy is looked at by itself
pub record Trace (T : Type 0) : Type 0 where
  pub of_sign : Sign → List T
  pub of_number : ℕ → List T
  pub of_name : ℕ → List T
  pub of_strategy : Strategy → List T

abbrev pub of_what : {T : Type 0} → Trace T → TerminalKind → List T
of_what t (what.Sign s) = t.of_sign s
of_what t (what.Number n) = t.of_number n
of_what t (what.Name x strategy) = t.of_name x

abbrev pub of_terminals : {T : Type 0} → Trace T → List Terminal → List T
of_terminals t [] = []
of_terminals t (w ∷ ws) = of_what t w.what ++ of_terminals t ws

abbrev pub of_lexeme : {T : Type 0} → Trace T → Lexeme → List T
of_lexeme t (a_sign s) = t.of_sign s
of_lexeme t (a_number n) = t.of_number n
of_lexeme t (a_name x) = t.of_name x
of_lexeme t (a_strategy s) = t.of_strategy s

abbrev pub of_lexemes : {T : Type 0} → Trace T → List Lexeme → List T
of_lexemes t [] = []
of_lexemes t (x ∷ xs) = of_lexeme t x ++ of_lexemes t xs

-- between two places terminals leave what these lexemes leave
pub record Traced {T : Type 0} (t : Trace T) (xs : List Lexeme) (ts rest : List Terminal) : Type 0 where
  pub same : of_terminals t ts ≡ of_lexemes t xs ++ of_terminals t rest
