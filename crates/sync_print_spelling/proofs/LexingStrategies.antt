-- A strategy's spelling with a space behind it is one lexeme.
use Rattle.std.proofs.Common.{◌≡◌, ◌<◌, ℕ, true, List, ◌∷◌, length, drop, refl, arith}
use Rattle.sync_base.specs.declared.strategies.Strategy.{Strategy}
use Rattle.sync_base.specs.declared.strategies.Strategy.TheVariants as strategy
use Rattle.sync_lex.specs.declared.lexemes.Kind.TheVariants as kind
use Rattle.sync_lex.specs.Bytes.{is_blank, begins_name, continues_name}
use Rattle.sync_lex.specs.Pieces.{piece}
use Rattle.sync_lex.specs.Lexemes.{lexemes_from}
use Rattle.sync_lex.specs.Strategies.{spelling_of}
use Rattle.sync_print_spelling.proofs.Lexing.{Begins, one_line}

pub record IsOne (s : Strategy) : Type 0 where
  pub some : 0 < length (spelling_of s)
  pub line : one_line (drop 1 (spelling_of s)) ≡ true
  pub space : (rest : List ℕ) → Begins kind.Name (spelling_of s) (32 ∷ rest)

pub one_strategy : (s : Strategy) → IsOne s
unfolding lexemes_from piece is_blank begins_name continues_name spelling_of
one_strategy strategy.Variable = record { some = omega arith; line = refl; space = λ rest at line. refl }
one_strategy strategy.Constant = record { some = omega arith; line = refl; space = λ rest at line. refl }
one_strategy strategy.NotTokenized = record { some = omega arith; line = refl; space = λ rest at line. refl }
one_strategy strategy.Option = record { some = omega arith; line = refl; space = λ rest at line. refl }
one_strategy strategy.Map = record { some = omega arith; line = refl; space = λ rest at line. refl }
one_strategy strategy.Set = record { some = omega arith; line = refl; space = λ rest at line. refl }
one_strategy strategy.Multiset = record { some = omega arith; line = refl; space = λ rest at line. refl }
one_strategy strategy.Count = record { some = omega arith; line = refl; space = λ rest at line. refl }
one_strategy strategy.PersistentOption = record { some = omega arith; line = refl; space = λ rest at line. refl }
one_strategy strategy.PersistentMap = record { some = omega arith; line = refl; space = λ rest at line. refl }
one_strategy strategy.PersistentSet = record { some = omega arith; line = refl; space = λ rest at line. refl }
one_strategy strategy.PersistentCount = record { some = omega arith; line = refl; space = λ rest at line. refl }
one_strategy strategy.StorageMap = record { some = omega arith; line = refl; space = λ rest at line. refl }
