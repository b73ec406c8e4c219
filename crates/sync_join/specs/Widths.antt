-- Which sums of amounts stay within signed 128 bits.
use Rattle.std.specs.Prelude.{◌≡◌, ℕ, ℤ, pos, ◌+ℤ◌, List, [], ◌∷◌, FitsSigned}
use Rattle.std.specs.Int.{w128}
use Rattle.sync_machine.specs.declared.fields.Field.{Field}
use Rattle.sync_base.specs.declared.strategies.Strategy.TheVariants.{Count}
use Rattle.sync_machine.specs.States.{strategy_at}
use Rattle.sync_join.specs.declared.tokens.Token.{Token}
use Rattle.sync_join.specs.Join.{tokens_of}

-- every partial sum of the tokens in their order, behind a first number, fits
abbrev pub SumsFit : ℤ → List Token → Type 0
SumsFit n [] = Unit {0}
SumsFit n (t ∷ ts) = FitsSigned w128 (n +ℤ t.value) × SumsFit (n +ℤ t.value) ts

-- so it is for every count field
abbrev pub AreNarrow : List Field → List Token → Type 0
AreNarrow fs bag = (f : ℕ) → strategy_at fs f ≡ Count → SumsFit (pos 0) (tokens_of f bag)
