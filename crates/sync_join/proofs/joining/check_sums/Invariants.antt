use Rattle.std.proofs.Common.{◌≡◌, ℕ, ◌<◌, pos}
use Rattle.sync_base.specs.declared.strategies.Strategy.TheVariants.{Count}
use Rattle.sync_machine.specs.States.{strategy_at}
use Rattle.sync_join.specs.Join.{tokens_of}
use Rattle.sync_join.specs.Widths.{SumsFit}
use Rattle.sync_join.proofs.joining.check_sums.Given as goal

abbrev pub invariant-loop-f : goal.invariant-loop-f
invariant-loop-f l = (f : ℕ) → f < l.f → strategy_at l.m.fields f ≡ Count → SumsFit (pos 0) (tokens_of f l.bag.tokens)
