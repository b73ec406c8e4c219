use Rattle.sync_linear.proofs.Worths.{change-worth, term-worth}
use Rattle.sync_linear.proofs.laws.lines_are_worth.Goals as goal

pub returns : goal.returns
returns c = record { of_term = λ v s t line shared is. term-worth v s shared t line is; of_change = change-worth }
