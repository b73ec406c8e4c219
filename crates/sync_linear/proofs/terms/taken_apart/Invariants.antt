use Rattle.sync_linear.proofs.Spines.{IsDown}
use Rattle.sync_linear.proofs.terms.taken_apart.Given as goal

abbrev pub invariant-loop-rest : goal.invariant-loop-rest
invariant-loop-rest l = IsDown l.terms l.fn.t l.rests.items l.at

abbrev pub decreases-loop-rest : goal.decreases-loop-rest
decreases-loop-rest l = l.at.0
