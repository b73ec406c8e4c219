use Rattle.std.proofs.Common.{◌*◌, ◌+◌, vec_len}
use Rattle.sync_linear.specs.Parts.{IsTaken}
use Rattle.sync_linear.proofs.lines.Linear.+terms.Given as goal

-- a term's line is made before those of later terms, and it changes another line before them too
abbrev pub decreases-of_term : goal.decreases-of_term
decreases-of_term l = 2 * l.t.0

abbrev pub decreases-changed_by : goal.decreases-changed_by
decreases-changed_by l = 2 * l.second.0 + 1

abbrev pub invariant-of_term-loop-rest : goal.invariant-of_term-loop-rest
invariant-of_term-loop-rest l = IsTaken l.terms l.fn.t l.rests.items l.line

abbrev pub decreases-of_term-loop-rest : goal.decreases-of_term-loop-rest
decreases-of_term-loop-rest l = vec_len l.rests
