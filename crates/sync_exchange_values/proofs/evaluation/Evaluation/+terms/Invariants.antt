use Rattle.std.proofs.Common.{◌+◌, ◌*◌}
use Rattle.sync_exchange_values.proofs.evaluation.Evaluation.+terms.Given as goal

-- a question is asked of a term before its map is evaluated
abbrev pub decreases-ask : goal.decreases-ask
decreases-ask g l = 2 * l.m.0 + 1

abbrev pub decreases-map : goal.decreases-map
decreases-map g l = 2 * l.t.0

abbrev pub decreases-number : goal.decreases-number
decreases-number g l = 2 * l.t.0
