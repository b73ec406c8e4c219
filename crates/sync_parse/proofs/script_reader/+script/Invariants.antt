use Rattle.std.proofs.Common.{◌≡◌, ◌+◌, ◌-◌, ◌*◌}
use Rattle.sync_parse_exprs.specs.Terminals.{row, goes_on}
use Rattle.sync_parse.specs.Scripts.{step_at, nested, steps}
use Rattle.sync_parse.proofs.script_reader.+script.Given as goal

abbrev pub decreases-block : goal.decreases-block
decreases-block l = l.left * 10 + 2

abbrev pub decreases-steps : goal.decreases-steps
decreases-steps l = l.left * 10 + 1

abbrev pub decreases-step_inside : goal.decreases-step_inside
decreases-step_inside l = l.left * 10

abbrev pub decreases-step : goal.decreases-step
decreases-step l = l.left * 10 + 4

abbrev pub decreases-split_step : goal.decreases-split_step
decreases-split_step l = l.left * 10 + 3

abbrev pub decreases-cut_step : goal.decreases-cut_step
decreases-cut_step l = l.left * 10 + 3

abbrev pub invariant-steps-loop : goal.invariant-steps-loop
invariant-steps-loop l = row goes_on (step_at (nested l.left) (l.left - 1)) (l.end - l.counter) l.held l.rest ≡ steps (nested l.left) (l.left - 1) l.fn.terminals
