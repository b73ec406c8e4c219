use Rattle.std.proofs.Common.{◌≡◌, drop}
use Rattle.sync_machine.specs.Views.{steps_tree}
use Rattle.sync_rules.specs.Slots.{earliest, read_by}
use Rattle.sync_rules.proofs.variables.first_read.Given as goal

abbrev pub invariant-loop-step : goal.invariant-loop-step
invariant-loop-step l =
    earliest (read_by l.m.fields l.variable) (steps_tree l.m.terms (drop l.step-index l.steps))
    ≡ earliest (read_by l.m.fields l.variable) (steps_tree l.m.terms l.steps)
