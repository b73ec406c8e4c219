use Rattle.std.proofs.Common.{◌≡◌, drop}
use Rattle.sync_machine.specs.Views.{steps_tree}
use Rattle.sync_rules.specs.Slots.{earliest, given_by}
use Rattle.sync_rules.proofs.variables.first_given.Given as goal

abbrev pub invariant-loop-step : goal.invariant-loop-step
invariant-loop-step l =
    earliest (given_by l.variable) (steps_tree l.m.terms (drop l.step-index l.steps))
    ≡ earliest (given_by l.variable) (steps_tree l.m.terms l.steps)
