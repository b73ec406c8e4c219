use Rattle.std.proofs.Common.{◌≡◌, drop}
use Rattle.std.specs.List.{list_all}
use Rattle.sync_machine.specs.Views.{steps_tree}
use Rattle.sync_rules.specs.Plain.{reads_at_hand}
use Rattle.sync_rules.proofs.plain.all_read_at_hand.Given as goal

abbrev pub invariant-loop-step : goal.invariant-loop-step
invariant-loop-step l =
    list_all (reads_at_hand l.m.fields (steps_tree l.m.terms l.steps)) (steps_tree l.m.terms (drop l.step-index l.steps))
    ≡ list_all (reads_at_hand l.m.fields (steps_tree l.m.terms l.steps)) (steps_tree l.m.terms l.steps)
