use Rattle.std.proofs.Common.{◌≡◌, ◌++◌, filter_map, take}
use Rattle.sync_machine.specs.Views.{steps_tree}
use Rattle.sync_rules.specs.Slots.{statement_slot}
use Rattle.sync_rules.specs.Views.{slots_tree, HaveSlotIds}
use Rattle.sync_rules.proofs.signing.add_statements.Given as goal

abbrev pub invariant-loop-step : goal.invariant-loop-step
invariant-loop-step l =
    (slots_tree l.m.terms l.list.items ≡ slots_tree l.m.terms l.initial.list.items ++ filter_map (statement_slot l.m.fields) (steps_tree l.m.terms (take l.step-index l.steps)))
    × (HaveSlotIds l.m.terms l.initial.list.items → HaveSlotIds l.m.terms l.list.items)
