use Rattle.std.proofs.Common.{◌≡◌, ◌++◌, filter_map}
use Rattle.std.specs.List.{range_with_len}
use Rattle.sync_machine.specs.Views.{steps_tree}
use Rattle.sync_rules.specs.Slots.{field_slot}
use Rattle.sync_rules.specs.Views.{slots_tree, HaveSlotIds}
use Rattle.sync_rules.proofs.signing.add_variables.Given as goal

abbrev pub invariant-loop-f : goal.invariant-loop-f
invariant-loop-f l =
    (slots_tree l.m.terms l.list.items ≡ slots_tree l.m.terms l.initial.list.items ++ filter_map (field_slot l.m.fields (steps_tree l.m.terms l.steps)) (range_with_len 0 l.f))
    × (HaveSlotIds l.m.terms l.initial.list.items → HaveSlotIds l.m.terms l.list.items)
