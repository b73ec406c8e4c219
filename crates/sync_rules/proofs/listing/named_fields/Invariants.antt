use Rattle.std.proofs.Common.{◌≡◌, map, take}
use Rattle.sync_machine.specs.Views.{invariant_tree}
use Rattle.sync_rules.specs.declared.field_sets.FieldSet.{FieldSet}
use Rattle.sync_rules.specs.FieldSets.{marks_of_all}
use Rattle.sync_rules.proofs.listing.named_fields.Given as goal

abbrev pub invariant-loop-invariant : goal.invariant-loop-invariant
invariant-loop-invariant l =
    map (λ (s : FieldSet). s.marks) l.named.items ≡ marks_of_all (map (invariant_tree l.m.terms) (take l.invariant-index l.m.invariants))
