use Rattle.std.proofs.Common.{◌≡◌, ◌++◌, map, drop}
use Rattle.sync_machine.specs.Views.{operation_tree}
use Rattle.sync_rules.specs.declared.field_sets.FieldSet.{FieldSet}
use Rattle.sync_rules.specs.FieldSets.{all_claims}
use Rattle.sync_rules.proofs.listing.obligations.Given as goal

abbrev pub invariant-loop-i : goal.invariant-loop-i
invariant-loop-i l =
    l.list.items ++ all_claims l.m.fields (map (λ (s : FieldSet). s.marks) l.named.items) l.i (map (operation_tree l.m.terms) (drop l.i l.m.ops))
    ≡ all_claims l.m.fields (map (λ (s : FieldSet). s.marks) l.named.items) 0 (map (operation_tree l.m.terms) l.m.ops)
