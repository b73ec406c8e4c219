use Rattle.std.proofs.Common.{◌≡◌, ◌++◌, map, drop}
use Rattle.sync_machine.specs.Views.{operation_tree}
use Rattle.sync_rules.specs.declared.field_sets.FieldSet.{FieldSet}
use Rattle.sync_rules.specs.FieldSets.{marked_claims}
use Rattle.sync_rules.proofs.listing.add_keeps.Given as goal

abbrev pub invariant-loop-j : goal.invariant-loop-j
invariant-loop-j l =
    l.list.items ++ marked_claims (operation_tree l.m.terms l.operation) l.op l.j (map (λ (s : FieldSet). s.marks) (drop l.j l.named))
    ≡ l.initial.list.items ++ marked_claims (operation_tree l.m.terms l.operation) l.op 0 (map (λ (s : FieldSet). s.marks) l.named)
