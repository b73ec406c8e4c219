use Rattle.std.proofs.Common.{◌≡◌, ◌++◌, ◌+◌, drop}
use Rattle.sync_machine.specs.Views.{steps_tree}
use Rattle.sync_rules.specs.Obligations.{safety_claims}
use Rattle.sync_rules.proofs.listing.add_safety.Given as goal

abbrev pub invariant-loop-i : goal.invariant-loop-i
invariant-loop-i l =
    l.list.items ++ safety_claims l.m.fields l.op (l.i + 1) (steps_tree l.m.terms (drop l.i l.operation.steps))
    ≡ l.initial.list.items ++ safety_claims l.m.fields l.op 1 (steps_tree l.m.terms l.operation.steps)
