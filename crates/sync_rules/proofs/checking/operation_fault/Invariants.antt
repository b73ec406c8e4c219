use Rattle.std.proofs.Common.{◌≡◌, take, drop}
use Rattle.sync_machine.specs.Views.{steps_tree, operation_tree}
use Rattle.sync_rules.specs.Faults.{steps_fault, operation_fault}
use Rattle.sync_rules.proofs.checking.operation_fault.Given as goal

abbrev pub invariant-loop-i : goal.invariant-loop-i
invariant-loop-i l =
    steps_fault l.m.fields l.op.mode (steps_tree l.m.terms (take l.i l.op.steps)) (steps_tree l.m.terms (drop l.i l.op.steps)) ≡ operation_fault l.m.fields (operation_tree l.m.terms l.op)
