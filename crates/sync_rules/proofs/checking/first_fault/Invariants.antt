use Rattle.std.proofs.Common.{◌≡◌, map, drop}
use Rattle.sync_machine.specs.Views.{operation_tree, machine_tree}
use Rattle.sync_rules.specs.Faults.{operations_fault, strategy_fault}
use Rattle.sync_rules.proofs.checking.first_fault.Given as goal

abbrev pub invariant-loop-op : goal.invariant-loop-op
invariant-loop-op l = operations_fault l.m.fields (map (operation_tree l.m.terms) (drop l.op-index l.m.ops)) ≡ strategy_fault (machine_tree l.m)
