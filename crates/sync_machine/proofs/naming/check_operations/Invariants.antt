use Rattle.std.proofs.Common.{◌≡◌, [], map}
use Rattle.sync_machine.specs.Views.{operation_tree}
use Rattle.sync_machine.specs.Naming.{first_fault, operation_fault}
use Rattle.sync_machine.proofs.Checks.{faults_from}
use Rattle.sync_machine.proofs.naming.check_operations.Given as goal

abbrev pub invariant-loop-k : goal.invariant-loop-k
invariant-loop-k l =
    faults_from (operation_fault l.m.fields) l.k (map (operation_tree l.m.terms) l.ops)
    ≡ first_fault (operation_fault l.m.fields) [] (map (operation_tree l.m.terms) l.ops)
