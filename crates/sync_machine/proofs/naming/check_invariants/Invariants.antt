use Rattle.std.proofs.Common.{◌≡◌, [], map}
use Rattle.sync_machine.specs.Views.{operation_tree, invariant_tree}
use Rattle.sync_machine.specs.Naming.{first_fault, invariant_fault}
use Rattle.sync_machine.proofs.Checks.{faults_from}
use Rattle.sync_machine.proofs.naming.check_invariants.Given as goal

abbrev pub invariant-loop-k : goal.invariant-loop-k
invariant-loop-k l =
    faults_from (invariant_fault l.m.fields (map (operation_tree l.m.terms) l.m.ops)) l.k (map (invariant_tree l.m.terms) l.invariants)
    ≡ first_fault (invariant_fault l.m.fields (map (operation_tree l.m.terms) l.m.ops)) [] (map (invariant_tree l.m.terms) l.invariants)
