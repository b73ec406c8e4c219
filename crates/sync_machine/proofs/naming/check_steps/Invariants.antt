use Rattle.std.proofs.Common.{◌≡◌, []}
use Rattle.sync_machine.specs.Views.{symbols_of, steps_tree}
use Rattle.sync_machine.specs.Naming.{first_fault, step_fault}
use Rattle.sync_machine.proofs.Checks.{faults_from}
use Rattle.sync_machine.proofs.naming.check_steps.Given as goal

abbrev pub invariant-loop-k : goal.invariant-loop-k
invariant-loop-k l =
    faults_from (step_fault l.m.fields (symbols_of l.params)) l.k (steps_tree l.m.terms l.steps)
    ≡ first_fault (step_fault l.m.fields (symbols_of l.params)) [] (steps_tree l.m.terms l.steps)
