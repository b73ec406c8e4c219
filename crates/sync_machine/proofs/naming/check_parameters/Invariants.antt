use Rattle.std.proofs.Common.{◌≡◌, []}
use Rattle.sync_machine.specs.Views.{symbols_of}
use Rattle.sync_machine.specs.Naming.{first_fault, parameter_fault}
use Rattle.sync_machine.proofs.Checks.{faults_from}
use Rattle.sync_machine.proofs.naming.check_parameters.Given as goal

abbrev pub invariant-loop-k : goal.invariant-loop-k
invariant-loop-k l = faults_from (parameter_fault l.fields) l.k (symbols_of l.params) ≡ first_fault (parameter_fault l.fields) [] (symbols_of l.params)
