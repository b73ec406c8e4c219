use Rattle.std.proofs.Common.{◌≡◌, []}
use Rattle.sync_machine.specs.Views.{symbols_of}
use Rattle.sync_machine.specs.Naming.{first_fault, repeated}
use Rattle.sync_machine.proofs.Checks.{faults_from}
use Rattle.sync_machine.proofs.naming.check_names.Given as goal

abbrev pub invariant-loop-k : goal.invariant-loop-k
invariant-loop-k l = faults_from (repeated l.fields) l.k (symbols_of l.params) ≡ first_fault (repeated l.fields) [] (symbols_of l.params)
