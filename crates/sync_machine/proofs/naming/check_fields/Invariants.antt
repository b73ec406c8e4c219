use Rattle.std.proofs.Common.{◌≡◌, []}
use Rattle.sync_machine.specs.Naming.{first_fault, field_fault}
use Rattle.sync_machine.proofs.Checks.{faults_from}
use Rattle.sync_machine.proofs.naming.check_fields.Given as goal

abbrev pub invariant-loop-k : goal.invariant-loop-k
invariant-loop-k l = faults_from field_fault l.k l.fields ≡ first_fault field_fault [] l.fields
