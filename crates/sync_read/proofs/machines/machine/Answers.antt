use Rattle.sync_read.proofs.Growing.{operations_stay}
use Rattle.sync_read.proofs.machines.machine.Goals as goal

pub returns-clause-ids : goal.returns-clause-ids
returns-clause-ids c = record {
  ops = operations_stay c.operations.new.terms c.invariants.new.terms c.in_ok-ops.ops c.invariants.ensures.keeps c.in_ok-ops.ensures.ids;
  invariants = c.in_ok-invariants.ensures.ids;
}
