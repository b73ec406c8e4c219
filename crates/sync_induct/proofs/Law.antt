-- The law of induction: whatever machine has all its duties proved holds always.
use Rattle.std.specs.List.{AllByRecursion}
use Rattle.sync_machine.specs.Machines.{OperationTree, MachineTree}
use Rattle.sync_machine.specs.Scope.{ChangesNothing}
use Rattle.sync_machine.specs.Named.{IsNamed}
use Rattle.sync_machine.specs.States.{HoldsAlways}
use Rattle.sync_rules.specs.Strategies.{AreAllowed}
use Rattle.sync_induct.proofs.DutyLists.{duties_of, AreProved}
use Rattle.sync_induct.proofs.Scoping.{is-scoped}
use Rattle.sync_induct.proofs.Soundness.{holds-always}

-- its names are known, its statements allowed by their strategies, and its properties change nothing
pub proved-machine-holds : (m : MachineTree) → IsNamed m → AllByRecursion (λ (o : OperationTree). AreAllowed m.fields o.steps) m.ops → AllByRecursion ChangesNothing m.ops → AreProved (duties_of m) → HoldsAlways m
proved-machine-holds m named allowed still proved = holds-always m (is-scoped m named allowed still) proved
