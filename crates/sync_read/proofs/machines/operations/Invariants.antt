use Rattle.std.proofs.Common.{◌≡◌, drop, [], map}
use Rattle.std.specs.List.{AllByRecursion}
use Rattle.sync_terms.specs.Stored.{Extends}
use Rattle.sync_machine.specs.Views.{operation_tree}
use Rattle.sync_read.specs.Owned.{HasOperationIds}
use Rattle.sync_read.specs.Resolving.{operations_from}
use Rattle.sync_read.proofs.machines.operations.Given as goal

abbrev pub invariant-loop-o : goal.invariant-loop-o
invariant-loop-o l =
    (operations_from l.fields (map (operation_tree l.terms) l.held) l.scope (drop l.o-index l.raw) ≡ operations_from l.fields [] l.initial.scope l.raw)
    × AllByRecursion (HasOperationIds l.terms) l.held
    × Extends l.initial.terms l.terms
