-- Ids of a store.
use Rattle.std.specs.List.{AllByRecursion}
use Rattle.sync_terms.specs.Stored.{Stored}
use Rattle.sync_machine.specs.declared.machine.Step.{Step}
use Rattle.sync_machine.specs.declared.machine.Operation.{Operation}
use Rattle.sync_machine.specs.Views.{HasActIds}

-- the ids of an operation are of this store
abbrev pub HasOperationIds : Stored → Operation → Type 0
HasOperationIds s o = AllByRecursion (λ (x : Step). HasActIds s x.act) o.steps
