-- Operations and invariants in a store that grows.
use Rattle.std.proofs.Common.{◌≡◌, List, [], ◌∷◌, refl, ap, map, ◌∙◌}
use Rattle.std.specs.List.{AllByRecursion}
use Rattle.sync_terms.specs.Stored.{Stored, Extends, IsForm}
use Rattle.sync_machine.specs.declared.machine.Operation.{Operation}
use Rattle.sync_machine.specs.declared.machine.Invariant.{Invariant}
use Rattle.sync_terms.specs.Trees.{Formula}
use Rattle.sync_machine.specs.Machines.{StepTree, OperationTree, InvariantTree}
use Rattle.sync_machine.specs.Views.{symbols_of, operation_tree, invariant_tree}
use Rattle.sync_read.specs.Owned.{HasOperationIds}
use Rattle.sync_read.proofs.Steps.{steps_kept, steps_stay}

pub operation_kept : (s t : Stored) (o : Operation) → Extends s t → HasOperationIds s o → operation_tree t o ≡ operation_tree s o
operation_kept s t o e h =
    let make : List StepTree → OperationTree = λ xs. record { name = o.name; mode = o.mode; params = symbols_of o.params; steps = xs; line = o.line } in
    ap make (steps_kept s t o.steps e h)

pub operations_kept : (s t : Stored) (os : List Operation) → Extends s t → AllByRecursion (HasOperationIds s) os → map (operation_tree t) os ≡ map (operation_tree s) os
operations_kept s t [] e h = refl
operations_kept s t (o ∷ os) e h =
    ap (λ x. x ∷ map (operation_tree t) os) (operation_kept s t o e h.0) ∙ ap (λ xs. operation_tree s o ∷ xs) (operations_kept s t os e h.1)

pub operations_stay : (s t : Stored) (os : List Operation) → Extends s t → AllByRecursion (HasOperationIds s) os → AllByRecursion (HasOperationIds t) os
operations_stay s t [] e h = tt
operations_stay s t (o ∷ os) e h = (steps_stay s t o.steps e h.0, operations_stay s t os e h.1)

pub invariant_kept : (s t : Stored) (i : Invariant) → Extends s t → IsForm s i.form → invariant_tree t i ≡ invariant_tree s i
invariant_kept s t i e h =
    let make : Formula → InvariantTree = λ f. record { name = i.name; params = symbols_of i.params; form = f; line = i.line } in
    ap make (e.forms i.form h).1

pub invariants_kept : (s t : Stored) (is : List Invariant) → Extends s t → AllByRecursion (λ (i : Invariant). IsForm s i.form) is → map (invariant_tree t) is ≡ map (invariant_tree s) is
invariants_kept s t [] e h = refl
invariants_kept s t (i ∷ is) e h =
    ap (λ x. x ∷ map (invariant_tree t) is) (invariant_kept s t i e h.0) ∙ ap (λ xs. invariant_tree s i ∷ xs) (invariants_kept s t is e h.1)

pub invariants_stay : (s t : Stored) (is : List Invariant) → Extends s t → AllByRecursion (λ (i : Invariant). IsForm s i.form) is → AllByRecursion (λ (i : Invariant). IsForm t i.form) is
invariants_stay s t [] e h = tt
invariants_stay s t (i ∷ is) e h = ((e.forms i.form h.0).0, invariants_stay s t is e h.1)
