-- A machine is ready for the check: its statements' ids are of its store, and its invariants have names as parameters.
use Rattle.std.proofs.Common.{List, [], ◌∷◌, map, All}
use Rattle.std.specs.List.{AllByRecursion}
use Rattle.std.proofs.lemmas.List.Elements.{All-from_recursion}
use Rattle.sync_terms.specs.Stored.{Stored, IsForm}
use Rattle.sync_machine.specs.declared.fields.Field.{Field}
use Rattle.sync_machine.specs.declared.machine.Step.{Step}
use Rattle.sync_machine.specs.declared.machine.Invariant.{Invariant}
use Rattle.sync_machine.specs.declared.machine.Operation.{Operation}
use Rattle.sync_machine.specs.Scope.{IsScopedInvariant}
use Rattle.sync_machine.specs.Views.{invariant_tree, HasActIds}
use Rattle.sync_induct.specs.Closing.{IsKeepable}

pub operations-ids : (s : Stored) (os : List Operation) → AllByRecursion (λ (o : Operation). AllByRecursion (λ (x : Step). HasActIds s x.act) o.steps) os
    → AllByRecursion (λ (o : Operation). All (λ (x : Step). HasActIds s x.act) o.steps) os
operations-ids s [] ids = tt
operations-ids s (o ∷ os) ids = (All-from_recursion (λ (x : Step). HasActIds s x.act) o.steps ids.0, operations-ids s os ids.1)

pub invariants-keepable : (s : Stored) (fs : List Field) (is : List Invariant) → AllByRecursion (λ (i : Invariant). IsForm s i.form) is → AllByRecursion (IsScopedInvariant fs) (map (invariant_tree s) is) → AllByRecursion (IsKeepable s) is
invariants-keepable s fs [] forms scoped = tt
invariants-keepable s fs (i ∷ is) forms scoped = (record { form = forms.0; names = scoped.0.are_names }, invariants-keepable s fs is forms.1 scoped.1)
