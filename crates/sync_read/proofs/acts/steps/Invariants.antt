use Rattle.std.proofs.Common.{◌≡◌, drop, []}
use Rattle.std.specs.List.{AllByRecursion}
use Rattle.sync_terms.specs.Stored.{Extends}
use Rattle.sync_machine.specs.declared.machine.Step.{Step}
use Rattle.sync_machine.specs.Views.{steps_tree, HasActIds}
use Rattle.sync_read.specs.Acts.{steps_from}
use Rattle.sync_read.proofs.acts.steps.Given as goal

abbrev pub invariant-loop-a : goal.invariant-loop-a
invariant-loop-a l =
    (steps_from (steps_tree l.terms l.held) l.scope (drop l.a-index l.raw) ≡ steps_from [] l.initial.scope l.raw)
    × AllByRecursion (λ (x : Step). HasActIds l.terms x.act) l.held
    × Extends l.initial.terms l.terms
