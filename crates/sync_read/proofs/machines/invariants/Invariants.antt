use Rattle.std.proofs.Common.{◌≡◌, drop, [], map}
use Rattle.std.specs.List.{AllByRecursion}
use Rattle.sync_terms.specs.Stored.{Extends, IsForm}
use Rattle.sync_machine.specs.declared.machine.Invariant.{Invariant}
use Rattle.sync_machine.specs.Views.{invariant_tree}
use Rattle.sync_read.specs.Resolving.{invariants_from}
use Rattle.sync_read.proofs.machines.invariants.Given as goal

abbrev pub invariant-loop-i : goal.invariant-loop-i
invariant-loop-i l =
    (invariants_from (map (invariant_tree l.terms) l.held) l.scope (drop l.i-index l.raw) ≡ invariants_from [] l.initial.scope l.raw)
    × AllByRecursion (λ (i : Invariant). IsForm l.terms i.form) l.held
    × Extends l.initial.terms l.terms
