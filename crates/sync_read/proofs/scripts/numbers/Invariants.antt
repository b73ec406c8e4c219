use Rattle.std.proofs.Common.{◌≡◌, drop, [], map}
use Rattle.sync_terms.specs.Stored.{Stored, tree, Extends}
use Rattle.sync_read.specs.Scripts.{numbers_from}
use Rattle.sync_read.proofs.scripts.numbers.Given as goal

abbrev pub invariant-loop-e : goal.invariant-loop-e
invariant-loop-e l =
    ((t : Stored) → Extends l.terms t → numbers_from (map (tree t) l.held) l.scope (drop l.e-index l.es) ≡ numbers_from [] l.scope l.es)
    × Extends l.initial.terms l.terms
