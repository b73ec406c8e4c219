use Rattle.std.proofs.Common.{◌≡◌, drop, [], map}
use Rattle.sync_terms.specs.Stored.{Stored, Extends}
use Rattle.sync_thread.specs.Views.{clause_tree}
use Rattle.sync_read_programs.specs.Keeps.{clauses_from}
use Rattle.sync_read_programs.proofs.declarations.clauses.Given as goal

abbrev pub invariant-loop-x : goal.invariant-loop-x
invariant-loop-x l =
    ((t : Stored) → Extends l.terms t → clauses_from (map (clause_tree t) l.held) l.scope (drop l.x-index l.raw) ≡ clauses_from [] l.scope l.raw)
    × Extends l.initial.terms l.terms
