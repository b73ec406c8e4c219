use Rattle.std.proofs.Common.{◌≡◌, drop, [], map}
use Rattle.sync_terms.specs.Stored.{Stored, Extends}
use Rattle.sync_thread.specs.Views.{thread_tree}
use Rattle.sync_read_programs.specs.Programs.{threads_from}
use Rattle.sync_read_programs.proofs.programs.threads.Given as goal

abbrev pub invariant-loop-x : goal.invariant-loop-x
invariant-loop-x l =
    ((t : Stored) → Extends l.terms t → threads_from (map (thread_tree t) l.held) l.scope (drop l.x-index l.raw) ≡ threads_from [] l.initial.scope l.raw)
    × Extends l.initial.terms l.terms
