use Rattle.std.proofs.Common.{◌≡◌, drop, [], map}
use Rattle.sync_terms.specs.Stored.{Stored, Extends}
use Rattle.sync_thread.specs.Views.{decl_tree}
use Rattle.sync_read_programs.specs.Keeps.{all_room, declarations_from}
use Rattle.sync_read_programs.proofs.declarations.declarations.Given as goal

abbrev pub invariant-loop-x : goal.invariant-loop-x
invariant-loop-x l =
    ((t : Stored) → Extends l.terms t → declarations_from (map (decl_tree t) l.held) l.room l.scope (drop l.x-index l.raw) ≡ declarations_from [] all_room l.initial.scope l.raw)
    × Extends l.initial.terms l.terms
