use Rattle.std.proofs.Common.{◌≡◌, drop, [], map}
use Rattle.sync_terms.specs.Stored.{Stored, Extends}
use Rattle.sync_thread.specs.Views.{keep_line_tree}
use Rattle.sync_read_programs.specs.Keeps.{keep_lines_from}
use Rattle.sync_read_programs.proofs.keeps.keep_lines.Given as goal

abbrev pub invariant-loop-x : goal.invariant-loop-x
invariant-loop-x l =
    ((t : Stored) → Extends l.terms t → keep_lines_from l.ends (map (keep_line_tree t) l.held) l.scope (drop l.x-index l.raw) ≡ keep_lines_from l.ends [] l.initial.scope l.raw)
    × Extends l.initial.terms l.terms
