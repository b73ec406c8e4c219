use Rattle.std.proofs.Common.{◌≡◌, drop, [], map}
use Rattle.sync_terms.specs.Stored.{Stored, Extends}
use Rattle.sync_thread.specs.Views.{stmt_tree}
use Rattle.sync_read_programs.specs.Statements.{statements_from, statement_in}
use Rattle.sync_read_programs.proofs.statements.+statements.Given as goal

abbrev pub invariant-list-loop-x : goal.invariant-list-loop-x
invariant-list-loop-x l =
    ((t : Stored) → Extends l.terms t → statements_from l.aims (map (stmt_tree t) l.held) l.scope (map statement_in (drop l.x-index l.x-items)) ≡ statements_from l.aims [] l.initial.scope (map statement_in l.x-items))
    × Extends l.initial.terms l.terms
