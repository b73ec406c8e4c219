use Rattle.std.proofs.Common.{◌≡◌, ◌+◌, ◌-◌, ◌*◌}
use Rattle.sync_parse_exprs.specs.Terminals.{row, goes_on}
use Rattle.sync_parse_programs.specs.Programs.{read, statement_at}
use Rattle.sync_parse_programs.specs.Statements.{statement_row}
use Rattle.sync_parse_texts.proofs.statement_reader.+statement.Given as goal

abbrev pub decreases-statement_row : goal.decreases-statement_row
decreases-statement_row l = l.left * 10 + 9

abbrev pub decreases-statement : goal.decreases-statement
decreases-statement l = l.left * 10 + 8

abbrev pub decreases-placed_statement : goal.decreases-placed_statement
decreases-placed_statement l = l.left * 10 + 7

abbrev pub decreases-statement_kind : goal.decreases-statement_kind
decreases-statement_kind l = l.left * 10 + 6

abbrev pub decreases-assignment : goal.decreases-assignment
decreases-assignment l = l.left * 10 + 5

abbrev pub decreases-right_side : goal.decreases-right_side
decreases-right_side l = l.left * 10 + 4

abbrev pub decreases-ending : goal.decreases-ending
decreases-ending l = l.left * 10 + 3

abbrev pub decreases-when_form : goal.decreases-when_form
decreases-when_form l = l.left * 10 + 2

abbrev pub decreases-if_form : goal.decreases-if_form
decreases-if_form l = l.left * 10 + 2

abbrev pub decreases-loop_form : goal.decreases-loop_form
decreases-loop_form l = l.left * 10 + 2

abbrev pub decreases-list : goal.decreases-list
decreases-list l = l.left * 10 + 1

abbrev pub invariant-statement_row-loop : goal.invariant-statement_row-loop
invariant-statement_row-loop l = row goes_on (statement_at l.left) (l.end - l.counter) l.held l.rest ≡ read statement_row l.left l.fn.terminals
