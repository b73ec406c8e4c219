use Rattle.std.proofs.Common.{◌≡◌, ◌-◌, List, [], length}
use Rattle.sync_parse_exprs.specs.Terminals.{row}
use Rattle.sync_parse_forms.proofs.rows.in_row.Given as goal

abbrev pub invariant-loop : goal.invariant-loop
invariant-loop g l = row g.P.RowItem.begins (g.P.RowItem.reads l.left) (l.end - l.counter) l.held l.rest ≡ row g.P.RowItem.begins (g.P.RowItem.reads l.left) (length l.fn.terminals) [] l.fn.terminals
