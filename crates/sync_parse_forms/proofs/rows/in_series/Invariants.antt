use Rattle.std.proofs.Common.{◌≡◌, ◌-◌}
use Rattle.sync_parse_exprs.specs.Terminals.{series, behind_commas}
use Rattle.sync_parse_forms.proofs.rows.in_series.Given as goal

abbrev pub invariant-loop : goal.invariant-loop
invariant-loop g l = behind_commas (g.P.ListItem.reads l.left) (l.end - l.counter) l.held l.rest ≡ series (g.P.ListItem.reads l.left) l.fn.terminals
