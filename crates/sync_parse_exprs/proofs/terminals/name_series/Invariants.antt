use Rattle.std.proofs.Common.{◌≡◌, ◌-◌}
use Rattle.sync_parse_exprs.specs.Terminals.{name_at, series, behind_commas}
use Rattle.sync_parse_exprs.proofs.terminals.name_series.Given as goal

abbrev pub invariant-loop : goal.invariant-loop
invariant-loop l = behind_commas (name_at l.left) (l.end - l.counter) l.held l.rest ≡ series (name_at l.left) l.fn.terminals
