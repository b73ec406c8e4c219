use Rattle.std.proofs.Common.{◌≡◌, ◌-◌}
use Rattle.sync_parse.specs.Scripts.{part_at}
use Rattle.sync_parse_exprs.specs.Terminals.{series, behind_commas}
use Rattle.sync_parse.proofs.script_reader.part_series.Given as goal

abbrev pub invariant-loop : goal.invariant-loop
invariant-loop l = behind_commas (part_at l.left) (l.end - l.counter) l.held l.rest ≡ series (part_at l.left) l.fn.terminals
