use Rattle.std.proofs.Common.{◌≡◌, ◌-◌}
use Rattle.sync_parse_exprs.specs.Terminals.{row, goes_on}
use Rattle.sync_parse.specs.Machines.{act_at, acts}
use Rattle.sync_parse.proofs.act_reader.acts.Given as goal

abbrev pub invariant-loop : goal.invariant-loop
invariant-loop l = row goes_on (act_at l.left) (l.end - l.counter) l.held l.rest ≡ acts l.left l.fn.terminals
