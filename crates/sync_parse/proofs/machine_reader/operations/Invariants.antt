use Rattle.std.proofs.Common.{◌≡◌, ◌-◌}
use Rattle.sync_parse_exprs.specs.Terminals.{row}
use Rattle.sync_parse.specs.Machines.{begins_operation, operation_at, operations}
use Rattle.sync_parse.proofs.machine_reader.operations.Given as goal

abbrev pub invariant-loop : goal.invariant-loop
invariant-loop l = row begins_operation (operation_at l.left) (l.end - l.counter) l.held l.rest ≡ operations l.left l.fn.terminals
