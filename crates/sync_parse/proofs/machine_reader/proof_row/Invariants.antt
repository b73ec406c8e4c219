use Rattle.std.proofs.Common.{◌≡◌, ◌-◌}
use Rattle.sync_parse_exprs.specs.Terminals.{row, goes_on}
use Rattle.sync_parse.specs.Machines.{proof_at, proof_row}
use Rattle.sync_parse.proofs.machine_reader.proof_row.Given as goal

abbrev pub invariant-loop : goal.invariant-loop
invariant-loop l = row goes_on (proof_at l.left) (l.end - l.counter) l.held l.rest ≡ proof_row l.left l.fn.terminals
