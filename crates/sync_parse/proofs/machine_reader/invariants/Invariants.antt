use Rattle.std.proofs.Common.{◌≡◌, ◌-◌}
use Rattle.sync_lex.specs.declared.signs.Sign.TheVariants as sign
use Rattle.sync_parse_exprs.specs.Terminals.{row, begins_with}
use Rattle.sync_parse.specs.Machines.{invariant_at, invariants}
use Rattle.sync_parse.proofs.machine_reader.invariants.Given as goal

abbrev pub invariant-loop : goal.invariant-loop
invariant-loop l = row (begins_with sign.Invariant) (invariant_at l.left) (l.end - l.counter) l.held l.rest ≡ invariants l.left l.fn.terminals
