use Rattle.std.proofs.Common.{◌≡◌, ◌-◌}
use Rattle.sync_lex.specs.declared.signs.Sign.TheVariants as sign
use Rattle.sync_parse_exprs.specs.Terminals.{row, begins_with}
use Rattle.sync_parse.specs.Machines.{field_at, fields}
use Rattle.sync_parse.proofs.machine_reader.fields.Given as goal

abbrev pub invariant-loop : goal.invariant-loop
invariant-loop l = row (begins_with sign.Field) (field_at l.left) (l.end - l.counter) l.held l.rest ≡ fields l.left l.fn.terminals
