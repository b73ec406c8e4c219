use Rattle.std.proofs.Common.{◌≡◌, ◌++◌, drop}
use Rattle.sync_print_programs.specs.Written.{all_written}
use Rattle.sync_print_programs.proofs.lists.in_row.Given as goal

abbrev pub invariant-loop-x : goal.invariant-loop-x
invariant-loop-x g l =
    l.out.items ++ all_written (g.P.Repeated.writes l.names) (drop l.x-index l.list)
    ≡ l.initial.out.items ++ all_written (g.P.Repeated.writes l.names) l.list
