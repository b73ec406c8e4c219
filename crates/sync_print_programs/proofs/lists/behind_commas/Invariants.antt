use Rattle.std.proofs.Common.{◌≡◌, ◌++◌, drop}
use Rattle.sync_print_programs.specs.Written.{commas_written}
use Rattle.sync_print_programs.proofs.lists.behind_commas.Given as goal

abbrev pub invariant-loop-x : goal.invariant-loop-x
invariant-loop-x g l =
    l.out.items ++ commas_written l.names (g.P.Repeated.writes l.names) (drop l.x-index l.list)
    ≡ l.initial.out.items ++ commas_written l.names (g.P.Repeated.writes l.names) l.list
