use Rattle.std.proofs.Common.{◌≡◌, ◌++◌, drop, map}
use Rattle.sync_print.specs.Texts.{name_number}
use Rattle.sync_print.specs.Lexemes.{one_name, printed, with_commas, listed}
use Rattle.sync_print.proofs.machines.name_series.Given as goal

abbrev pub invariant-loop-x : goal.invariant-loop-x
invariant-loop-x l =
    l.out.items ++ printed l.names (with_commas l.behind (map one_name (map name_number (drop l.x-index l.list))))
    ≡ l.initial.out.items ++ printed l.names (listed (map one_name (map name_number l.list)))
