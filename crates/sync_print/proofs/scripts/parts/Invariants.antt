use Rattle.std.proofs.Common.{◌≡◌, ◌++◌, drop, map}
use Rattle.sync_print.specs.Scripts.{plain_part}
use Rattle.sync_print.specs.ShowScripts.{show_part}
use Rattle.sync_print.specs.Lexemes.{printed, with_commas, listed}
use Rattle.sync_print.proofs.scripts.parts.Given as goal

abbrev pub invariant-loop-x : goal.invariant-loop-x
invariant-loop-x l =
    l.out.items ++ printed l.names (with_commas l.behind (map show_part (map plain_part (drop l.x-index l.list))))
    ≡ l.initial.out.items ++ printed l.names (listed (map show_part (map plain_part l.list)))
