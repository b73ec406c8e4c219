use Rattle.std.proofs.Common.{◌≡◌, ◌++◌, drop, map}
use Rattle.sync_print.specs.Scripts.{block_of, plain_step}
use Rattle.sync_print.specs.Lexemes.{printed}
use Rattle.sync_print.specs.ShowScripts.{show_steps}
use Rattle.sync_print.proofs.scripts.+blocks.Given as goal

abbrev pub invariant-steps-loop-x : goal.invariant-steps-loop-x
invariant-steps-loop-x l =
    l.out.items ++ printed l.names (show_steps (block_of (map plain_step (drop l.x-index l.list))))
    ≡ l.initial.out.items ++ printed l.names (show_steps (block_of (map plain_step l.list)))
