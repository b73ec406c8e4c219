use Rattle.std.proofs.Common.{◌≡◌, ◌++◌, drop, map}
use Rattle.std.specs.List.{flat_map}
use Rattle.sync_print.specs.Texts.{plain_proof}
use Rattle.sync_print.specs.ShowTexts.{show_proof}
use Rattle.sync_print.specs.Lexemes.{printed}
use Rattle.sync_print.proofs.machines.proof_row.Given as goal

abbrev pub invariant-loop-x : goal.invariant-loop-x
invariant-loop-x l =
    l.out.items ++ printed l.names (flat_map show_proof (map plain_proof (drop l.x-index l.list)))
    ≡ l.initial.out.items ++ printed l.names (flat_map show_proof (map plain_proof l.list))
