use Rattle.std.proofs.Common.{◌≡◌, ◌++◌, drop, map}
use Rattle.std.specs.List.{flat_map}
use Rattle.sync_print.specs.Texts.{plain_field}
use Rattle.sync_print.specs.ShowTexts.{show_field}
use Rattle.sync_print.specs.Lexemes.{printed}
use Rattle.sync_print.proofs.machines.fields.Given as goal

abbrev pub invariant-loop-x : goal.invariant-loop-x
invariant-loop-x l =
    l.out.items ++ printed l.names (flat_map show_field (map plain_field (drop l.x-index l.list)))
    ≡ l.initial.out.items ++ printed l.names (flat_map show_field (map plain_field l.list))
