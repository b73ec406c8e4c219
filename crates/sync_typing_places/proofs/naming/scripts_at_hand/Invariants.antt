use Rattle.std.proofs.Common.{◌≡◌, drop}
use Rattle.sync_thread.specs.Views.{scripts_tree}
use Rattle.sync_typing.specs.Symbols.{scripts_name_only}
use Rattle.sync_typing_places.specs.Hands.{is_at_hand_in}
use Rattle.sync_typing_places.proofs.naming.scripts_at_hand.Given as goal

abbrev pub invariant-loop-script : goal.invariant-loop-script
invariant-loop-script l =
    scripts_name_only (is_at_hand_in l.names) (scripts_tree l.terms l.list)
    ≡ scripts_name_only (is_at_hand_in l.names) (scripts_tree l.terms (drop l.script-index l.list))
