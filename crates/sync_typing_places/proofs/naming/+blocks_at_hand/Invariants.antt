use Rattle.std.proofs.Common.{◌≡◌}
use Rattle.sync_kernel.proofs.Checking.{rest_from}
use Rattle.sync_terms.specs.Plans.{plan_of}
use Rattle.sync_typing.specs.Symbols.{plan_names_only}
use Rattle.sync_typing_places.specs.Hands.{is_at_hand_in}
use Rattle.sync_typing_places.proofs.naming.+blocks_at_hand.Given as goal

abbrev pub invariant-block_at_hand-loop-step : goal.invariant-block_at_hand-loop-step
invariant-block_at_hand-loop-step l =
    plan_names_only (is_at_hand_in l.names) (plan_of l.terms l.block)
    ≡ plan_names_only (is_at_hand_in l.names) (rest_from l.terms l.block l.step-index)
