use Rattle.std.proofs.Common.{◌≡◌, drop}
use Rattle.std.specs.HashMap.{get}
use Rattle.sync_terms.specs.Stored.{Stored}
use Rattle.sync_thread.specs.Views.{proof_steps_tree}
use Rattle.sync_typing.specs.Typing.{count_of}
use Rattle.sync_typing_paths.specs.declared.deeds.Deed.{Deed}
use Rattle.sync_typing_paths.specs.Deeds.{is_deed, later, same_deed, times_of}
use Rattle.sync_typing_paths.proofs.deeds.is_complete.Given as goal

-- what was counted, with what is left, is what there is
abbrev pub invariant-loop-step : goal.invariant-loop-step
invariant-loop-step l = (s : Stored) (d : Deed)
    → later (get same_deed l.deeds d) (count_of (is_deed d) (proof_steps_tree s (drop l.step-index l.steps)))
    ≡ times_of (count_of (is_deed d) (proof_steps_tree s l.steps))
