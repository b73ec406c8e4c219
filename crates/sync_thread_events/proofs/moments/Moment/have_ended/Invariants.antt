use Rattle.std.proofs.Common.{◌≡◌, true, take}
use Rattle.std.specs.List.{list_all}
use Rattle.sync_thread_events.proofs.Waiting.{rests}
use Rattle.sync_thread_events.proofs.moments.Moment.have_ended.Given as goal

abbrev pub invariant-loop-standing : goal.invariant-loop-standing
invariant-loop-standing l = list_all rests (take l.standing-index l.standing-items) ≡ true
