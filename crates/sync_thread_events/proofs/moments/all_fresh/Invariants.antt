use Rattle.std.proofs.Common.{take}
use Rattle.sync_thread_events.specs.Moments.{IsFresh, lists_of, Pairwise}
use Rattle.sync_thread_events.proofs.moments.all_fresh.Given as goal

abbrev pub invariant-loop-at : goal.invariant-loop-at
invariant-loop-at l = Pairwise IsFresh (take l.at (lists_of l.code)) l.standings.items
