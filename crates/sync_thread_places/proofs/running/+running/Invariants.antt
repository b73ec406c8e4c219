use Rattle.sync_thread_places.specs.Runs.{HasRoom, KeepsRoom}
use Rattle.sync_thread_places.proofs.Passing.{IsRunTo}
use Rattle.sync_thread_places.proofs.running.+running.Given as goal

abbrev pub invariant-advance-loop-at : goal.invariant-advance-loop-at
invariant-advance-loop-at l = IsRunTo l.list l.from l.at l.initial.standing l.standing
