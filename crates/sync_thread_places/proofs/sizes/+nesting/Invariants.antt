use Rattle.sync_thread_places.specs.Places.{nesting}
use Rattle.sync_thread_places.proofs.Largest.{SeenMost}
use Rattle.sync_thread_places.proofs.sizes.+nesting.Given as goal

abbrev pub invariant-nesting-loop-statement : goal.invariant-nesting-loop-statement
invariant-nesting-loop-statement l = SeenMost nesting l.deepest l.statement-index l.list
