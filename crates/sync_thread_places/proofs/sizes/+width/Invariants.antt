use Rattle.sync_thread_places.specs.Places.{width}
use Rattle.sync_thread_places.proofs.Largest.{SeenMost}
use Rattle.sync_thread_places.proofs.sizes.+width.Given as goal

abbrev pub invariant-width-loop-statement : goal.invariant-width-loop-statement
invariant-width-loop-statement l = SeenMost width l.widest l.statement-index l.list
