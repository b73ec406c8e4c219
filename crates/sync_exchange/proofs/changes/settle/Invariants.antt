use Rattle.std.proofs.Common.{◌≡◌, ◌≤◌, length}
use Rattle.sync_exchange.specs.Works.{laid_over}
use Rattle.sync_exchange.proofs.changes.settle.Given as goal

abbrev pub invariant-loop-new : goal.invariant-loop-new
invariant-loop-new l = (laid_over l.left l.records ≡ laid_over l.initial.left l.initial.records) × (length l.left ≤ length l.records)

abbrev pub decreases-loop-new : goal.decreases-loop-new
decreases-loop-new l = length l.left
