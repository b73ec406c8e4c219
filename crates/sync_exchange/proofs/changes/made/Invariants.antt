use Rattle.std.proofs.Common.{◌≡◌, length, map, take}
use Rattle.sync_join.specs.Views.{value_tree}
use Rattle.sync_exchange.specs.Works.{laid_over, recorded}
use Rattle.sync_exchange.proofs.changes.made.Given as goal

abbrev pub invariant-loop-r : goal.invariant-loop-r
invariant-loop-r l = (map value_tree (laid_over l.news l.records) ≡ recorded (take l.r-index l.changes) (map value_tree l.records)) × (length l.news ≡ length l.records)
