use Rattle.std.proofs.Common.{◌≡◌, take}
use Rattle.sync_exchange.specs.Exchange.{withdrawn}
use Rattle.sync_exchange.proofs.hands.withdrawn.Given as goal

abbrev pub invariant-loop-t : goal.invariant-loop-t
invariant-loop-t l = l.left ≡ withdrawn l.field l.key (take l.t-index l.stored)
