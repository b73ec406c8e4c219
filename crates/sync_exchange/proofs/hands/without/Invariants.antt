use Rattle.std.proofs.Common.{◌≡◌, take}
use Rattle.sync_exchange.specs.Exchange.{without}
use Rattle.sync_exchange.proofs.hands.without.Given as goal

abbrev pub invariant-loop-h : goal.invariant-loop-h
invariant-loop-h l = l.left ≡ without l.name (take l.h-index l.held)
