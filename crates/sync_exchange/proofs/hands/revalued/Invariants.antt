use Rattle.std.proofs.Common.{◌≡◌, take}
use Rattle.sync_exchange.specs.Exchange.{revalued}
use Rattle.sync_exchange.proofs.hands.revalued.Given as goal

abbrev pub invariant-loop-h : goal.invariant-loop-h
invariant-loop-h l = l.all ≡ revalued l.name l.value (take l.h-index l.held)
