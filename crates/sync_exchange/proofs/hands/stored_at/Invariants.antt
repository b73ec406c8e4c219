use Rattle.std.proofs.Common.{◌≡◌, drop}
use Rattle.sync_exchange.specs.Exchange.{stored_at}
use Rattle.sync_exchange.proofs.hands.stored_at.Given as goal

abbrev pub invariant-loop-t : goal.invariant-loop-t
invariant-loop-t l = stored_at l.field l.key (drop l.t-index l.stored) ≡ stored_at l.field l.key l.stored
