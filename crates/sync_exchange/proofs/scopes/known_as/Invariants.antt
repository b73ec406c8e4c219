use Rattle.std.proofs.Common.{◌≡◌, take}
use Rattle.sync_exchange.specs.Works.{last_known}
use Rattle.sync_exchange.proofs.scopes.known_as.Given as goal

abbrev pub invariant-loop-k : goal.invariant-loop-k
invariant-loop-k l = l.found ≡ last_known l.x (take l.k-index l.known)
