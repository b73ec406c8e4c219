use Rattle.std.proofs.Common.{◌≡◌, drop}
use Rattle.sync_exchange.specs.Exchange.{held_as}
use Rattle.sync_test_calls.proofs.pieces.token_of.Given as goal

abbrev pub invariant-loop-h : goal.invariant-loop-h
invariant-loop-h l = held_as l.name (drop l.h-index l.held) ≡ held_as l.name l.held
