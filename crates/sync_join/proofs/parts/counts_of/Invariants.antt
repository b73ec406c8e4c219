use Rattle.std.proofs.Common.{◌≡◌, take}
use Rattle.sync_join.specs.Join.{tokens_of, counts_of}
use Rattle.sync_join.proofs.parts.counts_of.Given as goal

abbrev pub invariant-loop-token : goal.invariant-loop-token
invariant-loop-token l = counts_of (tokens_of l.field (take l.token-index l.tokens)) ≡ l.counts
