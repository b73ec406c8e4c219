use Rattle.std.proofs.Common.{◌≡◌, take, Some}
use Rattle.sync_join.specs.Join.{tokens_of, as_map}
use Rattle.sync_join.proofs.parts.as_map.Given as goal

abbrev pub invariant-loop-token : goal.invariant-loop-token
invariant-loop-token l = as_map (tokens_of l.field (take l.token-index l.tokens)) ≡ Some l.map
