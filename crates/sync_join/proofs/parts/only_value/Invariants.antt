use Rattle.std.proofs.Common.{◌≡◌, drop}
use Rattle.sync_join.specs.Join.{tokens_of, only_value}
use Rattle.sync_join.proofs.Through.{only_behind}
use Rattle.sync_join.proofs.parts.only_value.Given as goal

abbrev pub invariant-loop-token : goal.invariant-loop-token
invariant-loop-token l = only_behind l.found (tokens_of l.field (drop l.token-index l.tokens)) ≡ only_value (tokens_of l.field l.tokens)
