use Rattle.std.proofs.Common.{◌≡◌, ◌≤◌, length, drop}
use Rattle.sync_join.specs.Join.{map_of, tokens_of}
use Rattle.sync_join.proofs.parts.map_of_tokens.Given as goal

abbrev pub invariant-loop-left : goal.invariant-loop-left
invariant-loop-left l = (l.map ≡ map_of (tokens_of l.field (drop l.left l.tokens))) × (l.left ≤ length l.tokens)

abbrev pub decreases-loop-left : goal.decreases-loop-left
decreases-loop-left l = l.left
