use Rattle.std.proofs.Common.{◌≡◌, map, Some}
use Rattle.std.specs.List.{range_with_len}
use Rattle.sync_join.specs.Join.{value_at}
use Rattle.sync_join.specs.Views.{value_tree, kept_of}
use Rattle.sync_join.proofs.joining.join.Given as goal

abbrev pub invariant-loop-f : goal.invariant-loop-f
invariant-loop-f l = map (value_at l.m.fields l.bag.tokens (kept_of l.rest)) (range_with_len 0 l.f) ≡ map Some (map value_tree l.values)
