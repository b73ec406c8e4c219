use Rattle.std.proofs.Common.{◌≡◌, ◌+◌, ◌≤◌, min, drop, map}
use Rattle.sync_terms.specs.Trees.{most_nodes}
use Rattle.sync_read_names.specs.Exprs.{reading, all_nodes}
use Rattle.sync_read_names.proofs.exprs.+counting.Given as goal

abbrev pub invariant-nodes_of-loop-e : goal.invariant-nodes_of-loop-e
invariant-nodes_of-loop-e l =
    (min (l.count + all_nodes (map reading (drop l.e-index l.es))) (most_nodes + 1) ≡ min (all_nodes (map reading l.es)) (most_nodes + 1))
    × (l.count ≤ (most_nodes + 1))
