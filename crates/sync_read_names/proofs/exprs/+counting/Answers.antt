use Rattle.std.proofs.Common.{◌≡◌, ◌+◌, min, map, sym, ap, ◌∙◌}
use Rattle.sync_terms.specs.Trees.{most_nodes}
use Rattle.sync_read_names.specs.Exprs.{reading, all_nodes, counted_call}
use Rattle.sync_read_names.proofs.Nodes.{call_nodes, counted_min}
use Rattle.sync_read_names.proofs.exprs.+counting.Goals as goal

pub nodes-returns-in-Call : goal.nodes-returns-in-Call
nodes-returns-in-Call t c =
    let f = c.in-Call.function in
    let all = all_nodes (map reading c.in-Call.args) in
    let of_args : c.nodes_of.result ≡ min all (most_nodes + 1) = rw (← c.as_slice.ensures) c.nodes_of.ensures in
    c.counted_call.ensures
    ∙ ap (λ n. min (counted_call f n) (most_nodes + 1)) of_args
    ∙ counted_min f all
    ∙ ap (λ n. min n (most_nodes + 1)) (sym (call_nodes c.args.e.now f c.in-Call.field-1 c.in-Call.args c.in-Call.is))
