use Rattle.std.proofs.Common.{◌≡◌, [], ◌∙◌, rules}
use Rattle.std.proofs.iter.runs.Made.{chains}
use Rattle.indexmap.specs.IndexSet.{insert_all}
use Rattle.sync_terms.proofs.Inserting.{insert_all-distinct}
use Rattle.sync_terms.proofs.store.copied.Goals as goal

pub returns : goal.returns
returns g c =
    let keys = c.args.nodes.now.keys in
    let made : c.in_ok-collect.field-0.keys ≡ insert_all g.N.PartialEq.eq [] keys = search (rules, chains) in
    made ∙ insert_all-distinct g.N.PartialEq.eq g.met.N.Eq.laws [] keys c.iter.ensures.unique
