use Rattle.std.proofs.Common.{rules, tests, ◌∙◌}
use Rattle.std.proofs.lemmas.Iterator.{YieldsList-from_slice}
use Rattle.std.proofs.lemmas.Iterator.Consumers.{YieldsList-from_filter, count_from_yields_List}
use Rattle.std.proofs.lemmas.List.Sums.{length-filter}
use Rattle.sync_read_programs.specs.Keeps.{is_unguarded}
use Rattle.sync_read_programs.proofs.declarations.unguarded.Goals as goal

pub returns : goal.returns
returns c =
    let raw = c.args.raw.now in
    count_from_yields_List c.filter.result _ c.count.ensures.ran (YieldsList-from_filter _ is_unguarded (YieldsList-from_slice raw cc) c.filter.ensures.closure (λ x b q k. search (rules, tests)))
    ∙ length-filter is_unguarded raw
