use Rattle.std.proofs.Common.{ap, subst, sym, ◌∙◌}
use Rattle.std.specs.FinMap as finmap
use Rattle.sync_entries.specs.Narrow.{Map, HasNarrowValues}
use Rattle.sync_entries.proofs.Ordered.{len-map_in}
use Rattle.sync_entries.proofs.entries.Entries.len.Goals as goal

pub returns-clause-len : goal.returns-clause-len
returns-clause-len c =
    c.len.ensures.len ∙ sym (len-map_in c.self.inside.map.entries c.len.ensures.ordered) ∙ ap (λ (m : Map). finmap.len m) c.self.view_is

pub returns-clause-narrow : goal.returns-clause-narrow
returns-clause-narrow c = subst HasNarrowValues c.self.view_is c.self.invariant
