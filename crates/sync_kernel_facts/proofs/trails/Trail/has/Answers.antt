use Rattle.std.proofs.Common.{ap, ◌∙◌}
use Rattle.std.specs.Prelude.{is_some}
use Rattle.sync_kernel_facts.specs.Trails.{has_entry}
use Rattle.sync_kernel_facts.proofs.Trailing.{has_place}
use Rattle.sync_kernel_facts.proofs.trails.Trail.has.Goals as goal

pub returns : goal.returns
returns c =
    let es = c.self.inside.entries.items in
    let l = c.args.literal in
    c.contains_key.ensures ∙ ap is_some (c.self.invariant l) ∙ has_place 0 l es ∙ ap (λ xs. has_entry xs l) c.self.view_is
