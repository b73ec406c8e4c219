use Rattle.std.proofs.Common.{ℕ, ap, sym, ◌∙◌}
use Rattle.sync_terms.specs.Stored.{tree}
use Rattle.sync_terms.specs.Trees.{Tree, replaced}
use Rattle.sync_terms.proofs.BuildingLemmas.{BuildsTerm-by}
use Rattle.sync_kernel.proofs.Itself.{itself, no_names}
use Rattle.sync_kernel.proofs.readings.read_term.Goals as goal

pub returns-then-len-eq0-clause-built : goal.returns-then-len-eq0-clause-built
returns-then-len-eq0-clause-built c =
    let s = c.args.terms.now in
    let x = tree s c.args.id in
    BuildsTerm-by (ap (λ (f : ℕ → Tree). replaced f x) (no_names s c.args.names.now (sym c.len.ensures ∙ c.if-len-eq0.true)) ∙ itself x) c.stored_term.ensures
