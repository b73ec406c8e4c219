use Rattle.std.proofs.Common.{ℕ, ap, sym, ◌∙◌}
use Rattle.sync_terms.specs.Stored.{formula}
use Rattle.sync_terms.specs.Trees.{Tree, replaced_in}
use Rattle.sync_terms.proofs.BuildingLemmas.{BuildsForm-by}
use Rattle.sync_kernel.proofs.Itself.{formula_itself, no_names}
use Rattle.sync_kernel.proofs.readings.read_form.Goals as goal

pub returns-then-len-eq0-clause-built : goal.returns-then-len-eq0-clause-built
returns-then-len-eq0-clause-built c =
    let s = c.args.terms.now in
    let x = formula s c.args.id in
    BuildsForm-by (ap (λ (f : ℕ → Tree). replaced_in f x) (no_names s c.args.names.now (sym c.len.ensures ∙ c.if-len-eq0.true)) ∙ formula_itself x) c.stored_form.ensures
