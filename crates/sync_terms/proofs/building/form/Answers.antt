use Rattle.sync_terms.proofs.BuildingLemmas.{BuildsForm-added}
use Rattle.sync_terms.proofs.building.form.Goals as goal

pub returns-clause-built : goal.returns-clause-built
returns-clause-built c = BuildsForm-added c.args.terms.now c.args.node c.add_form.result c.add_form.ensures.id c.add_form.ensures.too_large
