use Rattle.sync_terms.proofs.BuildingLemmas.{BuildsTerm-added}
use Rattle.sync_terms.proofs.building.term.Goals as goal

pub returns-clause-built : goal.returns-clause-built
returns-clause-built c = BuildsTerm-added c.args.terms.now c.args.node c.add_term.result c.add_term.ensures.id c.add_term.ensures.too_large
