use Rattle.std.proofs.Common.{refl}
use Rattle.sync_terms.proofs.BuildingLemmas.{FindsTerm-one}
use Rattle.sync_terms.specs.Trees.{tree_size}
use Rattle.sync_induct_acts.proofs.nodes.name.Goals as goal

pub returns-clause-found : goal.returns-clause-found
unfolding tree_size
returns-clause-found c = FindsTerm-one _ c.term.result refl c.term.ensures.built
