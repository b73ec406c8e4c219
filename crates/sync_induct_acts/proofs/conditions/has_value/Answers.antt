use Rattle.std.proofs.Common.{arith}
use Rattle.sync_terms.proofs.Extending.{Extends-trans}
use Rattle.sync_terms.specs.Trees.{tree_size, formula_size}
use Rattle.sync_terms.proofs.BuildingLemmas.{BuildsForm-term}
use Rattle.sync_induct_acts.proofs.conditions.has_value.Goals as goal

pub returns-in_err-got-clause-built : goal.returns-in_err-got-clause-built
unfolding tree_size formula_size
returns-in_err-got-clause-built c = BuildsForm-term c.from_residual.result c.in_err-got.ensures.built c.from_residual.ensures.1 (omega arith)

pub returns-clause-keeps : goal.returns-clause-keeps
returns-clause-keeps c = Extends-trans c.term.ensures.keeps c.form.ensures.keeps
