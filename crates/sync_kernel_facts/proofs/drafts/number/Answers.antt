use Rattle.std.proofs.Common.{subst, ap}
use Rattle.sync_terms.proofs.Extending.{Extends-trans}
use Rattle.sync_kernel_facts.specs.Drafts.{value_tree, IsValue}
use Rattle.sync_kernel_facts.proofs.Drafting.{IsPart-stays, left_less}
use Rattle.sync_terms.proofs.BuildingLemmas.{BuildsTerm-by, BuildsTerm-term}
use Rattle.sync_kernel_facts.proofs.drafts.number.Goals as goal

pub returns-in_err-more-in-PlusMinus-clause-built : goal.returns-in_err-more-in-PlusMinus-clause-built
returns-in_err-more-in-PlusMinus-clause-built c =
    BuildsTerm-by (ap (value_tree c.args.terms.now) c.in-PlusMinus.is)
    (BuildsTerm-term c.from_residual.result c.in_err-more-in-PlusMinus.ensures.built c.from_residual.ensures.1 (left_less _ _))

pub lessened-requires-in-PlusMinus-clause-right : goal.lessened-requires-in-PlusMinus-clause-right
lessened-requires-in-PlusMinus-clause-right c =
    IsPart-stays c.added-in-PlusMinus.ensures.keeps c.in-PlusMinus.less (subst (IsValue c.args.terms.now) c.in-PlusMinus.is c.requires).2

pub returns-in_ok-more-in-PlusMinus-clause-keeps : goal.returns-in_ok-more-in-PlusMinus-clause-keeps
returns-in_ok-more-in-PlusMinus-clause-keeps c = Extends-trans c.added-in-PlusMinus.ensures.keeps c.lessened-in-PlusMinus.ensures.keeps
