use Rattle.std.proofs.Common.{arith}
use Rattle.sync_terms.proofs.Extending.{Extends-trans}
use Rattle.sync_terms.specs.Trees.{tree_size}
use Rattle.sync_kernel_facts.proofs.Drafting.{part-stays, IsPart-stays}
use Rattle.sync_terms.proofs.BuildingLemmas.{BuildsTerm-term, BuildsTerm-same}
use Rattle.sync_kernel_facts.proofs.drafts.added.Goals as goal

pub returns-in_err-left-clause-built : goal.returns-in_err-left-clause-built
unfolding tree_size
returns-in_err-left-clause-built c = BuildsTerm-term c.from_residual.result c.in_err-left.ensures.built c.from_residual.ensures.1 (omega arith)

pub single-requires-2 : goal.single-requires-2
single-requires-2 c = IsPart-stays c.single.ensures.keeps c.args.right c.requires.right

pub returns-in_err-right-clause-built : goal.returns-in_err-right-clause-built
unfolding tree_size
returns-in_err-right-clause-built c =
    BuildsTerm-term c.from_residual-in_err-right.result (BuildsTerm-same c.in_err-right.ensures.built (part-stays c.single.ensures.keeps c.args.right c.requires.right))
    c.from_residual-in_err-right.ensures.1 (omega arith)

pub returns-in_err-right-clause-keeps : goal.returns-in_err-right-clause-keeps
returns-in_err-right-clause-keeps c = Extends-trans c.single.ensures.keeps c.single-2.ensures.keeps

pub returns-clause-keeps : goal.returns-clause-keeps
returns-clause-keeps c = Extends-trans c.single.ensures.keeps (Extends-trans c.single-2.ensures.keeps c.term.ensures.keeps)
