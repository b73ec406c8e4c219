use Rattle.std.proofs.Common.{◌∙◌}
use Rattle.sync_terms.proofs.Extending.{Extends-trans}
use Rattle.sync_kernel_facts.specs.Drafts.{value_tree, compared}
use Rattle.sync_kernel_facts.proofs.Drafting.{value-stays, IsValue-stays, left_compared, right_compared}
use Rattle.sync_terms.proofs.BuildingLemmas.{BuildsForm-term, BuildsForm-same, BuildsTerm-same, HasTerm-same, both_terms}
use Rattle.sync_kernel_facts.proofs.drafts.test.Goals as goal

pub returns-in_err-left-clause-built : goal.returns-in_err-left-clause-built
returns-in_err-left-clause-built c =
    BuildsForm-term c.from_residual.result c.in_err-left.ensures.built c.from_residual.ensures.1
    (left_compared c.args.relation (value_tree c.args.terms.now c.args.left) (value_tree c.args.terms.now c.args.right))

pub number-requires-2 : goal.number-requires-2
number-requires-2 c = IsValue-stays c.number.ensures.keeps c.args.right c.requires.right

pub returns-in_err-right-clause-built : goal.returns-in_err-right-clause-built
returns-in_err-right-clause-built c =
    BuildsForm-term c.from_residual-in_err-right.result (BuildsTerm-same c.in_err-right.ensures.built (value-stays c.number.ensures.keeps c.args.right c.requires.right))
    c.from_residual-in_err-right.ensures.1 (right_compared c.args.relation (value_tree c.args.terms.now c.args.left) (value_tree c.args.terms.now c.args.right))

pub returns-in_err-right-clause-keeps : goal.returns-in_err-right-clause-keeps
returns-in_err-right-clause-keeps c = Extends-trans c.number.ensures.keeps c.number-2.ensures.keeps

pub form-requires : goal.form-requires
form-requires c =
    c.test_node.ensures.parts _ (c.number-2.ensures.keeps.terms _ c.in_ok-left.ensures.built.value.stored).0
    c.in_ok-right.ensures.built.value.stored

pub returns-clause-built : goal.returns-clause-built
returns-clause-built c =
    BuildsForm-same c.form.ensures.built
    (c.test_node.ensures.formula _
    ∙ both_terms (compared c.args.relation) c.in_ok-left.ensures.built.value c.number-2.ensures.keeps
    (HasTerm-same c.in_ok-right.ensures.built.value (value-stays c.number.ensures.keeps c.args.right c.requires.right)))

pub returns-clause-keeps : goal.returns-clause-keeps
returns-clause-keeps c = Extends-trans c.number.ensures.keeps (Extends-trans c.number-2.ensures.keeps c.form.ensures.keeps)
