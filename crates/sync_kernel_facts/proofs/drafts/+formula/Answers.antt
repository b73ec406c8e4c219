use Rattle.std.proofs.Common.{subst, ap, ◌∙◌, arith}
use Rattle.sync_terms.proofs.Extending.{Extends-trans}
use Rattle.sync_kernel_facts.specs.Drafts.{connectives, joined, draft_formula, IsDraft}
use Rattle.sync_kernel_facts.proofs.Drafting.{draft-stays, IsDraft-stays, left_joined, right_joined, within_not}
use Rattle.sync_terms.proofs.BuildingLemmas.{BuildsForm-form, BuildsForm-by, BuildsForm-same, HasForm-same, both_forms}
use Rattle.sync_kernel_facts.proofs.drafts.+formula.Goals as goal

pub returns-in_err-inner-in-Not-clause-built : goal.returns-in_err-inner-in-Not-clause-built
returns-in_err-inner-in-Not-clause-built t c =
    BuildsForm-by (ap (draft_formula c.args.terms.now) c.in-Not.is)
    (BuildsForm-form c.from_residual.result c.in_err-inner-in-Not.ensures.built c.from_residual.ensures.1 (within_not (draft_formula c.args.terms.now c.in-Not.inner.now)))

pub returns-in_err-left-in-Join-clause-built : goal.returns-in_err-left-in-Join-clause-built
returns-in_err-left-in-Join-clause-built t c =
    BuildsForm-by (ap (draft_formula c.args.terms.now) c.in-Join.is)
    (BuildsForm-form c.from_residual-in_err-left-in-Join.result c.in_err-left-in-Join.ensures.built c.from_residual-in_err-left-in-Join.ensures.1
    (left_joined c.in-Join.connective (draft_formula c.args.terms.now c.in-Join.left.now) (draft_formula c.args.terms.now c.in-Join.right.now)))

pub formula-requires-in-Join-2 : goal.formula-requires-in-Join-2
formula-requires-in-Join-2 t c =
    let falls = ap connectives c.in-Join.is in
    let all = c.decreases in
    (omega (arith, falls, all), IsDraft-stays c.formula-in-Join.ensures.keeps c.in-Join.right.now (subst (IsDraft c.args.terms.now) c.in-Join.is c.requires).1)

pub returns-in_err-right-in-Join-clause-built : goal.returns-in_err-right-in-Join-clause-built
returns-in_err-right-in-Join-clause-built t c =
    BuildsForm-by (ap (draft_formula c.args.terms.now) c.in-Join.is)
    (BuildsForm-form c.from_residual-in_err-right-in-Join.result
    (BuildsForm-same c.in_err-right-in-Join.ensures.built (draft-stays c.formula-in-Join.ensures.keeps c.in-Join.right.now (subst (IsDraft c.args.terms.now) c.in-Join.is c.requires).1))
    c.from_residual-in_err-right-in-Join.ensures.1 (right_joined c.in-Join.connective (draft_formula c.args.terms.now c.in-Join.left.now) (draft_formula c.args.terms.now c.in-Join.right.now)))

pub returns-in_err-right-in-Join-clause-keeps : goal.returns-in_err-right-in-Join-clause-keeps
returns-in_err-right-in-Join-clause-keeps t c = Extends-trans c.formula-in-Join.ensures.keeps c.formula-in-Join-2.ensures.keeps

pub returns-in_ok-inner-in-Not-clause-keeps : goal.returns-in_ok-inner-in-Not-clause-keeps
returns-in_ok-inner-in-Not-clause-keeps t c = Extends-trans c.formula.ensures.keeps c.form.ensures.keeps

pub form-requires-in-Join : goal.form-requires-in-Join
form-requires-in-Join t c =
    c.join_node.ensures.parts _ (c.formula-in-Join-2.ensures.keeps.forms _ c.in_ok-left-in-Join.ensures.built.value.stored).0
    c.in_ok-right-in-Join.ensures.built.value.stored

pub returns-in_ok-right-in-Join-clause-built : goal.returns-in_ok-right-in-Join-clause-built
returns-in_ok-right-in-Join-clause-built t c =
    BuildsForm-by (ap (draft_formula c.args.terms.now) c.in-Join.is)
    (BuildsForm-same c.form-in-Join.ensures.built
    (c.join_node.ensures.formula _
    ∙ both_forms (joined c.in-Join.connective) c.in_ok-left-in-Join.ensures.built.value c.formula-in-Join-2.ensures.keeps
    (HasForm-same c.in_ok-right-in-Join.ensures.built.value
    (draft-stays c.formula-in-Join.ensures.keeps c.in-Join.right.now (subst (IsDraft c.args.terms.now) c.in-Join.is c.requires).1))))

pub returns-in_ok-right-in-Join-clause-keeps : goal.returns-in_ok-right-in-Join-clause-keeps
returns-in_ok-right-in-Join-clause-keeps t c = Extends-trans c.formula-in-Join.ensures.keeps (Extends-trans c.formula-in-Join-2.ensures.keeps c.form-in-Join.ensures.keeps)
