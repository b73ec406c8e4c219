use Rattle.std.proofs.Common.{sym, ap, subst, ◌∙◌}
use Rattle.sync_terms.specs.Stored.{formula}
use Rattle.sync_terms.proofs.Extending.{Extends-refl}
use Rattle.sync_kernel_facts.specs.Literals.{literal_form, IsLiteral}
use Rattle.sync_kernel.specs.Pairs.{TakesApart}
use Rattle.sync_kernel.specs.Taking.{cases_of, cases_of_not}
use Rattle.sync_kernel.proofs.TakenApart.{or_cases_of, imp_cases_of, not_cases, no_cases, taken_some, taken_none}
use Rattle.sync_kernel_facts.proofs.Saying.{plain_says, says_plain}
use Rattle.sync_kernel.proofs.splits.cases_of.Goals as goal

pub returns-in-Or-clause-cases : goal.returns-in-Or-clause-cases
returns-in-Or-clause-cases c =
    let s = c.args.terms.now in
    taken_some s (record { left = c.plain.result; right = c.plain-in-Or.result }) (cases_of (literal_form s c.args.says))
    (or_cases_of s c.form-node.result c.in-Or.a c.in-Or.b c.plain.result c.plain-in-Or.result (formula s c.args.says.form) c.form-node.ensures.value c.in-Or.is
    (plain_says s c.plain.result c.in-Or.a c.plain.ensures) (plain_says s c.plain-in-Or.result c.in-Or.b c.plain-in-Or.ensures)
    ∙ ap cases_of (sym (says_plain s c.args.says c.if-says.false)))
    (subst (IsLiteral s) (sym c.plain.ensures) c.in-Or.ensures.children.0, subst (IsLiteral s) (sym c.plain-in-Or.ensures) c.in-Or.ensures.children.1)

pub returns-in-Imp-clause-cases : goal.returns-in-Imp-clause-cases
returns-in-Imp-clause-cases c =
    let s = c.args.terms.now in
    taken_some s (record { left = c.denial.result; right = c.plain-in-Imp.result }) (cases_of (literal_form s c.args.says))
    (imp_cases_of s c.form-node.result c.in-Imp.a c.in-Imp.b c.denial.result c.plain-in-Imp.result (formula s c.args.says.form) c.form-node.ensures.value c.in-Imp.is
    c.denial.ensures.form (plain_says s c.plain-in-Imp.result c.in-Imp.b c.plain-in-Imp.ensures)
    ∙ ap cases_of (sym (says_plain s c.args.says c.if-says.false)))
    (c.denial.ensures.stored, subst (IsLiteral s) (sym c.plain-in-Imp.ensures) c.in-Imp.ensures.children.1)

pub returns-in-Not-clause-cases : goal.returns-in-Not-clause-cases
returns-in-Not-clause-cases c =
    let s = c.args.terms.now in
    subst (TakesApart c.cases_of_not-in-Not.new.terms c.cases_of_not-in-Not.result)
    (ap cases_of_not c.form-node-in-Not.ensures.value ∙ not_cases s (formula s c.args.says.form) c.form-node.result c.in-Not.inner c.form-node.ensures.value c.in-Not.is ∙ ap cases_of (sym (says_plain s c.args.says c.if-says.false)))
    c.cases_of_not-in-Not.ensures.cases

pub returns-in-Le : goal.returns-in-Le
returns-in-Le c = record {
  cases = taken_none c.args.terms.now (cases_of (literal_form c.args.terms.now c.args.says))
      (no_cases c.args.terms.now (formula c.args.terms.now c.args.says.form) c.form-node.result c.form-node.ensures.value c.in-Le.is ∙ ap cases_of (sym (says_plain c.args.terms.now c.args.says c.if-says.false)));
  keeps = Extends-refl c.args.terms.now;
}
