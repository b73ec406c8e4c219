use Rattle.std.proofs.Common.{ap, ◌∙◌}
use Rattle.sync_terms.specs.Stored.{formula}
use Rattle.sync_kernel_facts.specs.Literals.{literal_form}
use Rattle.sync_kernel_facts.proofs.Saying.{other_plain, inner_denied}
use Rattle.sync_kernel_facts.proofs.literals.Literal.denial.Goals as goal

pub returns-in-Not-clause-form : goal.returns-in-Not-clause-form
returns-in-Not-clause-form c =
    ap (literal_form c.args.terms.now) c.plain.ensures ∙ inner_denied c.args.terms.now (formula c.args.terms.now c.args.form) c.form.result c.in-Not.inner c.form.ensures.value c.in-Not.is

pub returns-in-Le : goal.returns-in-Le
returns-in-Le c = record {
  form = (other_plain c.args.terms.now (formula c.args.terms.now c.args.form) c.form.result c.form.ensures.value c.in-Le.is).denied;
  stored = c.requires;
}
