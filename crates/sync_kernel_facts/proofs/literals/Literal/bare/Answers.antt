use Rattle.std.proofs.Common.{sym, refl, ◌∙◌}
use Rattle.sync_terms.specs.Stored.{formula}
use Rattle.sync_kernel_facts.proofs.Saying.{other_plain, inner_not, says_plain}
use Rattle.sync_kernel_facts.proofs.literals.Literal.bare.Goals as goal

pub returns-in-Not-clause-form : goal.returns-in-Not-clause-form
returns-in-Not-clause-form c =
    inner_not c.args.terms.now (formula c.args.terms.now c.args.self.form) c.form-node.result c.in-Not.inner c.form-node.ensures.value c.in-Not.is ∙ sym (says_plain c.args.terms.now c.args.self c.if-self.false)

pub returns-in-Le : goal.returns-in-Le
returns-in-Le c = record {
  form = refl;
  stored = c.requires;
  shared = c.form-node.ensures.shared;
  bare = λ _. (other_plain c.args.terms.now (formula c.args.terms.now c.args.self.form) c.form-node.result c.form-node.ensures.value c.in-Le.is).bare;
}
