use Rattle.std.proofs.Common.{sym, ap, ◌∙◌}
use Rattle.std.specs.Prelude.{option_map}
use Rattle.sync_terms.specs.Stored.{formula}
use Rattle.sync_kernel.specs.Pairs.{pair_forms}
use Rattle.sync_kernel.specs.Taking.{parts_of, parts_of_not}
use Rattle.sync_kernel.proofs.TakenApart.{and_parts_of, not_parts, no_parts}
use Rattle.sync_kernel_facts.proofs.Saying.{plain_says, says_plain}
use Rattle.sync_kernel.proofs.splits.parts_of.Goals as goal

pub returns-in-And-clause-pair : goal.returns-in-And-clause-pair
returns-in-And-clause-pair c =
    let s = c.args.terms.now in
    and_parts_of s c.form-node.result c.in-And.a c.in-And.b c.plain.result c.plain-in-And.result (formula s c.args.says.form) c.form-node.ensures.value c.in-And.is
    (plain_says s c.plain.result c.in-And.a c.plain.ensures) (plain_says s c.plain-in-And.result c.in-And.b c.plain-in-And.ensures)
    ∙ ap parts_of (sym (says_plain s c.args.says c.if-says.false))

pub returns-in-Not-clause-pair : goal.returns-in-Not-clause-pair
returns-in-Not-clause-pair c =
    let s = c.args.terms.now in
    not_parts s (formula s c.args.says.form) c.form-node.result c.in-Not.inner (option_map (pair_forms s) c.parts_of_not-in-Not.result) c.form-node.ensures.value c.in-Not.is
    (c.parts_of_not-in-Not.ensures.pair ∙ ap parts_of_not c.form.ensures.value)
    ∙ ap parts_of (sym (says_plain s c.args.says c.if-says.false))

pub returns-in-Le : goal.returns-in-Le
returns-in-Le c = record {
  pair = no_parts c.args.terms.now (formula c.args.terms.now c.args.says.form) c.form-node.result c.form-node.ensures.value c.in-Le.is ∙ ap parts_of (sym (says_plain c.args.terms.now c.args.says c.if-says.false));
  stored = tt;
}
