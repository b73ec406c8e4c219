use Rattle.std.proofs.Common.{◌≡◌, ap, subst, ◌∙◌}
use Rattle.sync_terms.specs.Trees.{neg}
use Rattle.sync_kernel_facts.specs.Branches.{facts_in}
use Rattle.sync_kernel_facts.proofs.Saying.{plain_says}
use Rattle.sync_kernel.specs.declared.splits.Pair.{Pair}
use Rattle.sync_kernel.specs.Holding.{Leaves}
use Rattle.sync_kernel.specs.Pairs.{pair_forms}
use Rattle.sync_kernel.specs.Readings.{form_read}
use Rattle.sync_kernel.specs.Scripts.{Cases, cases_with, both_fitting}
use Rattle.sync_kernel.specs.Taking.{Two}
use Rattle.sync_kernel.proofs.Adding.{cases_from, cut_large}
use Rattle.sync_kernel.proofs.Fitting.{AreSaid-more}
use Rattle.sync_kernel.proofs.steps.cut.Goals as goal

pub both-requires-clause-branch : goal.both-requires-clause-branch
both-requires-clause-branch c = AreSaid-more c.args.terms.now c.read_form.new.terms c.args.branch.now c.read_form.ensures.keeps c.requires.branch

pub returns-in-Ok-clause-leaves : goal.returns-in-Ok-clause-leaves
returns-in-Ok-clause-leaves c = λ name.
    (let s = c.args.terms.now in
    let t = c.read_form.new.terms in
    let form = form_read s c.args.names.now c.args.form in
    let fs = facts_in s c.args.branch.now in
    let value = c.in-Ok.ensures.built.value.value in
    let forms : pair_forms t (record { left = c.denial.result; right = c.plain.result }) ≡ record { left = neg form; right = form } =
    (λ i. record { left = (c.denial.ensures.form ∙ ap neg value) i; right = (plain_says t c.plain.result c.in-Ok.read c.plain.ensures ∙ value) i }) in
    subst (λ (w : Two). Leaves c.args.line c.both.result (λ (p : Pair) (d : Cases). d ≡ cases_with fs name (pair_forms t p)) (both_fitting fs name w)) forms
    (cases_from s t c.args.branch.now c.args.line name (pair_forms t (record { left = c.denial.result; right = c.plain.result })) c.both.result c.read_form.ensures.keeps c.requires.branch (c.both.ensures.leaves name)))

pub returns-in-Err-clause-leaves : goal.returns-in-Err-clause-leaves
returns-in-Err-clause-leaves c = λ name.
    cut_large c.args.line name c.in-Err.stop c.too_large.result (facts_in c.args.terms.now c.args.branch.now) (form_read c.args.terms.now c.args.names.now c.args.form) c.too_large.ensures c.in-Err.ensures.built.stop
