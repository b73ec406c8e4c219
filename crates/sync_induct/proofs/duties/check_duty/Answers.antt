use Rattle.std.proofs.Common.{◌≡◌, ◌+◌, Some, None, sym, ap, ◌∙◌}
use Rattle.std.specs.Prelude.{not, nat_lt, slice_get}
use Rattle.sync_terms.specs.Trees.{most_nodes}
use Rattle.sync_terms.specs.Plans.{plan_of}
use Rattle.sync_kernel_facts.specs.Facts.{facts_size}
use Rattle.sync_induct.specs.Checks.{duty_of, sequent_size}
use Rattle.sync_terms.specs.Proofs.{titles_of, proofs_in}
use Rattle.sync_induct.specs.Titles.{titled, first_at}
use Rattle.sync_induct.proofs.Judging.{missing, script-at, place-there, judged-none, judged-large, judged-script, passes-same}
use Rattle.sync_induct.proofs.duties.check_duty.Goals as goal

pub returns-in_default-clause-exact : goal.returns-in_default-clause-exact
returns-in_default-clause-exact c =
    let s = c.args.terms.now in
    let ps = c.args.book.proofs.now in
    let d = duty_of s c.args.hyps.now c.args.claim c.args.obligation in
    let t = titled c.args.obligation in
    let none : first_at t 0 (titles_of ps) ≡ None = sym (c.requires.book.placed t) ∙ (rw c.new.ensures at (sym c.in_default.ensures.value)) in
    rw c.refused.ensures (judged-none (proofs_in s ps) d (missing s ps t 0 none))

pub returns-in_default-at-clause-exact : goal.returns-in_default-at-clause-exact
returns-in_default-at-clause-exact c =
    let s = c.args.terms.now in
    let ps = c.args.book.proofs.now in
    let t = titled c.args.obligation in
    let first : first_at t 0 (titles_of ps) ≡ Some c.in-Some.field-0.now = sym (c.requires.book.placed t) ∙ (rw c.new.ensures at (sym c.in-Some.ensures.value)) in
    let none : slice_get ps c.in-Some.field-0.now ≡ None = sym c.in_default-at.ensures in
    absurd (place-there s ps t c.in-Some.field-0.now first none)

pub returns-then-not-fit-clause-exact : goal.returns-then-not-fit-clause-exact
returns-then-not-fit-clause-exact c =
    let s = c.args.terms.now in
    let ps = c.args.book.proofs.now in
    let d = duty_of s c.args.hyps.now c.args.claim c.args.obligation in
    let t = titled c.args.obligation in
    let first : first_at t 0 (titles_of ps) ≡ Some c.in-Some.field-0.now = sym (c.requires.book.placed t) ∙ (rw c.new.ensures at (sym c.in-Some.ensures.value)) in
    let script = script-at s ps t c.in-Some.field-0.now c.in-Some-at.proof.now first (sym c.in-Some-at.ensures) in
    let test : c.fit.result ≡ not (nat_lt most_nodes (sequent_size d.facts d.claim)) = c.fit.ensures s c.requires.ready ∙ ap (λ n. not (nat_lt most_nodes (facts_size d.facts + n))) c.denied_size.ensures.size in
    rw c.refused-then-not-fit.ensures (judged-large (proofs_in s ps) d (plan_of s c.in-Some-at.proof.now.script.block) script (sym c.if-not-fit.true ∙ test))

pub returns-clause-exact : goal.returns-clause-exact
returns-clause-exact c =
    let s = c.args.terms.now in
    let ps = c.args.book.proofs.now in
    let d = duty_of s c.args.hyps.now c.args.claim c.args.obligation in
    let t = titled c.args.obligation in
    let first : first_at t 0 (titles_of ps) ≡ Some c.in-Some.field-0.now = sym (c.requires.book.placed t) ∙ (rw c.new.ensures at (sym c.in-Some.ensures.value)) in
    let script = script-at s ps t c.in-Some.field-0.now c.in-Some-at.proof.now first (sym c.in-Some-at.ensures) in
    let test : c.fit.result ≡ not (nat_lt most_nodes (sequent_size d.facts d.claim)) = c.fit.ensures s c.requires.ready ∙ ap (λ n. not (nat_lt most_nodes (facts_size d.facts + n))) c.denied_size.ensures.size in
    passes-same c.prove_from.result _ _ (sym (judged-script (proofs_in s ps) d (plan_of s c.in-Some-at.proof.now.script.block) script c.denied_size.ensures.claim (sym c.if-not-fit.false ∙ test))) c.prove_from.ensures.exact
