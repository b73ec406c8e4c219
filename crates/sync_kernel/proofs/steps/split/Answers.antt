use Rattle.std.proofs.Common.{◌≡◌, Option, Result, Ok, sym, ap, subst, ◌∙◌}
use Rattle.sync_base.specs.Outcome.{◌>>=◌}
use Rattle.sync_base.specs.declared.stops.Rule.{Rule}
use Rattle.sync_terms.specs.Trees.{Formula}
use Rattle.sync_kernel_facts.specs.declared.literals.Literal.{Literal}
use Rattle.sync_kernel.specs.declared.splits.Pair.{Pair}
use Rattle.sync_kernel_facts.specs.Facts.{Fact, newest}
use Rattle.sync_kernel_facts.specs.Branches.{facts_in}
use Rattle.sync_kernel_facts.specs.Literals.{literal_form, IsLiteral}
use Rattle.sync_kernel.specs.Pairs.{pair_forms, TakesApart}
use Rattle.sync_kernel.specs.Taking.{Two, cases_of, plain_fact, taken}
use Rattle.sync_kernel.specs.Scripts.{Cases, cases_with, both_fitting}
use Rattle.sync_kernel.specs.Holding.{StopsFor, Leaves}
use Rattle.sync_kernel.proofs.Stepping.{behind_first}
use Rattle.sync_kernel.proofs.Adding.{cases_taken, cases_stop, cases_from}
use Rattle.sync_kernel.proofs.steps.split.Goals as goal

pub returns-in-Ok-Some-clause-leaves : goal.returns-in-Ok-Some-clause-leaves
returns-in-Ok-Some-clause-leaves c = λ name.
    (let s = c.args.terms.now in
    let t = c.cases_of.new.terms in
    let fs = facts_in s c.args.branch.now in
    let forms = pair_forms t c.in-Ok-Some.pair in
    let apart = subst (λ (o : Option Pair). TakesApart t (Ok o) (cases_of (literal_form s c.in_ok-says.says))) c.in-Ok-Some.field-0-is c.in-Ok-Some.ensures.cases in
    behind_first c.args.line (λ (l : Literal) (f : Fact). (literal_form s l ≡ f.form) × IsLiteral s l) c.in_ok-says.says (plain_fact (newest c.args.hyp fs))
    (λ (f : Fact). taken (cases_of f.form) >>= (λ (x : Two). both_fitting fs name x))
    (λ (w : Result Cases Rule). Leaves c.args.line c.both.result (λ (p : Pair) (d : Cases). d ≡ cases_with fs name (pair_forms t p)) w) c.in_ok-says.ensures
    (λ f p. subst (λ (r : Result Two Rule). Leaves c.args.line c.both.result (λ (p : Pair) (d : Cases). d ≡ cases_with fs name (pair_forms t p)) (r >>= (λ (x : Two). both_fitting fs name x)))
    (sym (ap (λ (x : Formula). taken (cases_of x)) (sym p.0) ∙ cases_taken t c.in-Ok-Some.pair (cases_of (literal_form s c.in_ok-says.says)) apart))
    (cases_from s t c.args.branch.now c.args.line name forms c.both.result c.cases_of.ensures.keeps c.requires (c.both.ensures.leaves name))))

pub returns-in-Err-clause-leaves : goal.returns-in-Err-clause-leaves
returns-in-Err-clause-leaves c = λ name.
    (let s = c.args.terms.now in
    let t = c.cases_of.new.terms in
    let fs = facts_in s c.args.branch.now in
    behind_first c.args.line (λ (l : Literal) (f : Fact). (literal_form s l ≡ f.form) × IsLiteral s l) c.in_ok-says.says (plain_fact (newest c.args.hyp fs))
    (λ (f : Fact). taken (cases_of f.form) >>= (λ (x : Two). both_fitting fs name x))
    (StopsFor c.args.line c.too_large.result) c.in_ok-says.ensures
    (λ f p. subst (λ (x : Formula). StopsFor c.args.line c.too_large.result (taken (cases_of x) >>= (λ (y : Two). both_fitting fs name y))) p.0
    (cases_stop t c.args.line name c.in-Err.stop c.too_large.result fs (cases_of (literal_form s c.in_ok-says.says)) c.too_large.ensures c.in-Err.ensures.cases)))
