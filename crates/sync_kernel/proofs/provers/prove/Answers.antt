use Rattle.std.proofs.Common.{List, map, ap, subst, ◌∙◌}
use Rattle.std.specs.Prelude.{OnOk}
use Rattle.sync_terms.specs.Stored.{formula}
use Rattle.sync_terms.specs.Values.{Hypothesis, IsValid}
use Rattle.sync_kernel_facts.specs.Facts.{fact_of, as_hypothesis}
use Rattle.sync_kernel.proofs.Adding.{given_map}
use Rattle.sync_kernel.proofs.provers.prove.Goals as goal

pub returns-clause-valid : goal.returns-clause-valid
returns-clause-valid c =
    let s = c.args.terms.now in
    let known = c.in_ok-hyps.ensures.known ∙ ap (map (fact_of s)) c.as_slice.ensures in
    subst (λ (gs : List Hypothesis). OnOk c.prove_from.result (IsValid gs (formula s c.args.q.now.claim))) (ap (map as_hypothesis) known ∙ given_map s c.args.q.now.hyps) c.prove_from.ensures.valid
