use Rattle.std.proofs.Common.{◌≡◌, ℕ, length, ap, subst, ◌∙◌}
use Rattle.sync_base.specs.Outcome.{Passes}
use Rattle.sync_terms.specs.Trees.{Tree}
use Rattle.sync_terms.specs.Stored.{formula}
use Rattle.sync_terms.specs.Plans.{Plan, plan_of}
use Rattle.sync_typing_ledgers.specs.Entries.{Kept}
use Rattle.sync_kernel.specs.Hypotheses.{known_in}
use Rattle.sync_kernel.specs.Replaced.{plan_replaced}
use Rattle.sync_kernel.specs.Scripts.{script_fault}
use Rattle.sync_kernel.proofs.Itself.{no_names, plan_itself}
use Rattle.sync_kernel.proofs.provers.prove_from.Goals as goal

pub returns-clause-exact : goal.returns-clause-exact
returns-clause-exact c =
    let s = c.args.terms.now in
    let plan = plan_of s c.args.s.now.block in
    let none : length c.new-names.result.entries ≡ 0 = ap (λ (k : Kept). length k.entries) c.new-names.ensures in
    subst (λ (p : Plan). Passes c.prove_by_names.result (script_fault (known_in s c.args.hyps.now) (formula s c.args.claim) p))
    (ap (λ (f : ℕ → Tree). plan_replaced f plan) (no_names s c.new-names.result none) ∙ plan_itself plan) c.prove_by_names.ensures.exact
