use Rattle.std.proofs.Common.{◌≡◌, subst}
use Rattle.sync_terms.specs.Trees.{Formula}
use Rattle.sync_kernel_facts.specs.Branches.{facts_in}
use Rattle.sync_kernel.specs.Scripts.{with_fact, fitting}
use Rattle.sync_kernel.specs.Holding.{Leaves}
use Rattle.sync_kernel_facts.proofs.Saying.{plain_says}
use Rattle.sync_kernel.proofs.Adding.{built_stops, built_says}
use Rattle.sync_kernel.proofs.steps.add_built.Goals as goal

pub returns-in-Ok-clause-leaves : goal.returns-in-Ok-clause-leaves
returns-in-Ok-clause-leaves c = λ f b.
    (let s = c.args.terms.now in
    subst (λ (g : Formula). Leaves c.args.line c.add.result (λ _ known. facts_in s c.add.new.branch ≡ known) (fitting (with_fact (facts_in s c.args.branch.now) c.args.name g)))
    (built_says s c.args.form c.in-Ok.form c.plain.result f c.in-Ok.is b (plain_says s c.plain.result c.in-Ok.form c.plain.ensures)) c.add.ensures.leaves)

pub returns-in-Err-clause-leaves : goal.returns-in-Err-clause-leaves
returns-in-Err-clause-leaves c = λ f b.
    built_stops c.args.terms.now c.args.line c.args.form c.in-Err.stop c.too_large.result f (facts_in c.args.terms.now c.args.branch.now) c.args.name c.in-Err.is c.too_large.ensures b
