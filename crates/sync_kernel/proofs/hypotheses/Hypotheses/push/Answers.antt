use Rattle.std.proofs.Common.{refl, ◌∙◌}
use Rattle.sync_kernel_facts.specs.Facts.{fact_of}
use Rattle.sync_kernel.proofs.Assuming.{hyp_fact, more_known, more_ready}
use Rattle.sync_kernel.proofs.hypotheses.Hypotheses.push.Goals as goal

pub returns-clause-known : goal.returns-clause-known
returns-clause-known c =
    let s = c.args.terms.now in
    let says = hyp_fact s c.new.result c.args.hyp c.new.ensures.name c.new.ensures.params (c.new.ensures.says ∙ c.plain-says.ensures) in
    more_known s c.args.self.now _ c.new.result (fact_of s c.args.hyp) c.in_ok-push.ensures.ok says

pub returns-clause-ready : goal.returns-clause-ready
returns-clause-ready c =
    more_ready c.args.terms.now c.args.self.now _ c.new.result c.in_ok-push.ensures.ok refl c.new.ensures.said c.requires.ready
