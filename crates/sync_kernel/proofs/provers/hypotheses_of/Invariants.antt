use Rattle.std.proofs.Common.{◌≡◌, take, map}
use Rattle.sync_kernel_facts.specs.Facts.{fact_of}
use Rattle.sync_kernel.specs.Hypotheses.{AreReady, known_in}
use Rattle.sync_kernel.proofs.provers.hypotheses_of.Given as goal

abbrev pub invariant-loop-hyp : goal.invariant-loop-hyp
invariant-loop-hyp l = AreReady l.terms l.ready × (known_in l.terms l.ready ≡ map (fact_of l.terms) (take l.hyp-index l.hyps))
