use Rattle.sync_kernel_facts.specs.Branches.{facts_in}
use Rattle.sync_kernel.proofs.Assuming.{none_ready, none_known}
use Rattle.sync_kernel.proofs.hypotheses.Hypotheses.new.Goals as goal

pub returns-clause-ready : goal.returns-clause-ready
returns-clause-ready c = λ s. none_ready s _ c.new.ensures (c.new-2.ensures s (facts_in s c.new.result))

pub returns-clause-known : goal.returns-clause-known
returns-clause-known c = λ s. none_known s _ c.new.ensures
