use Rattle.sync_kernel.proofs.Assuming.{back_ready, back_known}
use Rattle.sync_kernel.proofs.hypotheses.Hypotheses.cut_back.Goals as goal

pub returns-clause-ready : goal.returns-clause-ready
returns-clause-ready c = λ s ready. back_ready s c.args.self.now _ c.args.len c.cut_back.ensures (c.cut_back-2.ensures s) ready

pub returns-clause-known : goal.returns-clause-known
returns-clause-known c = λ s. back_known s c.args.self.now _ c.args.len c.cut_back.ensures
