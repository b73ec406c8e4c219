use Rattle.sync_kernel.proofs.Assuming.{known_length}
use Rattle.sync_kernel.proofs.hypotheses.Hypotheses.len.Goals as goal

pub returns : goal.returns
returns c = λ s. known_length s c.args.self.now c.len.result c.len.ensures
