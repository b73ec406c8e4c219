use Rattle.std.proofs.Common.{refl}
use Rattle.sync_induct.proofs.Growing.{gained}
use Rattle.sync_induct.proofs.walks.Walk.add.Goals as goal

pub returns : goal.returns
returns c = gained c.args.terms.now c.args.self.now _ c.args.hyp c.requires.walk c.in_ok-push.ensures.ready c.in_ok-push.ensures.known refl
