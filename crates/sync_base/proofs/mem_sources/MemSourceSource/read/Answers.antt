use Rattle.std.proofs.Common.{ap, take}
use Rattle.sync_base.specs.InMemory.{Input}
use Rattle.sync_base.proofs.Fronts.{given_is}
use Rattle.sync_base.proofs.mem_sources.MemSourceSource.read.Goals as goal

pub returns-clause-given : goal.returns-clause-given
returns-clause-given c =
    given_is c.deref.result.now c.self.inside.bytes.items (take c.give-n.result c.give-n.new.buf) c.args.self.now.left c.self.inside.next c.give-n.result
    c.deref.ensures.value (ap (λ (s : Input). s.left) c.self.view_is) c.give-n.ensures.given
