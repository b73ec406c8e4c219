use Rattle.sync_exchange_values.proofs.Narrowness.{values_narrow}
use Rattle.sync_exchange_values.proofs.changes.copied.Goals as goal

pub returns-in-Ok : goal.returns-in-Ok
returns-in-Ok c = (c.in-Ok.ensures.same, values_narrow c.args.map.now c.copy.ensures.narrow)
