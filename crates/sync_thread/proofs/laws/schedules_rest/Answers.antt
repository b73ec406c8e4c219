use Rattle.sync_thread.proofs.ControlEvents.{schedule_rests}
use Rattle.sync_thread.proofs.laws.schedules_rest.Goals as goal

pub returns : goal.returns
returns g c = schedule_rests g.T.Ruled.language g.T.Ruled.rules g.T.Ruled.meaning
