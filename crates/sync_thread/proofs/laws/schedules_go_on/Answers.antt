use Rattle.sync_thread.proofs.ControlEvents.{schedule_goes_on}
use Rattle.sync_thread.proofs.laws.schedules_go_on.Goals as goal

pub returns : goal.returns
returns g c = schedule_goes_on g.T.Ruled.language g.T.Ruled.rules g.T.Ruled.meaning
