use Rattle.sync_thread.proofs.ControlEvents.{event_rests}
use Rattle.sync_thread.proofs.laws.events_rest.Goals as goal

pub returns : goal.returns
returns g c = event_rests g.T.Ruled.language g.T.Ruled.rules g.T.Ruled.meaning
