use Rattle.sync_thread_meaning.proofs.Traces.{traces_are_of_moments}
use Rattle.sync_thread_meaning.proofs.traces_are_of_moments.Goals as goal

pub returns : goal.returns
returns c = traces_are_of_moments
