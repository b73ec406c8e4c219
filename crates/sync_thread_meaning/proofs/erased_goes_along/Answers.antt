use Rattle.sync_thread_meaning.proofs.ErasedMoments.{erased_goes_along}
use Rattle.sync_thread_meaning.proofs.erased_goes_along.Goals as goal

pub returns : goal.returns
returns c = erased_goes_along
