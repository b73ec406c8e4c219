use Rattle.sync_thread_exchanges.proofs.Seeing.{fits-agree}
use Rattle.sync_thread_exchanges.proofs.fits_agree.Goals as goal

pub returns : goal.returns
returns c = fits-agree
