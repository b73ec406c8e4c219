use Rattle.sync_kernel.proofs.Assuming.{fit_known}
use Rattle.sync_kernel.proofs.hypotheses.Hypotheses.fit.Goals as goal

pub returns : goal.returns
returns c = λ s ready. fit_known s c.args.self.now c.args.more c.fits.result ready c.fits.ensures
