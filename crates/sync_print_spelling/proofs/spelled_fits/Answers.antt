use Rattle.sync_print_spelling.proofs.TextsTold.{spelled_fits}
use Rattle.sync_print_spelling.proofs.spelled_fits.Goals as goal

pub returns : goal.returns
returns c = spelled_fits
