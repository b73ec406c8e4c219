use Rattle.sync_induct.proofs.Listing.{all-listed}
use Rattle.sync_induct.proofs.laws.checked_are_listed.Goals as goal

pub returns : goal.returns
returns c = all-listed
