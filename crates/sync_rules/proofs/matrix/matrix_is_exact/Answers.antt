use Rattle.sync_rules.proofs.Entries.{entry}
use Rattle.sync_rules.proofs.matrix.matrix_is_exact.Goals as goal

pub returns : goal.returns
returns c = entry
