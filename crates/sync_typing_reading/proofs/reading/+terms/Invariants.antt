use Rattle.std.proofs.Common.{suc, ◌*◌}
use Rattle.sync_typing_reading.proofs.reading.+terms.Given as goal

abbrev pub decreases-read_term : goal.decreases-read_term
decreases-read_term l = suc (2 * l.id.0)

abbrev pub decreases-read_child : goal.decreases-read_child
decreases-read_child l = 2 * l.parent.0
