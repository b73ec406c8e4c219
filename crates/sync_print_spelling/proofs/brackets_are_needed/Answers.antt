use Rattle.sync_print_spelling.proofs.NeededBrackets.{brackets_are_needed}
use Rattle.sync_print_spelling.proofs.brackets_are_needed.Goals as goal

pub returns : goal.returns
returns c = brackets_are_needed
