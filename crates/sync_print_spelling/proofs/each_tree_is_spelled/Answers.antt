use Rattle.sync_print_spelling.proofs.Rereads.{each_spelled}
use Rattle.sync_print_spelling.proofs.each_tree_is_spelled.Goals as goal

pub returns : goal.returns
returns c = each_spelled
