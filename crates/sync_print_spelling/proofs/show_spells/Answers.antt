use Rattle.sync_print_spelling.proofs.Expressions.{exprs}
use Rattle.sync_print_spelling.proofs.Scripts.{blocks}
use Rattle.sync_print_spelling.proofs.Texts.{texts}
use Rattle.sync_print_spelling.proofs.show_spells.Goals as goal

pub returns : goal.returns
returns c = record { exprs = exprs; blocks = blocks; texts = texts }
