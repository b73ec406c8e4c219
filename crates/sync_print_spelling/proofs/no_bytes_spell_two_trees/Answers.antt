use Rattle.sync_parse_grammar.proofs.MachinesClear.{unambiguous}
use Rattle.sync_print_spelling.proofs.no_bytes_spell_two_trees.Goals as goal

pub returns : goal.returns
returns c = unambiguous
