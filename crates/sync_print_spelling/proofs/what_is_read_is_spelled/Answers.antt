use Rattle.std.proofs.Common.{Ok}
use Rattle.sync_parse_grammar.proofs.Laws.{answer_spells}
use Rattle.sync_print_spelling.proofs.what_is_read_is_spelled.Goals as goal

pub returns : goal.returns
returns c = λ text raw is. answer_spells text (Ok raw) is
