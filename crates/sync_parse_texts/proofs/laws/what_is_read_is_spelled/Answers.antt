use Rattle.sync_parse_texts.proofs.ReadPrograms.{read_is_spelled}
use Rattle.sync_parse_texts.proofs.laws.what_is_read_is_spelled.Goals as goal

pub returns : goal.returns
returns c = read_is_spelled
