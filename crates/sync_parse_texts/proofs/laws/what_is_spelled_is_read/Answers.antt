use Rattle.sync_parse_texts.proofs.ReadPrograms.{spelled_is_read}
use Rattle.sync_parse_texts.proofs.laws.what_is_spelled_is_read.Goals as goal

pub returns : goal.returns
returns c = spelled_is_read
