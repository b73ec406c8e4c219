use Rattle.sync_read_laws.proofs.ScopesRead.{read_texts_keep_names}
use Rattle.sync_read_laws.proofs.read_texts_keep_names.Goals as goal

pub returns : goal.returns
returns c = read_texts_keep_names
