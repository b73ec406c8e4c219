use Rattle.sync_words.proofs.Agreeing.{logs-agree}
use Rattle.sync_words.proofs.laws.logs_agree.Goals as goal

pub returns : goal.returns
returns c = logs-agree
