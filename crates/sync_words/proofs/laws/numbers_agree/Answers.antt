use Rattle.sync_words.proofs.Agreeing.{numbers-agree}
use Rattle.sync_words.proofs.laws.numbers_agree.Goals as goal

pub returns : goal.returns
returns c = numbers-agree
