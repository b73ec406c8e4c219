-- The word is at its place.
use Rattle.sync_words.proofs.Lists.{word_at}
use Rattle.sync_words.proofs.finished.Finished.word.Goals as goal

pub returns : goal.returns
returns c = word_at _ c.args.w c.word.result c.word.ensures
