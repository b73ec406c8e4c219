-- The step is told the thread's number.
use Rattle.sync_words.proofs.words.Words.sub.Given as goal

abbrev pub ghosts-sub_as : goal.ghosts-sub_as
ghosts-sub_as a = record { number = a.t }
