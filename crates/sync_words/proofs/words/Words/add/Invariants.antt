-- The step is told the thread's number.
use Rattle.sync_words.proofs.words.Words.add.Given as goal

abbrev pub ghosts-add_as : goal.ghosts-add_as
ghosts-add_as a = record { number = a.t }
