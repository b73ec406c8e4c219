-- The step is told the thread's number.
use Rattle.sync_words.proofs.words.Words.load.Given as goal

abbrev pub ghosts-load_as : goal.ghosts-load_as
ghosts-load_as a = record { number = a.t }
