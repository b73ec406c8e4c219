-- The step is told the thread's number.
use Rattle.sync_words.proofs.words.Words.cas.Given as goal

abbrev pub ghosts-cas_as : goal.ghosts-cas_as
ghosts-cas_as a = record { number = a.t }
