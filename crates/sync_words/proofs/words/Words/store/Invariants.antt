-- The step is told the thread's number.
use Rattle.sync_words.proofs.words.Words.store.Given as goal

abbrev pub ghosts-store_as : goal.ghosts-store_as
ghosts-store_as a = record { number = a.t }
