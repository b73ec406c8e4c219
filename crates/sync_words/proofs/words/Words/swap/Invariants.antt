-- The step is told the thread's number.
use Rattle.sync_words.proofs.words.Words.swap.Given as goal

abbrev pub ghosts-swap_as : goal.ghosts-swap_as
ghosts-swap_as a = record { number = a.t }
