-- The cut is told where it falls.
use Rattle.sync_words.proofs.words.Words.split.Given as goal

abbrev pub ghosts-split_as : goal.ghosts-split_as
ghosts-split_as a = record { number = a.at }
