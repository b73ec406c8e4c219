-- What a step on a word asks of its seat, and what its entry is then.
use Rattle.std.specs.Prelude.{◌≡◌, ℕ, ◌<◌, true, length}
use Rattle.sync_words.specs.declared.entries.Entry.{Entry}
use Rattle.sync_words.specs.declared.seat.Seat.{Seat}
use Rattle.sync_words.specs.declared.words.Words.{Words}
use Rattle.sync_words.specs.Entries.{has}
use Rattle.sync_words.specs.Views.{added, Ends, AddsToLog}
use Rattle.sync_words.specs.Rule.{Stands}
use Rattle.sync_words.specs.Names.{view, Belongs}

-- the seat is the table's, the thread number is one of the seat's, and the word is there
pub record MayStep (table : Words) (seat : Seat) (thread word : ℕ) : Type 0 where
  pub own : Belongs table seat
  pub mine : has (view seat).numbers thread ≡ true
  pub there : word < length (view seat).words

-- the seat is the table's and has made one more entry
pub record HasStepped (table : Words) (old new : Seat) (e : Entry) : Type 0 where
  pub own : Belongs table new
  -- the view has it
  pub adds : view new ≡ added (view old) e
  -- as one more of its thread's log
  pub logs : AddsToLog (view old) (view new) e
  -- some legal list has the seat and ends with it
  pub ends : Ends (view new) e
  -- as the list of the whole table did right behind the step
  pub stands : Stands (view new) e
