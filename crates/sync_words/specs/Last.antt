-- The words of a table that has ended.
use Rattle.std.specs.Prelude.{ℕ, List}
use Rattle.core.specs.Mem.Slots.{slots_items}
use Rattle.sync_words.specs.declared.finished.Finished.{Finished}

abbrev pub last_words : Finished → List ℕ
last_words finished = slots_items finished.closed.words
