-- What is kept beside the facts of a branch.
use Rattle.std.specs.Prelude.{List}
use Rattle.sync_terms.specs.Stored.{Stored}
use Rattle.sync_kernel.specs.declared.notes.Notes.{Notes}
use Rattle.sync_kernel_facts.specs.Facts.{Fact}
use Rattle.sync_kernel.specs.Seen.{IsSeen}
use Rattle.sync_kernel.specs.SumLines.{WereLines}

-- `same` has seen some of these facts, and the lines are those of formulas of the store
pub record AreNotes (s : Stored) (facts : List Fact) (notes : Notes) : Type 0 where
  pub seen : IsSeen s facts notes.seen
  pub lines : WereLines s notes.lines
