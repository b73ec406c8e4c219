-- What a step of code does to words and cells is what its entry does to the table that they stand in.
use Rattle.std.specs.Prelude.{◌≡◌, ℕ, List, [], ◌∷◌, ◌++◌, length, Ok}
use Rattle.sync_words.specs.declared.entries.Entry.{Entry}
use Rattle.sync_words.specs.Entries.{words_with}
use Rattle.sync_thread.specs.declared.operands.CodeDecl.{CodeDecl}
use Rattle.sync_thread.specs.Arrays.{first_words, first_cells}
use Rattle.sync_thread.specs.Code.{CodeShared, Memory, code_step}
use Rattle.sync_thread.specs.Logs.{entry_of}

-- The table has the words and then the cells of a memory, as many as are declared, and a ticket.
pub record IsTableOf (ds : List CodeDecl) (m : Memory) (table : List ℕ) : Type 0 where
  pub words : length m.words ≡ length (first_words ds)
  pub cells : length m.cells ≡ length (first_cells ds)
  pub ticket : ℕ
  pub laid : table ≡ m.words ++ (m.cells ++ ticket ∷ [])

-- The step leaves what its entry leaves in the table, whatever the entry says that it found.
abbrev pub StepsTell : Type 0
StepsTell = (ds : List CodeDecl) (t : ℕ) (a : CodeShared) (m after : Memory) (found : ℕ) (e : Entry) (table : List ℕ)
    → IsTableOf ds m table → entry_of ds t m a found ≡ Ok e → code_step ds t a m ≡ Ok after
    → IsTableOf ds after (words_with table e)
