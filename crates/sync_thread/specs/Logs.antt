-- What a thread leaves on record, where words, cells and the ticket of lines stand in one table of words.
use Rattle.std.specs.Prelude.{◌≡◌, ℕ, ◌+◌, ◌-◌, if◌then◌else◌, nat_eq, nat_lt, List, [], ◌∷◌, ◌++◌, length, slice_get}
use Rattle.std.specs.Prelude.{slice_set}
use Rattle.std.specs.Prelude.{Option, Some, None, Result, Ok, Err}
use Rattle.sync_base.specs.Outcome.{◌>>=◌}
use Rattle.sync_words.specs.declared.entries.Entry.{Entry}
use Rattle.sync_words.specs.declared.entries.Operation.TheVariants.{Load, Store, Add}
use Rattle.sync_words.specs.Entries.{entry, found_by}
use Rattle.sync_thread.specs.declared.operands.CodeDecl.{CodeDecl}
use Rattle.sync_thread.specs.Arrays.{first_words, first_cells}
use Rattle.sync_thread.specs.Control.{Halt, Broken, Signal, At, Nexts, Breaks, Meets, Ends, Over, Fails, Paused, On}
use Rattle.sync_thread.specs.Control.{run}
use Rattle.sync_thread.specs.Control.{Frame, unwind, step}
use Rattle.sync_thread.specs.Code.{CodeThread, CodeTree, CodeList, CodeShared, Read, Write, Peek, Operate, Print}
use Rattle.sync_thread.specs.Code.{code_language, code_statements, Memory, first_memory, logged, operand_value}
use Rattle.sync_thread.specs.Code.{word_number, cell_number}

-- ---- the table

-- the words in the order of declaration, then the cells, then a ticket that counts the lines
abbrev pub layout_of : CodeTree → List ℕ
layout_of x = first_words x.decls ++ (first_cells x.decls ++ 0 ∷ [])

-- where a cell stands in the table, and where the ticket does
abbrev pub cell_place : List CodeDecl → ℕ → ℕ
cell_place ds k = length (first_words ds) + k

abbrev pub ticket_place : List CodeDecl → ℕ
ticket_place ds = length (first_words ds) + length (first_cells ds)

-- a memory in which the place of the table has this value; the ticket is not in the memory
abbrev pub with_place : List CodeDecl → ℕ → ℕ → Memory → Memory
with_place ds i n m = if nat_lt i (length (first_words ds)) then record m { words = slice_set m.words i n }
    else record m { cells = slice_set m.cells (i - length (first_words ds)) n }

-- a memory in which a step finds what its operation says that it found
abbrev pub as_found : List CodeDecl → Entry → Memory → Memory
as_found ds e m = with_found (found_by e.operation) where
  with_found : Option ℕ → Memory
  with_found (Some n) = with_place ds e.word n m
  with_found None = m

-- ---- steps on the table

-- The entry of a shared step of thread t that finds n. A cell is loaded and stored; a line adds 1 to the ticket.
abbrev pub entry_of : List CodeDecl → ℕ → Memory → CodeShared → ℕ → Result Entry Halt
entry_of ds t m (Read x c i) n = cell_number ds t m c i >>= (λ k. Ok (entry t (cell_place ds k) (Load n)))
entry_of ds t m (Peek x c i) n = cell_number ds t m c i >>= (λ k. Ok (entry t (cell_place ds k) (Load n)))
entry_of ds t m (Write c i o) n =
    cell_number ds t m c i >>= (λ k. Ok (entry t (cell_place ds k) (Store (operand_value m t o))))
entry_of ds t m (Operate x op w i) n =
    word_number ds t m w i >>= (λ k. Ok (entry t k (logged (operand_value m t) op n)))
entry_of ds t m (Print l o) n = Ok (entry t (ticket_place ds) (Add 1 n))

-- ---- one thread alone

-- A thread or the final block for itself: what it has computed, and where it waits. In its memory the locals alone
-- count, and the lines that it has printed.
pub record Lane : Type 0 where
  pub memory : Memory
  pub place : Option (Paused code_language)

-- where a list ended up
abbrev pub lane_at : Signal code_language → Result Lane Halt
lane_at (At rest frames m) = Ok (record { memory = m; place = Some (record { rest = rest; frames = frames }) })
lane_at (Ends j m) = Ok (record { memory = m; place = None })
lane_at (Over m) = Ok (record { memory = m; place = None })
lane_at (Nexts j m) = Err Broken
lane_at (Breaks j m) = Err Broken
lane_at (Meets j m) = Err Broken
lane_at (Fails h) = Err h

-- before its first shared step
abbrev pub lane_begun : CodeTree → ℕ → CodeList → Result Lane Halt
lane_begun x t list = lane_at (run (code_statements x.decls t) list (first_memory x.decls (length x.threads)))

-- the list of a thread, and of the final block under the number of threads
abbrev pub list_of : CodeTree → ℕ → Option CodeList
list_of x t =
    if nat_lt t (length x.threads) then body (slice_get x.threads t)
    else if nat_eq t (length x.threads) then x.last
    else None where
      body : Option CodeThread → Option CodeList
      body (Some thread) = Some thread.body
      body None = None

-- The thread waits before a step whose entry this is, where it finds what the entry says; and then it is there.
pub record MakesEntry (ds : List CodeDecl) (t : ℕ) (here : Lane) (e : Entry) (there : Lane) : Type 0 where
  pub found : ℕ
  pub shared : CodeShared
  pub line : ℕ
  pub rest : CodeList
  pub frames : List (Frame code_language)
  pub waits : here.place ≡ Some (record { rest = On shared line rest; frames = frames })
  pub tells : entry_of ds t here.memory shared found ≡ Ok e
  pub goes : lane_at (unwind (code_statements ds t) frames
      (step (code_statements ds t) (On shared line rest) (as_found ds e here.memory))) ≡ Ok there

-- entry by entry
abbrev pub MakeEntries : List CodeDecl → ℕ → Lane → List Entry → Lane → Type 0
MakeEntries ds t here [] there = here ≡ there
MakeEntries ds t here (e ∷ es) there = (next : Lane) × MakesEntry ds t here e next × MakeEntries ds t next es there

-- Given what its steps found, this log is what a thread does, step by step, and leaves it there. Who is not there does
-- nothing.
abbrev pub FollowsFrom : CodeTree → ℕ → Option CodeList → List Entry → Lane → Type 0
FollowsFrom x t (Some list) log there =
    (begun : Lane) × (lane_begun x t list ≡ Ok begun) × MakeEntries x.decls t begun log there
FollowsFrom x t None log there = (log ≡ []) × (there.place ≡ None)

abbrev pub FollowsTo : CodeTree → ℕ → List Entry → Lane → Type 0
FollowsTo x t log there = FollowsFrom x t (list_of x t) log there

abbrev pub FollowsCode : CodeTree → ℕ → List Entry → Type 0
FollowsCode x t log = (there : Lane) × FollowsTo x t log there

-- a part of a log from its beginning is what the thread does too
abbrev pub LogsAreCut : Type 0
LogsAreCut = (x : CodeTree) (t : ℕ) (log later : List Entry) → FollowsCode x t (log ++ later) → FollowsCode x t log
