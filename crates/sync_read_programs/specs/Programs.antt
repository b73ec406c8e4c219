-- A program: its plain tree, or the first rule of names that it breaks.
use Rattle.std.specs.Prelude.{ℕ, ◌+◌, true, false, List, [], ◌∷◌, ◌++◌, length, Option, Some, None, Result, Ok}
use Rattle.sync_base.specs.declared.stops.Refusal.{Refusal}
use Rattle.sync_base.specs.Outcome.{◌>>=◌}
use Rattle.sync_machine.specs.Machines.{MachineTree}
use Rattle.sync_parse_exprs.specs.declared.raw_names.RawName.{RawName}
use Rattle.sync_parse_programs.specs.declared.statements.RawList.{RawList}
use Rattle.sync_parse_programs.specs.declared.statements.RawStart.{RawStart}
use Rattle.sync_parse_programs.specs.declared.statements.RawThread.{RawThread}
use Rattle.sync_parse_programs.specs.declared.statements.RawProgram.{RawProgram}
use Rattle.sync_thread.specs.Programs.{ListTree, ThreadTree, StartTree, ProgramTree}
use Rattle.sync_read_names.specs.declared.scopes.Scope.{Scope}
use Rattle.sync_read.specs.Acts.{few_before}
use Rattle.sync_read_programs.specs.declared.scopes.Aims.{Aims}
use Rattle.sync_read_programs.specs.declared.scopes.ProgramScope.{ProgramScope}
use Rattle.sync_read_programs.specs.Scopes.{scope_behind, in_start, in_thread, in_ends, in_last, prove_name, note_thread, first_of_name}
use Rattle.sync_read_programs.specs.Keeps.{keep_in, all_room, declarations_from}
use Rattle.sync_read_programs.specs.ProofStatements.{start_exchange, start_steps_from}
use Rattle.sync_read_programs.specs.Statements.{list_in}

-- the start knows all threads, also those that are declared behind it
unfoldable pub threads_noted : ℕ → ProgramScope → List RawThread → ProgramScope
threads_noted number s [] = s
threads_noted number s (t ∷ ts) = threads_noted (number + 1) (note_thread number (length t.takes.names) s t.name) ts

unfoldable pub start_in : ProgramScope → RawStart → Result (StartTree × ProgramScope) Refusal
start_in s x = do
  d ← start_exchange s x.form
  ss ← start_steps_from [] d.1 x.statements
  Ok (record { form = d.0; steps = ss.0; line = x.line }, ss.1)

-- a list round which there is no loop and no branch
abbrev pub aims_at : Option ℕ → Aims
aims_at end = record { next = None; breaks = None; meet = None; end = end }

-- the names that a thread takes are known in its body, also those that its keep at the end has too
unfoldable pub known_again : ProgramScope → List RawName → Result ProgramScope Refusal
known_again s [] = Ok s
known_again s (n ∷ ns) = do
  s2 ← prove_name s n
  known_again s2 ns

-- the thread with this number
unfoldable pub thread_in : ℕ → ProgramScope → RawThread → Result (ThreadTree × ProgramScope) Refusal
thread_in number s t = do
  n ← few_before 16 number t.line
  m ← first_of_name number s t.name
  takes ← keep_in false (in_thread number s) t.takes
  ends ← keep_in true (in_ends number takes.1) t.ends
  again ← known_again (in_thread number ends.1) t.takes.names
  body ← list_in t.body (aims_at (Some (length t.ends.names))) again
  Ok (record { name = t.name.name; takes = takes.0; ends = ends.0; body = body.0; line = t.line }, body.1)

unfoldable pub threads_from : List ThreadTree → ProgramScope → List RawThread → Result (List ThreadTree × ProgramScope) Refusal
threads_from held s [] = Ok (held, s)
threads_from held s (t ∷ ts) = do
  x ← thread_in (length held) s t
  threads_from (held ++ x.0 ∷ []) x.1 ts

unfoldable pub last_in : ProgramScope → Option RawList → Result (Option ListTree) Refusal
last_in s None = Ok None
last_in s (Some l) = do
  x ← list_in l (aims_at None) (in_last s)
  Ok (Some x.0)

-- declarations, the start, threads and the final block
unfoldable pub program_from : ProgramScope → RawProgram → Result ProgramTree Refusal
program_from s p = do
  ds ← declarations_from [] all_room s p.declarations
  start ← start_in (in_start (threads_noted 0 ds.1 p.threads)) p.start
  ts ← threads_from [] start.1 p.threads
  last ← last_in ts.1 p.last
  Ok (record { decls = ds.0; start = Some start.0; threads = ts.0; last = last })

-- a text without a program has the empty one
abbrev pub no_program : ProgramTree
no_program = record { decls = []; start = None; threads = []; last = None }

-- the program of a text, behind its machine and so many proofs
unfoldable pub resolved_program : MachineTree → Scope → ℕ → Option RawProgram → Result ProgramTree Refusal
resolved_program m s proofs None = Ok no_program
resolved_program m s proofs (Some p) = program_from (scope_behind m s proofs) p
