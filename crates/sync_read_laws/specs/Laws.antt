-- What is so of every text that is read.
use Rattle.std.specs.Prelude.{◌≡◌, ◌≤◌, ℕ, List, length, None, Option, Ok}
use Rattle.std.specs.List.{AllByRecursion}
use Rattle.sync_machine.specs.Machines.{MachineTree}
use Rattle.sync_machine.specs.States.{strategy_at}
use Rattle.sync_parse.specs.declared.trees.RawMachine.{RawMachine}
use Rattle.sync_parse.specs.declared.trees.RawProof.{RawProof}
use Rattle.sync_parse_programs.specs.declared.statements.RawProgram.{RawProgram}
use Rattle.sync_thread.specs.Arrays.{name_limit}
use Rattle.sync_thread.specs.Programs.{ProgramTree}
use Rattle.sync_read.specs.Acts.{strategy_sort}
use Rattle.sync_read.specs.Texts.{ResolvedTree, resolved}
use Rattle.sync_read_names.specs.declared.scopes.Sort.{Sort}
use Rattle.sync_read_names.specs.declared.scopes.Meaning.TheVariants.{Field}
use Rattle.sync_read_names.specs.declared.scopes.Owners.{Owners}
use Rattle.sync_read_names.specs.declared.scopes.Scope.{Scope}
use Rattle.sync_read_names.specs.Scopes.{meaning_of}
use Rattle.sync_read_programs.specs.Programs.{resolved_program}
use Rattle.sync_typing.specs.Names.{KeepsNames}

-- no word, thread or final block has the name yet
pub record IsFree (o : Owners) : Type 0 where
  pub word : o.word ≡ None
  pub local : o.local ≡ 0
  pub proof : o.proof ≡ 0

-- A scope behind a machine, where a program may begin: it has no more names than a text, its fields have the sorts of
-- their strategies, and no name is a program's yet.
pub record IsBehind (m : MachineTree) (s : Scope) : Type 0 where
  pub meanings : length s.meanings ≤ name_limit
  pub owners : length s.owners ≤ name_limit
  pub sorts : (n f : ℕ) (t : Sort) → meaning_of s n ≡ Field f t → t ≡ strategy_sort (strategy_at m.fields f)
  pub free : AllByRecursion IsFree s.owners

-- A program that is read behind a machine keeps the names with it.
abbrev pub ReadProgramsKeepNames : Type 0
ReadProgramsKeepNames =
    (m : MachineTree) (s : Scope) (scripts : ℕ) (raw : Option RawProgram) (p : ProgramTree) → IsBehind m s
    → resolved_program m s scripts raw ≡ Ok p → KeepsNames m p

-- A text's program keeps the names with its machine, whatever the text.
abbrev pub ReadTextsKeepNames : Type 0
ReadTextsKeepNames =
    (names : ℕ) (machine : RawMachine) (proofs : List RawProof) (scripts : ℕ) (program : Option RawProgram) (r : ResolvedTree)
    (p : ProgramTree) → resolved names machine proofs ≡ Ok r → resolved_program r.machine r.scope scripts program ≡ Ok p
    → KeepsNames r.machine p
