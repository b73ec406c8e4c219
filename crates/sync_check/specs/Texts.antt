-- What a whole text means, or the first rule of lexemes, grammar or names that it breaks.
use Rattle.std.specs.Prelude.{ℕ, List, length, Option, Some, None, Result, Ok, Err}
use Rattle.sync_base.specs.declared.names.NameList.{NameList}
use Rattle.sync_base.specs.declared.stops.Refusal.{Refusal}
use Rattle.sync_base.specs.declared.stops.Rule.TheVariants.{G9}
use Rattle.sync_base.specs.Outcome.{◌>>=◌}
use Rattle.sync_terms.specs.Proofs.{ProofTree, proofs_in}
use Rattle.sync_machine.specs.Machines.{MachineTree}
use Rattle.sync_machine.specs.Views.{machine_tree}
use Rattle.sync_thread.specs.Programs.{ProgramTree}
use Rattle.sync_thread.specs.Views.{program_tree}
use Rattle.sync_parse_programs.specs.declared.statements.RawProgram.{RawProgram}
use Rattle.sync_parse_texts.specs.declared.text_reader.RawWholeText.{RawWholeText}
use Rattle.sync_parse_texts.specs.Texts.{whole_text}
use Rattle.sync_read.specs.Texts.{resolved}
use Rattle.sync_read_programs.specs.Programs.{resolved_program}
use Rattle.sync_check.specs.declared.reading.Text.{Text}

pub record TextTree : Type 0 where
  pub machine : MachineTree
  pub proofs : List ProofTree
  pub program : ProgramTree
  pub names : NameList

-- a text with its ids read in its machine's store
abbrev pub text_tree : Text → TextTree
text_tree t = record { machine = machine_tree t.machine; proofs = proofs_in t.machine.terms t.proofs.list; program = program_tree t.machine.terms t.program; names = t.names }

-- the answer, where no rule is broken
abbrev pub unless : {A : Type 0} → Option Refusal → A → Result A Refusal
unless None answer = Ok answer
unless (Some refusal) answer = Err refusal

-- first the machine, then its proofs, then the program
abbrev pub resolved_whole : RawWholeText → Result TextTree Refusal
resolved_whole raw = do
  r ← resolved (length raw.names.list) raw.machine raw.proofs
  p ← resolved_program r.machine r.scope (length r.proofs) raw.program
  Ok (record { machine = r.machine; proofs = r.proofs; program = p; names = raw.names })

-- the text in these bytes, or the first rule of lexemes, grammar or names that they break
unfoldable pub text_in : List ℕ → Result TextTree Refusal
text_in bytes = whole_text bytes >>= resolved_whole

-- a program is refused as not built yet, at the line of its first word
abbrev pub unbuilt : Option RawProgram → Option Refusal
unbuilt None = None
unbuilt (Some program) = Some (record { line = program.line; rule = G9 })

abbrev pub built : RawWholeText → Result TextTree Refusal
built raw = resolved_whole raw >>= unless (unbuilt raw.program)

-- the text in these bytes, where it keeps the rules of lexemes, grammar and names and has no program
unfoldable pub built_text_in : List ℕ → Result TextTree Refusal
built_text_in bytes = whole_text bytes >>= built
