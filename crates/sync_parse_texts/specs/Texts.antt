-- Reading whole texts: a machine, its proofs, and a program where there is one.
use Rattle.std.specs.Prelude.{ℕ, List, [], ◌∷◌, Result, Ok, Err, Option}
use Rattle.sync_base.specs.Outcome.{◌>>=◌}
use Rattle.sync_base.specs.declared.stops.Refusal.{Refusal}
use Rattle.sync_lex.specs.declared.signs.Sign.TheVariants as sign
use Rattle.sync_lex.specs.declared.terminals.Terminal.{Terminal}
use Rattle.sync_lex.specs.Terminals.{terminals_in}
use Rattle.sync_parse_exprs.specs.declared.faults.Fault.{Fault}
use Rattle.sync_parse_exprs.specs.declared.faults.Fault.TheVariants.{Wanted}
use Rattle.sync_parse_exprs.specs.Terminals.{levels, sign_at}
use Rattle.sync_parse.specs.declared.trees.RawMachine.{RawMachine}
use Rattle.sync_parse.specs.declared.trees.RawProof.{RawProof}
use Rattle.sync_parse.specs.Faults.{refused}
use Rattle.sync_parse.specs.Machines.{version_at, machine_at, proofs_at}
use Rattle.sync_parse_programs.specs.declared.statements.RawProgram.{RawProgram}
use Rattle.sync_parse_programs.specs.Known.{Production, optional}
use Rattle.sync_parse_programs.specs.Programs.{program, read}
use Rattle.sync_parse_texts.specs.declared.text_reader.RawWholeText.{RawWholeText}

-- [program]
unfoldable pub program_part : Production (Option RawProgram)
program_part = optional sign.Program program

-- a machine, proofs, and a program where there is one
abbrev pub Sections : Type 0
Sections = RawMachine × (List RawProof × Option RawProgram)

-- nothing stands behind it
abbrev pub nothing_behind : {A : Type 0} → A → List Terminal → Result A Fault
nothing_behind x [] = Ok x
nothing_behind x (w ∷ ws) = Err (Wanted w.line)

-- text = "version" NUMBER ";" machine [proofs] [program], where all levels are left
unfoldable pub sections_of : List Terminal → Result Sections Fault
sections_of ts = do
  v ← version_at levels ts
  s ← sign_at levels sign.Semicolon v.1
  m ← machine_at levels s.1
  ps ← proofs_at levels m.1
  p ← read program_part levels ps.1
  nothing_behind (m.0, (ps.0, p.0)) p.1

-- the raw tree that a text spells, or the first rule L, else the first rule G, that it breaks
unfoldable pub whole_text : List ℕ → Result RawWholeText Refusal
whole_text text = do
  w ← terminals_in text
  t ← refused w.last_line (sections_of w.list)
  Ok (record { machine = t.0; proofs = t.1.0; program = t.1.1; names = w.names })
