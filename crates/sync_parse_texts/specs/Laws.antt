-- What reading a program says of what it spells.
use Rattle.std.specs.Prelude.{◌≡◌, ℕ, List, [], Ok, Err}
use Rattle.sync_lex.specs.declared.terminals.Terminal.{Terminal}
use Rattle.sync_parse_exprs.specs.declared.faults.Fault.TheVariants as fault
use Rattle.sync_parse_exprs.specs.Terminals.{Read}
use Rattle.sync_parse_programs.specs.declared.statements.RawProgram.{RawProgram}
use Rattle.sync_parse_programs.specs.Programs.{program, read}
use Rattle.sync_parse_texts.specs.SpelledPrograms.{Spells}

-- what is read is spelled by the terminals up to those that are left
abbrev pub ReadIsSpelled : Type 0
ReadIsSpelled = (left : ℕ) (ts rest : List Terminal) (x : RawProgram) → read program left ts ≡ Ok (x, rest) → Spells program ts rest x

-- reading gives this up to the end, or stops for depth
abbrev pub GivesOrDeep : {A : Type 0} → Read A → A → Type 0
GivesOrDeep (Ok v) x = v ≡ (x, [])
GivesOrDeep (Err (fault.Deep line)) x = Unit {0}
GivesOrDeep (Err (fault.Version line)) x = ⊥
GivesOrDeep (Err fault.Ended) x = ⊥
GivesOrDeep (Err (fault.Wanted line)) x = ⊥
GivesOrDeep (Err (fault.Unbuilt line)) x = ⊥

-- what is spelled up to the end of a text is read, or is too deep
abbrev pub SpelledIsRead : Type 0
SpelledIsRead = (left : ℕ) (ts : List Terminal) (x : RawProgram) → Spells program ts [] x → GivesOrDeep (read program left ts) x

-- no terminals up to the end of a text spell two programs
abbrev pub OneProgram : Type 0
OneProgram = (ts : List Terminal) (one other : RawProgram) → Spells program ts [] one → Spells program ts [] other → one ≡ other
