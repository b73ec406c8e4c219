-- The laws of typed lists, whatever environments mean.
use Rattle.std.specs.Prelude.{◌≡◌, ℕ, ℤ, Bool, List, Some}
use Rattle.sync_thread.specs.Programs.{StartTree}
use Rattle.sync_thread.specs.Resting.{AtRest, PassesUnless, Premises, Ready, Rows}
use Rattle.sync_thread_machine.specs.MachineWithProgram.{MachineWithProgram}
use Rattle.sync_thread_meaning.specs.Meaning.{annotated_meaning, annotated_statements}
use Rattle.sync_thread_meaning.specs.Moments.{after_in, first_shares, memory_of, start_shares}
use Rattle.sync_thread_meaning.specs.Shares.{Shares}
use Rattle.sync_typing_laws.specs.Ruling.{Meanings, Parts, StatementRows, rules_of}
use Rattle.sync_typing_laws.specs.Standing.{with_names}

-- Where each single row is sound, a list without fault keeps the rules that carry a program from event to event.
abbrev pub TypedListsGoOn : Meanings → Type 0
TypedListsGoOn m = (fits : ℤ → Bool) (x : MachineWithProgram) (t : ℕ) → Parts x m t → StatementRows fits x m t
    → Rows (rules_of x m) t (annotated_statements fits x t)

-- What the rules on names say of a list they say of its parts.
abbrev pub NamesPassToParts : Meanings → Type 0
NamesPassToParts m = (x : MachineWithProgram) (t : ℕ) → Parts x (with_names x m) t

-- Where the start leaves what the threads begin with, the program rests at each moment of each schedule.
abbrev pub TypedProgramsRest : Meanings → Type 0
TypedProgramsRest m = (fits : ℤ → Bool) (x : MachineWithProgram) → Premises (rules_of x m) (annotated_meaning fits x)
    → (start : StartTree) → x.program.start ≡ Some start
    → PassesUnless m.Spares (start_shares fits x start (memory_of x) (first_shares x (memory_of x)))
    (λ (h : Shares). Ready (rules_of x m) (annotated_meaning fits x) (record { memory = memory_of x; shares = h }))
    → (sigma : List ℕ) → PassesUnless m.Spares (after_in fits x sigma) (AtRest (rules_of x m) (annotated_meaning fits x))
