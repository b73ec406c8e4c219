-- What a call may answer for its words and its source.
use Rattle.std.specs.Prelude.{◌≡◌, ◌⊎◌, ℕ, List, [], Option, Result, Ok, Err, String}
use Rattle.std.specs.List.{concat}
use Rattle.std.specs.declared.alloc.Global.{Global}
use Rattle.sync_base.specs.Outside.{Rose}
use Rattle.sync_base.specs.declared.stops.Refusal.{Refusal}
use Rattle.sync_cli.specs.Commands.{Asks, AsksNothing, answered, IsDone}
use Rattle.sync_cli.specs.Lines.{refused_line, usage_line, read_fault_line, no_memory_line}
use Rattle.sync_cli.specs.Streams.{IsTold, IsReadOut, TakesInBounds}
use Rattle.sync_cli.specs.declared.commands.Command.{Command}
use Rattle.sync_cli.specs.declared.statuses.Status.{Status}
use Rattle.sync_cli.specs.declared.statuses.Status.TheVariants.{Done, Refused, Usage, ReadFault, WriteFault, NoMemory, Budget, Width}

-- the source did not fail, and gave this text to its end, or more than a text may have
pub record WasRead (told left : Option (List ℕ)) (faults faults' : ℕ) (text : List ℕ) : Type 0 where
  pub sound : faults' ≡ faults
  pub is_told : IsTold told text
  pub read_out : IsReadOut told left
  pub bounded : TakesInBounds told left

-- The statuses that a call may answer where no write fails, each with its texts for `out` and for `err`. The source
-- told its bytes before the call and what was left of them after it, and counted its faults before and after.
abbrev pub Allowed : List (String Global) → Option (List ℕ) → Option (List ℕ) → ℕ → ℕ → Status → List ℕ → List ℕ → Type 0
-- the command's lines for the text of the source are on `out`
Allowed words told left faults faults' Done out err =
    (command : Command) × (text : List ℕ) × (lines : List (List ℕ)) × Asks words command × WasRead told left faults faults' text
    × (answered command text ≡ Ok lines) × IsDone command text lines × (out ≡ concat lines) × (err ≡ [])
-- the first broken rule of the text of the source is on `err`
Allowed words told left faults faults' Refused out err =
    (command : Command) × (text : List ℕ) × (refusal : Refusal) × Asks words command × WasRead told left faults faults' text
    × (answered command text ≡ Err refusal) × (out ≡ []) × (err ≡ refused_line refusal)
-- the words are no command's
Allowed words told left faults faults' Usage out err = AsksNothing words × (out ≡ []) × (err ≡ usage_line)
-- the source's faults rose
Allowed words told left faults faults' ReadFault out err =
    (command : Command) × Asks words command × Rose faults faults' × (out ≡ []) × (err ≡ read_fault_line)
Allowed words told left faults faults' WriteFault out err = ⊥
-- want of memory is free
Allowed words told left faults faults' NoMemory out err =
    (command : Command) × Asks words command × (out ≡ []) × (err ≡ no_memory_line)
Allowed words told left faults faults' Budget out err = ⊥
Allowed words told left faults faults' Width out err = ⊥

-- where nothing fails, the status tells what a command gives for a text, or want of memory
abbrev pub Tells : Result (List (List ℕ)) Refusal → Status → Type 0
Tells (Ok lines) status = (status ≡ Done) ⊎ (status ≡ NoMemory)
Tells (Err refusal) status = (status ≡ Refused) ⊎ (status ≡ NoMemory)
