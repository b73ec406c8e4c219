-- What an answer is before it is written.
use Rattle.std.specs.Prelude.{◌≡◌, ℕ, List, [], Ok, Err}
use Rattle.std.specs.List.{concat}
use Rattle.std.specs.String.{string_bytes}
use Rattle.sync_base.specs.declared.stops.Refusal.{Refusal}
use Rattle.sync_cli.specs.Commands.{answered, IsDone}
use Rattle.sync_cli.specs.Lines.{refused_line, usage_line, read_fault_line, no_memory_line}
use Rattle.sync_cli.specs.declared.answers.Answer.{Answer}
use Rattle.sync_cli.specs.declared.answers.Answer.TheVariants as variant
use Rattle.sync_cli.specs.declared.commands.Command.{Command}
use Rattle.sync_cli.specs.declared.statuses.Status.{Status}
use Rattle.sync_cli.specs.declared.statuses.Status.TheVariants as status

-- the status that stands with an answer
abbrev pub status_of : Answer → Status
status_of (variant.Done lines) = status.Done
status_of (variant.Refused line) = status.Refused
status_of variant.Usage = status.Usage
status_of variant.ReadFault = status.ReadFault
status_of variant.NoMemory = status.NoMemory

-- the lines of an answer for the output
abbrev pub lines_of : Answer → List (List ℕ)
lines_of (variant.Done lines) = lines
lines_of (variant.Refused line) = []
lines_of variant.Usage = []
lines_of variant.ReadFault = []
lines_of variant.NoMemory = []

-- the text of an answer for the output
abbrev pub out_of : Answer → List ℕ
out_of answer = concat (lines_of answer)

-- the text of an answer for what is not output
abbrev pub err_of : Answer → List ℕ
err_of (variant.Done lines) = []
err_of (variant.Refused line) = string_bytes line
err_of variant.Usage = usage_line
err_of variant.ReadFault = read_fault_line
err_of variant.NoMemory = no_memory_line

-- an answer about a text that was read: what the command gives for it, the line of its first broken rule, or want of memory
abbrev pub IsAnswer : Command → List ℕ → Answer → Type 0
IsAnswer command text (variant.Done lines) = (answered command text ≡ Ok lines) × IsDone command text lines
IsAnswer command text (variant.Refused line) =
    (refusal : Refusal) × (answered command text ≡ Err refusal) × (string_bytes line ≡ refused_line refusal)
IsAnswer command text variant.Usage = ⊥
IsAnswer command text variant.ReadFault = ⊥
IsAnswer command text variant.NoMemory = Unit {0}
