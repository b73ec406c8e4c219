-- The commands, the words that ask for them, and what each gives for a text.
use Rattle.std.specs.Prelude.{◌≡◌, ℕ, List, [], ◌∷◌, map, codes, Result, Ok, String}
use Rattle.std.specs.String.{string_bytes}
use Rattle.std.specs.declared.alloc.Global.{Global}
use Rattle.sync_base.specs.declared.stops.Refusal.{Refusal}
use Rattle.sync_base.specs.Outcome.{◌>>=◌}
use Rattle.sync_check.specs.Checking.{verdict_of, IsAccepted}
use Rattle.sync_cli.specs.Lines.{accepted_line}
use Rattle.sync_check.specs.Listing.{listing_of, IsListed}
use Rattle.sync_cli.specs.declared.commands.Command.{Command}
use Rattle.sync_cli.specs.declared.commands.Command.TheVariants.{Check, Obligations}

-- the word that asks for a command
abbrev pub word_of : Command → List ℕ
word_of Check = codes "check"
word_of Obligations = codes "obligations"

-- the words are the one word of this command
abbrev pub Asks : List (String Global) → Command → Type 0
Asks words command = map string_bytes words ≡ word_of command ∷ []

-- the words are no command's
abbrev pub AsksNothing : List (String Global) → Type 0
AsksNothing words = (command : Command) → ¬ Asks words command

-- the one line of a text that is accepted
abbrev pub accepted_lines : ℕ → Result (List (List ℕ)) Refusal
accepted_lines scripts = Ok (accepted_line scripts ∷ [])

-- the lines that a command gives for a text, or the first rule that the text breaks
unfoldable pub answered : Command → List ℕ → Result (List (List ℕ)) Refusal
answered Check text = verdict_of text >>= accepted_lines
answered Obligations text = listing_of text

-- what is known of a text for which a command gives these lines
abbrev pub IsDone : Command → List ℕ → List (List ℕ) → Type 0
IsDone Check text lines =
    (scripts : ℕ) × (verdict_of text ≡ Ok scripts) × IsAccepted text scripts × (lines ≡ accepted_line scripts ∷ [])
IsDone Obligations text lines = IsListed text lines
