-- The words that ask for a command.
use Rattle.std.proofs.Common.{◌≡◌, ◌≢◌, ℕ, ◌<◌, ◌≤◌, List, [], ◌∷◌, length, get_or, Option, Some, None, String, string_bytes, ap, sym, ◌∙◌, arith}
use Rattle.std.specs.Option.{MatchOption}
use Rattle.std.specs.declared.alloc.Global.{Global}
use Rattle.sync_cli.specs.Commands.{word_of, Asks, AsksNothing}
use Rattle.sync_cli.specs.declared.commands.Command.{Command}

-- words that are one word ask for the command of that word
pub Asks-word : (word : String Global) (words : List (String Global)) (text : List ℕ) (named : Option Command) → 1 ≤ length words → length words < 2 → word ≡ get_or words 0 word → text ≡ string_bytes word → MatchOption named ((command : Command) → text ≢ word_of command) (λ command. text ≡ word_of command) → MatchOption named (AsksNothing words) (Asks words)
Asks-word word [] text named low high e t h = absurd (omega arith)
Asks-word word (x ∷ []) text (Some command) low high e t h = ap (λ bytes. bytes ∷ []) (sym (t ∙ ap string_bytes e) ∙ h)
Asks-word word (x ∷ []) text None low high e t h = λ command asks. h command (t ∙ ap string_bytes e ∙ first command asks)
  where
    first : (command : Command) → Asks (x ∷ []) command → string_bytes x ≡ word_of command
    first command asks = cc
Asks-word word (x ∷ y ∷ words) text named low high e t h = absurd (omega arith)
