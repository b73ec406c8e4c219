-- What checking a text gives, and what an accepted text means.
use Rattle.std.specs.Prelude.{◌≡◌, ℕ, List, length, Option, None, Result, Ok}
use Rattle.sync_base.specs.declared.stops.Refusal.{Refusal}
use Rattle.sync_base.specs.Outcome.{first, ◌>>=◌}
use Rattle.sync_parse_grammar.specs.Texts.{HasScripts}
use Rattle.sync_parse_texts.specs.declared.text_reader.RawWholeText.{RawWholeText}
use Rattle.sync_parse_texts.specs.Spelled.{Spells}
use Rattle.sync_machine.specs.Machines.{MachineTree}
use Rattle.sync_machine.specs.States.{HoldsAlways}
use Rattle.sync_rules.specs.Faults.{strategy_fault}
use Rattle.sync_induct.specs.Checks.{proof_fault}
use Rattle.sync_check.specs.Texts.{TextTree, unless, resolved_whole, built_text_in}

-- the first rule of strategies or of proofs that a text breaks; a machine that is meant breaks no rule of names
abbrev pub fault_of : TextTree → Option Refusal
fault_of t = first (strategy_fault t.machine) (proof_fault t.machine t.proofs)

-- the number of a text's scripts, or the first rule that it breaks
abbrev pub judged : TextTree → Result ℕ Refusal
judged t = unless (fault_of t) (length t.proofs)

unfoldable pub verdict_of : List ℕ → Result ℕ Refusal
verdict_of bytes = built_text_in bytes >>= judged

-- the machine of a text, or the first rule that the text breaks
unfoldable pub machine_of : List ℕ → Result MachineTree Refusal
machine_of bytes = built_text_in bytes >>= λ t. unless (fault_of t) t.machine

-- The bytes spell a raw tree by the productions of the grammar, the tree has no program and means this machine with these
-- proofs, and the word `by` stands once for each proof.
abbrev pub Means : List ℕ → TextTree → Type 0
Means bytes t = (raw : RawWholeText) × Spells bytes raw × (raw.program ≡ None) × (resolved_whole raw ≡ Ok t) × HasScripts bytes (length t.proofs)

-- the bytes mean this machine with some proofs
abbrev pub IsMeant : List ℕ → MachineTree → Type 0
IsMeant bytes m = (t : TextTree) × Means bytes t × (t.machine ≡ m)

-- The bytes spell a machine, so often `by` stands in them, and the machine holds always: each state that it reaches by
-- declared steps meets all its invariants, and no safety condition and no assertion fails at one.
unfoldable pub IsAccepted : List ℕ → ℕ → Type 0
IsAccepted bytes scripts = (t : TextTree) × Means bytes t × HoldsAlways t.machine × HasScripts bytes scripts
