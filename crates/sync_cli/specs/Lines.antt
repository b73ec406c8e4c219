-- The lines that the program prints.
use Rattle.std.specs.Prelude.{ℕ, List, ◌++◌, codes}
use Rattle.std.specs.Fmt.{decimal}
use Rattle.sync_base.specs.declared.stops.Refusal.{Refusal}
use Rattle.sync_base.specs.Rules.{code_of}

-- how many scripts were checked
abbrev pub accepted_line : ℕ → List ℕ
accepted_line scripts = codes "accepted " ++ decimal scripts ++ codes "\n"

-- the line of the text that breaks a rule, and the rule's code
abbrev pub refused_line : Refusal → List ℕ
refused_line refusal =
    codes "refused line " ++ decimal refusal.line ++ codes " rule " ++ code_of refusal.rule ++ codes "\n"

abbrev pub usage_line : List ℕ
usage_line = codes "usage: check or obligations\n"

abbrev pub read_fault_line : List ℕ
read_fault_line = codes "read fault\n"

abbrev pub no_memory_line : List ℕ
no_memory_line = codes "no memory\n"
