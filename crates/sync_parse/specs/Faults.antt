-- The rule that a fault breaks.
use Rattle.std.specs.Prelude.{ℕ, Result, Ok, Err}
use Rattle.sync_base.specs.declared.stops.Refusal.{Refusal}
use Rattle.sync_base.specs.declared.stops.Rule.TheVariants as rule
use Rattle.sync_parse_exprs.specs.declared.faults.Fault.{Fault}
use Rattle.sync_parse_exprs.specs.declared.faults.Fault.TheVariants as fault

-- the rule that a fault breaks, in a text whose last line this is
unfoldable pub refusal_of : ℕ → Fault → Refusal
refusal_of last_line fault.Ended = record { line = last_line; rule = rule.G2 }
refusal_of last_line (fault.Wanted line) = record { line = line; rule = rule.G1 }
refusal_of last_line (fault.Deep line) = record { line = line; rule = rule.G3 }
refusal_of last_line (fault.Version line) = record { line = line; rule = rule.G4 }
refusal_of last_line (fault.Unbuilt line) = record { line = line; rule = rule.G9 }

abbrev pub refused : {A : Type 0} → ℕ → Result A Fault → Result A Refusal
refused last_line (Ok x) = Ok x
refused last_line (Err f) = Err (refusal_of last_line f)
