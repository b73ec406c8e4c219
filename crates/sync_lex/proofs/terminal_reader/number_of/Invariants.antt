use Rattle.std.proofs.Common.{◌≡◌, min, drop}
use Rattle.sync_lex.specs.Terminals.{decimal_after}
use Rattle.sync_base.specs.Limits.{largest}
use Rattle.sync_lex.proofs.terminal_reader.number_of.Given as goal

abbrev pub invariant-loop-digit : goal.invariant-loop-digit
invariant-loop-digit l = min largest (decimal_after l.number (drop l.digit-index l.digits)) ≡ min largest (decimal_after 0 l.digits)
