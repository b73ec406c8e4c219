use Rattle.std.proofs.Common.{◌≡◌, drop}
use Rattle.sync_lex.specs.Terminals.{decimal_after}
use Rattle.sync_lex.proofs.Digits.{IsShort}
use Rattle.sync_lex.proofs.terminal_reader.short_number_of.Given as goal

abbrev pub invariant-loop-digit : goal.invariant-loop-digit
invariant-loop-digit l = record {
  read : decimal_after l.number (drop l.digit-index l.digits) ≡ decimal_after 0 l.digits;
  short : IsShort l.digit-index l.number;
}
