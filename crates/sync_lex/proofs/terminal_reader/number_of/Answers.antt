use Rattle.std.proofs.Common.{arith}
use Rattle.sync_lex.proofs.TerminalNumbers.{goes_on}
use Rattle.sync_lex.proofs.terminal_reader.number_of.Goals as goal

pub loop-digit-preserved : goal.loop-digit-preserved
loop-digit-preserved c =
    goes_on c.args.digits.now c.loop-digit.digit-index c.loop-digit.number c.saturating_add-number.result (omega arith) (omega (arith, c.saturating_sub.ensures, c.from-value.ensures, c.saturating_mul.ensures, c.saturating_add-number.ensures)) c.loop-digit.invariant
