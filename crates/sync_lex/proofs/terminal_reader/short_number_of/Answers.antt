use Rattle.std.proofs.Common.{◌<◌, ◌≤◌, ◌*◌, ◌^◌, length, get_or, ◌-◌, ◌≡◌, arith}
use Rattle.sync_lex.proofs.Digits.{short_fits, short_more, short_next}
use Rattle.sync_lex.proofs.terminal_reader.short_number_of.Goals as goal

pub overflow_mul-number : goal.overflow_mul-number
overflow_mul-number c =
    let fits : c.loop-digit.number ≤ 290000000000000000 = short_fits c.loop-digit.digit-index c.loop-digit.number (omega arith) c.loop-digit.invariant.short in
    omega (arith, fits)

pub overflow_add-number : goal.overflow_add-number
overflow_add-number c =
    let fits : c.loop-digit.number ≤ 290000000000000000 = short_fits c.loop-digit.digit-index c.loop-digit.number (omega arith) c.loop-digit.invariant.short in
    omega (arith, fits, c.digit_of.ensures.small)

pub loop-digit-preserved : goal.loop-digit-preserved
loop-digit-preserved c =
    let digits = c.args.digits.now in
    let i = c.loop-digit.digit-index in
    record {
      read = rw c.digit_of.ensures.exact (short_next digits i c.loop-digit.number (omega arith) c.loop-digit.invariant.read);
      short = short_more i c.loop-digit.number c.digit_of.result c.digit_of.ensures.small c.loop-digit.invariant.short;
    }
