use Rattle.std.proofs.Common.{◌≡◌, ◌+◌, ◌*◌, ◌-◌, true, get_or, sym, ◌∙◌, arith}
use Rattle.std.specs.Char.{is_ascii_digit}
use Rattle.sync_lex.proofs.Numbers.{value_step, counted_step, is_too_large}
use Rattle.sync_lex.proofs.pieces.long_number_piece.Goals as goal

pub returns-then-value-gt-LARGEST : goal.returns-then-value-gt-LARGEST
returns-then-value-gt-LARGEST c =
    let l = c.loop-byte in
    let digit : is_ascii_digit (get_or c.args.bytes.now l.byte-index 0) ≡ true = sym c.is_ascii_digit.ensures.value ∙ c.if-not-is_ascii_digit.false in
    is_too_large c.args.bytes.now l.byte-index l.value (omega arith) digit l.invariant.valued l.invariant.digits (omega (arith, c.from-digit.ensures, c.saturating_mul.ensures, c.saturating_add-value.ensures))

pub loop-byte-preserved : goal.loop-byte-preserved
loop-byte-preserved c =
    let l = c.loop-byte in
    let digit : is_ascii_digit (get_or c.args.bytes.now l.byte-index 0) ≡ true = sym c.is_ascii_digit.ensures.value ∙ c.if-not-is_ascii_digit.false in
    let value : c.saturating_add-value.result ≡ l.value * 10 + (get_or c.args.bytes.now l.byte-index 0 - 48) = omega (arith, c.from-digit.ensures, c.saturating_mul.ensures, c.saturating_add-value.ensures) in
    record {
      counted = omega arith;
      digits = counted_step c.args.bytes.now l.byte-index l.value (omega arith) digit l.invariant.valued l.invariant.digits;
      valued = value ∙ value_step c.args.bytes.now l.byte-index l.value (omega arith) digit l.invariant.valued;
      small = omega arith;
    }
