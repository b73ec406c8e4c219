use Rattle.sync_lex.proofs.Digits.{is_short}
use Rattle.sync_lex.proofs.pieces.number_piece.Goals as goal

pub returns-then-len-lt-LARGEST_DIGITS : goal.returns-then-len-lt-LARGEST_DIGITS
returns-then-len-lt-LARGEST_DIGITS c = is_short c.args.bytes.now c.digits_len-len.result c.digits_len-len.ensures c.if-len-lt-LARGEST_DIGITS.true
