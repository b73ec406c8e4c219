use Rattle.std.proofs.Common.{◌≡◌, ◌+◌, ◌≤◌, take, drop}
use Rattle.std.specs.Char.{is_ascii_digit}
use Rattle.std.specs.List.{prefix_len}
use Rattle.sync_base.specs.Limits.{largest}
use Rattle.sync_lex.specs.Bytes.{number_value}
use Rattle.sync_lex.proofs.pieces.long_number_piece.Given as goal

abbrev pub invariant-loop-byte : goal.invariant-loop-byte
invariant-loop-byte l = record {
  counted : l.len ≡ l.byte-index;
  digits : l.byte-index + prefix_len is_ascii_digit (drop l.byte-index l.bytes) ≡ prefix_len is_ascii_digit l.bytes;
  valued : l.value ≡ number_value (take l.byte-index l.bytes);
  small : l.value ≤ largest;
}
