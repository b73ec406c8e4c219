use Rattle.std.proofs.Common.{◌≡◌, pos, ◌+ℤ◌, drop}
use Rattle.sync_join.specs.Join.{tokens_of, sum_of}
use Rattle.sync_join.specs.Widths.{SumsFit}
use Rattle.sync_join.proofs.sums.sum_of.Given as goal

abbrev pub invariant-loop-token : goal.invariant-loop-token
invariant-loop-token l = record {
  sum : l.sum +ℤ sum_of (tokens_of l.field (drop l.token-index l.tokens)) ≡ sum_of (tokens_of l.field l.tokens);
  fits : SumsFit l.sum (tokens_of l.field (drop l.token-index l.tokens)) → SumsFit (pos 0) (tokens_of l.field l.tokens);
  rest : SumsFit (pos 0) (tokens_of l.field l.tokens) → SumsFit l.sum (tokens_of l.field (drop l.token-index l.tokens));
}
