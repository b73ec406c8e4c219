use Rattle.std.proofs.Common.{◌≡◌, ◌+◌, ◌-◌, ◌≤◌, [], length, drop}
use Rattle.sync_lex.proofs.Held.{held_from}
use Rattle.sync_lex.proofs.lexer.lex.Given as goal

abbrev pub invariant-loop-at : goal.invariant-loop-at
invariant-loop-at l = record {
  so_far : held_from l.list l.at l.line 0 (drop l.at l.text) ≡ held_from [] 0 1 0 l.text;
  lines : l.line ≤ l.at + 1;
  within : l.at ≤ length l.text;
}

abbrev pub decreases-loop-at : goal.decreases-loop-at
decreases-loop-at l = length l.text - l.at
