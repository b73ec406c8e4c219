use Rattle.sync_erase.proofs.Statements.{DoneTo}
use Rattle.sync_erase.proofs.erasing.+statements.Given as goal

abbrev pub invariant-statements-loop-stmt : goal.invariant-statements-loop-stmt
invariant-statements-loop-stmt l = DoneTo l.code l.stmt-index l.stmt-items
