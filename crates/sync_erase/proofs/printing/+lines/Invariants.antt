use Rattle.sync_erase.proofs.Lines.{WrittenTo}
use Rattle.sync_erase.proofs.printing.+lines.Given as goal

abbrev pub invariant-statements-loop-stmt : goal.invariant-statements-loop-stmt
invariant-statements-loop-stmt l = WrittenTo l.names l.indent l.initial.out.items l.out.items l.stmt-index l.list
