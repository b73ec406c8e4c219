use Rattle.sync_typing.specs.Lists.{has_break}
use Rattle.sync_typing_paths.proofs.Walks.{IsPassed}
use Rattle.sync_typing_paths.proofs.endings.+breaking.Given as goal

abbrev pub invariant-has_break-loop-stmt : goal.invariant-has_break-loop-stmt
invariant-has_break-loop-stmt l = IsPassed has_break l.stmt-index l.stmt-items
