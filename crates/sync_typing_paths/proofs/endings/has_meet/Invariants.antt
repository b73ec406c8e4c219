use Rattle.sync_typing.specs.Lists.{has_meet}
use Rattle.sync_typing_paths.proofs.Walks.{IsPassed}
use Rattle.sync_typing_paths.proofs.endings.has_meet.Given as goal

abbrev pub invariant-loop-stmt : goal.invariant-loop-stmt
invariant-loop-stmt l = IsPassed has_meet l.stmt-index l.stmt-items
