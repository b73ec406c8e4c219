use Rattle.sync_typing_paths.proofs.Walks.{HasNoted}
use Rattle.sync_typing_paths.proofs.locals.+noting.Given as goal

abbrev pub invariant-note_all-loop-stmt : goal.invariant-note_all-loop-stmt
invariant-note_all-loop-stmt l = HasNoted l.fn.locals.keys l.locals.keys l.stmt-index l.stmt-items
