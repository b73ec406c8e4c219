use Rattle.std.proofs.Common.{take}
use Rattle.sync_thread_events.specs.Layout.{IsLaid}
use Rattle.sync_thread_events.proofs.layout.lay.Given as goal

abbrev pub invariant-loop-decl : goal.invariant-loop-decl
invariant-loop-decl l = IsLaid (take l.decl-index l.decls) l.laid
