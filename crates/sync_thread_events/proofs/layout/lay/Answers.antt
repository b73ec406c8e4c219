use Rattle.std.proofs.Common.{take}
use Rattle.sync_thread_events.proofs.Laying.{laid_more}
use Rattle.sync_thread_events.proofs.layout.lay.Goals as goal

pub loop-decl-preserved : goal.loop-decl-preserved
loop-decl-preserved c = laid_more c.args.decls.now c.loop-decl.decl-index _ c.add.new.laid c.loop-decl-test.true
    (c.in_ok-add.ensures (take c.loop-decl.decl-index c.args.decls.now) c.loop-decl.invariant)
