use Rattle.sync_erase.proofs.Statements.{threads_more}
use Rattle.sync_erase.proofs.erasing.threads.Goals as goal

pub loop-thread-preserved : goal.loop-thread-preserved
loop-thread-preserved c s = threads_more s c.loop-thread.code c.push.new.self c.loop-thread.thread-index c.args.threads.now c.thread-item.result c.in_ok-body.body
    c.loop-thread-test.true c.thread-item.is c.in_ok-push.ensures.ok (c.in_ok-body.ensures s) (c.loop-thread.invariant s)
