use Rattle.std.proofs.Common.{sym}
use Rattle.sync_thread_events.specs.Moments.{lists_of}
use Rattle.sync_thread_events.proofs.Waiting.{rests_more, one_still, none_still}
use Rattle.sync_thread_events.proofs.moments.Moment.have_ended.Goals as goal

pub returns-then-standing : goal.returns-then-standing
returns-then-standing c =
    one_still (lists_of c.args.code.now) c.args.self.now.standings.items c.as_slice-standing-items.result.now c.loop-standing.standing-index
    c.standing-item.result c.requires.ready c.as_slice-standing-items.ensures.value c.loop-standing-test.true c.standing-item.is
    c.if-standing.true

pub loop-standing-preserved : goal.loop-standing-preserved
loop-standing-preserved c = rests_more c.as_slice-standing-items.result.now c.loop-standing.standing-index c.standing-item.result
    c.loop-standing-test.true (sym c.standing-item.is) c.if-standing.false c.loop-standing.invariant

pub returns : goal.returns
returns c =
    none_still (lists_of c.args.code.now) c.args.self.now.standings.items c.as_slice-standing-items.result.now c.loop-standing.standing-index
    c.requires.ready c.as_slice-standing-items.ensures.value c.loop-standing-test.false c.loop-standing.invariant
