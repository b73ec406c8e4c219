use Rattle.std.proofs.Common.{◌≤◌, ◌+◌, length, arith}
use Rattle.sync_thread_events.specs.Moments.{lists_of}
use Rattle.sync_thread_events.proofs.Fresh.{all_taken, fresh_more}
use Rattle.sync_thread_events.proofs.moments.all_fresh.Goals as goal

pub loop-at-preserved : goal.loop-at-preserved
loop-at-preserved c = fresh_more (lists_of c.args.code.now) c.loop-at.standings.items c.push.new.self.items c.loop-at.at c.list_of.result.now
    c.in_ok-standing.standing c.loop-at.invariant c.list_of.ensures c.in_ok-standing.ensures c.in_ok-push.ensures.items

pub returns : goal.returns
returns c =
    let past : length c.args.code.now.threads + 1 ≤ c.loop-at.at = omega (arith, c.loop-at-test.false) in
    all_taken c.args.code.now c.loop-at.standings.items c.loop-at.at past c.loop-at.invariant
