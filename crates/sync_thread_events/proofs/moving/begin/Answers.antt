use Rattle.std.proofs.Common.{true, false}
use Rattle.sync_thread_events.proofs.Movement.{begun_so, settled_there}
use Rattle.sync_thread_events.proofs.moving.begin.Goals as goal

pub returns-then-not-settle-clause-begins : goal.returns-then-not-settle-clause-begins
returns-then-not-settle-clause-begins c = begun_so c.args.list.now c.advance-outcome.result c.args.standing.now
    c.advance-outcome.new.standing c.settle.new.standing c.settle.result false c.if-not-settle.true c.advance-outcome.ensures.runs
    c.settle.ensures

pub returns-clause-begins : goal.returns-clause-begins
returns-clause-begins c = begun_so c.args.list.now c.advance-outcome.result c.args.standing.now
    c.advance-outcome.new.standing c.settle.new.standing c.settle.result true c.if-not-settle.false c.advance-outcome.ensures.runs
    c.settle.ensures

pub returns-clause-there : goal.returns-clause-there
returns-clause-there c = settled_there c.advance-outcome.result c.args.list.now c.advance-outcome.new.standing c.settle.new.standing
    c.settle.result c.settle.ensures c.if-not-settle.false
