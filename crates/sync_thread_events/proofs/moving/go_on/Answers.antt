use Rattle.std.proofs.Common.{true, false, inr}
use Rattle.sync_thread_events.proofs.Movement.{kept_room, moved_so, settled_there}
use Rattle.sync_thread_events.proofs.moving.go_on.Goals as goal

pub keep-requires : goal.keep-requires
keep-requires g c = kept_room c.local_of.result c.in-Some.inner.now c.args.standing.now.at c.index-inner-at.result _
    c.if-at-inner.false c.index-inner-at.is c.in-Some.ensures.room c.local_of.ensures.within

pub returns-then-not-settle-clause-moves : goal.returns-then-not-settle-clause-moves
returns-then-not-settle-clause-moves g c = inr (moved_so g.S.Steps.does c.settle.result false c.args.list.now c.in-Some.inner.now
    c.args.spans.now c.args.standing.now c.keep.new.standing c.resume-outcome.new.standing c.settle.new.standing c.args.shared.now
    c.perform.new.self c.index-inner-at.result c.in-Some-asked.step c.in_ok-found.found c.local_of.result c.resume-outcome.result
    c.as_slice.result.now c.if-not-settle.true c.as_slice.ensures.value c.requires.waits c.in-Some.ensures.leads c.if-at-inner.false
    c.index-inner-at.is c.in-Some-asked.ensures c.in_ok-found.ensures c.local_of.ensures.local c.local_of.ensures.within
    c.in-Some.ensures.room c.keep.ensures.locals c.keep.ensures.hops c.keep.ensures.depth c.resume-outcome.ensures.runs c.settle.ensures)

pub returns-clause-moves : goal.returns-clause-moves
returns-clause-moves g c = moved_so g.S.Steps.does c.settle.result true c.args.list.now c.in-Some.inner.now
    c.args.spans.now c.args.standing.now c.keep.new.standing c.resume-outcome.new.standing c.settle.new.standing c.args.shared.now
    c.perform.new.self c.index-inner-at.result c.in-Some-asked.step c.in_ok-found.found c.local_of.result c.resume-outcome.result
    c.as_slice.result.now c.if-not-settle.false c.as_slice.ensures.value c.requires.waits c.in-Some.ensures.leads c.if-at-inner.false
    c.index-inner-at.is c.in-Some-asked.ensures c.in_ok-found.ensures c.local_of.ensures.local c.local_of.ensures.within
    c.in-Some.ensures.room c.keep.ensures.locals c.keep.ensures.hops c.keep.ensures.depth c.resume-outcome.ensures.runs c.settle.ensures

pub returns-clause-there : goal.returns-clause-there
returns-clause-there g c = settled_there c.resume-outcome.result c.args.list.now c.resume-outcome.new.standing c.settle.new.standing
    c.settle.result c.settle.ensures c.if-not-settle.false
