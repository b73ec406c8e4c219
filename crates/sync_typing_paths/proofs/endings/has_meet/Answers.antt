use Rattle.std.proofs.Common.{refl}
use Rattle.sync_typing.specs.Lists.{has_meet}
use Rattle.sync_typing_paths.proofs.Walks.{passed, found, none_left}
use Rattle.sync_typing_paths.proofs.endings.has_meet.Goals as goal

pub returns-then-is_meet : goal.returns-then-is_meet
returns-then-is_meet c = found has_meet c.loop-stmt.stmt-index c.as_slice-stmt-items.result.now c.stmt-item.result c.is_meet.result c.args.list.now
    c.loop-stmt-test.true c.stmt-item.is c.if-is_meet.true c.as_slice-stmt-items.ensures c.is_meet.ensures c.loop-stmt.invariant

pub loop-stmt-preserved : goal.loop-stmt-preserved
loop-stmt-preserved c = passed has_meet c.loop-stmt.stmt-index c.as_slice-stmt-items.result.now c.stmt-item.result c.is_meet.result
    c.loop-stmt-test.true c.stmt-item.is c.if-is_meet.false c.is_meet.ensures c.loop-stmt.invariant

pub returns : goal.returns
returns c = none_left has_meet c.loop-stmt.stmt-index c.as_slice-stmt-items.result.now c.args.list.now c.loop-stmt-test.false
    c.as_slice-stmt-items.ensures (λ k. refl) c.loop-stmt.invariant
