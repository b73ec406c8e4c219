use Rattle.std.proofs.Common.{rules, ◌≡◌, true, false, ap, ◌∙◌}
use Rattle.sync_thread.specs.Resting.{either}
use Rattle.sync_typing_paths.specs.Statements.{silent_of}
use Rattle.sync_typing_paths.proofs.Walks.{found_more, found_last, found_all, if_finds, loop_finds}
use Rattle.sync_typing_paths.proofs.silences.+silence.Goals as goal

pub silent_jumps-returns-then-not-passes : goal.silent_jumps-returns-then-not-passes
silent_jumps-returns-then-not-passes t c =
    let stops : c.passes.result ≡ false = search rules in
    found_last (silent_of c.loop-stmt.found) (silent_of c.passes.new.found) c.passes.result c.loop-stmt.stmt-index c.as_slice-stmt-items.result.now c.stmt-item.result c.args.list.now
    c.loop-stmt-test.true c.stmt-item.is stops c.as_slice-stmt-items.ensures c.passes.ensures c.loop-stmt.invariant

pub silent_jumps-loop-stmt-preserved : goal.silent_jumps-loop-stmt-preserved
silent_jumps-loop-stmt-preserved t c =
    let goes : c.passes.result ≡ true = search rules in
    found_more (silent_of c.loop-stmt.found) (silent_of c.passes.new.found) c.passes.result c.loop-stmt.stmt-index c.as_slice-stmt-items.result.now c.stmt-item.result
    c.loop-stmt-test.true c.stmt-item.is goes c.passes.ensures c.loop-stmt.invariant

pub silent_jumps-returns : goal.silent_jumps-returns
silent_jumps-returns t c = found_all (silent_of c.loop-stmt.found) c.loop-stmt.stmt-index c.as_slice-stmt-items.result.now c.args.list.now
    c.loop-stmt-test.false c.as_slice-stmt-items.ensures c.loop-stmt.invariant

pub passes-returns-in-If : goal.passes-returns-in-If
passes-returns-in-If t c = if_finds c.args.stmt.now c.in-If.field-0 c.in-If.field-1 c.in-If.yes c.in-If.no c.in-If.field-4
    (silent_of c.args.found.now) (silent_of c.both.result) (silent_of c.silent_jumps-one.result) (silent_of c.silent_jumps-two.result) (silent_of c.both-inner.result)
    c.in-If.is c.silent_jumps-one.ensures c.silent_jumps-two.ensures c.both-inner.ensures (c.both.ensures ∙ ap (either (silent_of c.args.found.now)) c.outward.ensures)

pub passes-returns-in-Loop : goal.passes-returns-in-Loop
passes-returns-in-Loop t c = loop_finds c.args.stmt.now c.in-Loop.field-0 c.in-Loop.field-1 c.in-Loop.field-2 c.in-Loop.body c.in-Loop.field-4
    (silent_of c.args.found.now) (silent_of c.silent_jumps.result) c.in-Loop.is c.silent_jumps.ensures
