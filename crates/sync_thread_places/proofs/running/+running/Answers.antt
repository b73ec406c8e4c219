use Rattle.std.proofs.Common.{rules, ◌+◌}
use Rattle.sync_thread.specs.declared.program.CodeStmt.{the_lemmas}
use Rattle.sync_thread_places.proofs.Passing.{run_more, run_room, run_all, run_ends, keeps_along, met_so, set_passed, then_passed, else_passed, body_passed, step_passed, next_passed, break_passed, end_passed}
use Rattle.sync_thread_places.proofs.Rooms.{set_room, yes_room, no_room, body_room, same_room}
use Rattle.sync_thread_places.proofs.running.+running.Goals as goal

pub advance-returns-in_default : goal.advance-returns-in_default
advance-returns-in_default t c = record {
  runs = run_ends c.args.list.now c.args.from c.loop-at.at c.args.depth c.args.standing.now c.loop-at.standing c.pass.new.standing c.pass.result
      c.in_default.not-Over c.loop-at.invariant c.pass.ensures.runs;
  keeps = keeps_along c.args.list.now c.args.from c.loop-at.at c.args.depth c.args.standing.now c.loop-at.standing c.pass.new.standing c.pass.result
      c.loop-at.invariant c.pass.ensures.keeps;
}

pub advance-loop-at-preserved : goal.advance-loop-at-preserved
advance-loop-at-preserved t c = run_more c.args.list.now c.args.from c.loop-at.at c.args.depth c.args.standing.now c.loop-at.standing c.pass.new.standing
    c.loop-at.invariant c.in-Over.ensures.runs c.in-Over.ensures.keeps

pub advance-returns-clause-runs : goal.advance-returns-clause-runs
advance-returns-clause-runs t c = run_all c.args.list.now c.args.from c.loop-at.at c.args.depth c.args.standing.now c.loop-at.standing c.loop-at-test.false
    c.loop-at.invariant

pub pass-set-requires : goal.pass-set-requires
pass-set-requires t c = set_room c.args.list.now c.args.depth c.args.at c.in-Set.local c.in-Set.calc c.index-list-at.result c.args.standing.now
    c.requires.room c.requires.there c.index-list-at.is c.in-Set.is

pub pass-inside-requires : goal.pass-inside-requires
pass-inside-requires t c = (
  search (rules, the_lemmas),
  same_room c.as_slice-then-is_met.result.now c.in-If.yes (c.args.depth + 1) c.args.standing.now c.as_slice-then-is_met.ensures
      (yes_room c.args.list.now c.args.depth c.args.at c.in-If.condition c.in-If.yes c.in-If.no c.index-list-at.result c.args.standing.now
      c.requires.room c.requires.there c.index-list-at.is c.in-If.is),
)

pub pass-inside-requires-else-is_met : goal.pass-inside-requires-else-is_met
pass-inside-requires-else-is_met t c = (
  search (rules, the_lemmas),
  same_room c.as_slice-else-is_met.result.now c.in-If.no (c.args.depth + 1) c.args.standing.now c.as_slice-else-is_met.ensures
      (no_room c.args.list.now c.args.depth c.args.at c.in-If.condition c.in-If.yes c.in-If.no c.index-list-at.result c.args.standing.now
      c.requires.room c.requires.there c.index-list-at.is c.in-If.is),
)

pub pass-inside-outcome-requires : goal.pass-inside-outcome-requires
pass-inside-outcome-requires t c = (
  search (rules, the_lemmas),
  same_room c.as_slice-in-Loop.result.now c.in-Loop.body (c.args.depth + 1) c.args.standing.now c.as_slice-in-Loop.ensures
      (body_room c.args.list.now c.args.depth c.args.at c.in-Loop.body c.index-list-at.result c.args.standing.now
      c.requires.room c.requires.there c.index-list-at.is c.in-Loop.is),
)

pub pass-returns-in-Set-clause-runs : goal.pass-returns-in-Set-clause-runs
pass-returns-in-Set-clause-runs t c = set_passed c.args.list.now c.args.at c.args.depth c.in-Set.local c.in-Set.calc c.index-list-at.result c.args.standing.now
    c.set.new.standing c.set.result c.requires.there c.index-list-at.is c.in-Set.is
    (set_room c.args.list.now c.args.depth c.args.at c.in-Set.local c.in-Set.calc c.index-list-at.result c.args.standing.now
    c.requires.room c.requires.there c.index-list-at.is c.in-Set.is) c.set.ensures.sets

pub pass-returns-then-is_met-clause-runs : goal.pass-returns-then-is_met-clause-runs
pass-returns-then-is_met-clause-runs t c = then_passed c.args.list.now c.args.at c.args.depth c.index-list-at.result c.in-If.condition c.in-If.yes c.in-If.no
    c.as_slice-then-is_met.result.now c.args.standing.now c.inside.new.standing c.inside.result c.requires.there c.index-list-at.is c.in-If.is
    (met_so c.as_slice.result.now c.args.standing.now.locals.items c.in-If.condition c.is_met.result _ c.as_slice.ensures.value c.is_met.ensures c.if-is_met.true)
    c.as_slice-then-is_met.ensures c.inside.ensures.runs

pub pass-returns-else-is_met-clause-runs : goal.pass-returns-else-is_met-clause-runs
pass-returns-else-is_met-clause-runs t c = else_passed c.args.list.now c.args.at c.args.depth c.index-list-at.result c.in-If.condition c.in-If.yes c.in-If.no
    c.as_slice-else-is_met.result.now c.args.standing.now c.inside-else-is_met.new.standing c.inside-else-is_met.result c.requires.there c.index-list-at.is c.in-If.is
    (met_so c.as_slice.result.now c.args.standing.now.locals.items c.in-If.condition c.is_met.result _ c.as_slice.ensures.value c.is_met.ensures c.if-is_met.false)
    c.as_slice-else-is_met.ensures c.inside-else-is_met.ensures.runs

pub pass-returns-in-Loop-clause-runs : goal.pass-returns-in-Loop-clause-runs
pass-returns-in-Loop-clause-runs t c = body_passed c.args.list.now c.args.at c.args.depth c.index-list-at.result c.in-Loop.body c.as_slice-in-Loop.result.now
    c.args.standing.now c.inside-outcome.new.standing c.inside-outcome.result c.body_left.result c.requires.there c.index-list-at.is c.in-Loop.is
    c.as_slice-in-Loop.ensures c.body_left.ensures c.inside-outcome.ensures.runs

pub pass-returns-in-Next-clause-runs : goal.pass-returns-in-Next-clause-runs
pass-returns-in-Next-clause-runs t c = next_passed c.args.list.now c.args.at c.args.depth c.index-list-at.result c.args.standing.now c.requires.there c.index-list-at.is c.in-Next.is

pub pass-returns-in-Break-clause-runs : goal.pass-returns-in-Break-clause-runs
pass-returns-in-Break-clause-runs t c = break_passed c.args.list.now c.args.at c.args.depth c.index-list-at.result c.args.standing.now c.requires.there c.index-list-at.is c.in-Break.is

pub pass-returns-in-End-clause-runs : goal.pass-returns-in-End-clause-runs
pass-returns-in-End-clause-runs t c = end_passed c.args.list.now c.args.at c.args.depth c.index-list-at.result c.args.standing.now c.requires.there c.index-list-at.is c.in-End.is

pub pass-returns-in-Read-clause-runs : goal.pass-returns-in-Read-clause-runs
pass-returns-in-Read-clause-runs t c = step_passed c.args.list.now c.args.at c.args.depth c.index-list-at.result c.args.standing.now c.wait.new.standing c.wait.result
    c.requires.there c.index-list-at.is c.in-Read.is c.wait.ensures.waits c.wait.ensures.there
