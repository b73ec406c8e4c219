use Rattle.sync_typing_paths.proofs.Walks.{noted_more, noted_all, if_notes, loop_notes, word_notes, when_notes, on_ok}
use Rattle.sync_typing_paths.proofs.locals.+noting.Goals as goal

pub note-returns-in-Word : goal.note-returns-in-Word
note-returns-in-Word t c = on_ok c.note_step.result _ _ (word_notes c.args.stmt.now c.in-Word.step c.args.locals.now.keys c.note_step.new.locals.keys c.in-Word.is) c.note_step.ensures

pub note-returns-in_ok-note_all-in-If : goal.note-returns-in_ok-note_all-in-If
note-returns-in_ok-note_all-in-If t c = on_ok c.note_all-in-If.result _ _ (if_notes c.args.stmt.now c.in-If.field-0 c.in-If.field-1 c.in-If.yes c.in-If.no c.in-If.field-4
    c.args.locals.now.keys c.note_all.new.locals.keys c.note_all-in-If.new.locals.keys c.in-If.is c.in_ok-note_all-in-If.ensures) c.note_all-in-If.ensures

pub note-returns-in-Loop : goal.note-returns-in-Loop
note-returns-in-Loop t c = on_ok c.note_all-in-Loop.result _ _ (loop_notes c.args.stmt.now c.in-Loop.field-0 c.in-Loop.field-1 c.in-Loop.field-2 c.in-Loop.body c.in-Loop.field-4
    c.args.locals.now.keys c.note_all-in-Loop.new.locals.keys c.in-Loop.is) c.note_all-in-Loop.ensures

pub note_all-loop-stmt-preserved : goal.note_all-loop-stmt-preserved
note_all-loop-stmt-preserved t c = noted_more c.args.locals.now.keys c.loop-stmt.locals.keys c.note.new.locals.keys c.loop-stmt.stmt-index c.as_slice-stmt-items.result.now c.stmt-item.result
    c.loop-stmt-test.true c.stmt-item.is c.in_ok-note.ensures c.loop-stmt.invariant

pub note_all-returns : goal.note_all-returns
note_all-returns t c = noted_all c.args.locals.now.keys c.loop-stmt.locals.keys c.loop-stmt.stmt-index c.as_slice-stmt-items.result.now c.args.list.now
    c.loop-stmt-test.false c.as_slice-stmt-items.ensures c.loop-stmt.invariant

pub note_step-returns-in_ok-note_all-in-When : goal.note_step-returns-in_ok-note_all-in-When
note_step-returns-in_ok-note_all-in-When t c = on_ok c.note_all-in-When.result _ _ (when_notes c.args.step.now c.in-When.when
    c.args.locals.now.keys c.note_local.new.locals.keys c.note_all.new.locals.keys c.note_all-in-When.new.locals.keys c.in-When.is c.in_ok-note_local.ensures c.in_ok-note_all-in-When.ensures) c.note_all-in-When.ensures
