use Rattle.sync_thread.specs.Views.{stmt_tree}
use Rattle.sync_erase.specs.Erasing.{atomic_tree}
use Rattle.sync_erase.proofs.Statements.{appends_one, appends_none, appends_two, word_appends, set_same, read_same, write_same, peek_same, print_same, next_same, break_same, end_same, if_same, loop_same, tail_same, left_out, choice_same, one_more, all_done, on_ok}
use Rattle.sync_erase.proofs.erasing.+statements.Goals as goal

pub atomic-returns-in_ok-no-in-When : goal.atomic-returns-in_ok-no-in-When
atomic-returns-in_ok-no-in-When t c = on_ok c.push-in-When.result _ _ (λ is line. appends_two c.args.code.now c.push.new.self c.push-in-When.new.self _ _ (λ s rest. atomic_tree s c.args.step.now line rest)
    (choice_same c.args.step.now c.in-When.when c.in_ok-yes-in-When.yes c.in_ok-no-in-When.no c.in-When.is c.in_ok-yes-in-When.ensures c.in_ok-no-in-When.ensures line) c.in_ok-push.ensures.ok is) c.push-in-When.ensures.ok

pub atomic-returns-in-Plain : goal.atomic-returns-in-Plain
atomic-returns-in-Plain t c = λ line. appends_one c.args.code.now c.push.new.self _ (λ s rest. atomic_tree s c.args.step.now line rest) (tail_same c.args.step.now c.in-Plain.is line) c.in_ok-push.ensures.ok

pub atomic-returns-in-Plain-2 : goal.atomic-returns-in-Plain-2
atomic-returns-in-Plain-2 t c = λ line. appends_one c.args.code.now c.push.new.self _ (λ s rest. atomic_tree s c.args.step.now line rest) (tail_same c.args.step.now c.in-Plain.is line) c.in_ok-push.ensures.ok

pub statement-returns-in-Set : goal.statement-returns-in-Set
statement-returns-in-Set t c = on_ok c.push.result _ _ (appends_one c.args.code.now c.push.new.self _ (λ s rest. stmt_tree s c.args.stmt.now rest) (set_same c.args.stmt.now c.in-Set.local c.in-Set.calc c.in-Set.field-2 c.in-Set.is)) c.push.ensures.ok

pub statement-returns-in-Read : goal.statement-returns-in-Read
statement-returns-in-Read t c = on_ok c.push-in-Read.result _ _ (appends_one c.args.code.now c.push-in-Read.new.self _ (λ s rest. stmt_tree s c.args.stmt.now rest) (read_same c.args.stmt.now c.in-Read.local c.in-Read.cell c.in-Read.index c.in-Read.field-3 c.in-Read.field-4 c.in-Read.is)) c.push-in-Read.ensures.ok

pub statement-returns-in-Write : goal.statement-returns-in-Write
statement-returns-in-Write t c = on_ok c.push-in-Write.result _ _ (appends_one c.args.code.now c.push-in-Write.new.self _ (λ s rest. stmt_tree s c.args.stmt.now rest) (write_same c.args.stmt.now c.in-Write.cell c.in-Write.index c.in-Write.operand c.in-Write.field-3 c.in-Write.field-4 c.in-Write.is)) c.push-in-Write.ensures.ok

pub statement-returns-in-Peek : goal.statement-returns-in-Peek
statement-returns-in-Peek t c = on_ok c.push-in-Peek.result _ _ (appends_one c.args.code.now c.push-in-Peek.new.self _ (λ s rest. stmt_tree s c.args.stmt.now rest) (peek_same c.args.stmt.now c.in-Peek.local c.in-Peek.cell c.in-Peek.index c.in-Peek.field-3 c.in-Peek.is)) c.push-in-Peek.ensures.ok

pub statement-returns-in-Print : goal.statement-returns-in-Print
statement-returns-in-Print t c = on_ok c.push-in-Print.result _ _ (appends_one c.args.code.now c.push-in-Print.new.self _ (λ s rest. stmt_tree s c.args.stmt.now rest) (print_same c.args.stmt.now c.in-Print.label c.in-Print.operand c.in-Print.is)) c.push-in-Print.ensures.ok

pub statement-returns-in-Next : goal.statement-returns-in-Next
statement-returns-in-Next t c = on_ok c.push-in-Next.result _ _ (appends_one c.args.code.now c.push-in-Next.new.self _ (λ s rest. stmt_tree s c.args.stmt.now rest) (next_same c.args.stmt.now _ _ c.in-Next.is)) c.push-in-Next.ensures.ok

pub statement-returns-in-Break : goal.statement-returns-in-Break
statement-returns-in-Break t c = on_ok c.push-in-Break.result _ _ (appends_one c.args.code.now c.push-in-Break.new.self _ (λ s rest. stmt_tree s c.args.stmt.now rest) (break_same c.args.stmt.now _ _ c.in-Break.is)) c.push-in-Break.ensures.ok

pub statement-returns-in-End : goal.statement-returns-in-End
statement-returns-in-End t c = on_ok c.push-in-End.result _ _ (appends_one c.args.code.now c.push-in-End.new.self _ (λ s rest. stmt_tree s c.args.stmt.now rest) (end_same c.args.stmt.now _ _ c.in-End.is)) c.push-in-End.ensures.ok

pub statement-returns-in-Word : goal.statement-returns-in-Word
statement-returns-in-Word t c = on_ok c.atomic.result _ _ (word_appends c.args.code.now c.atomic.new.code c.args.stmt.now c.in-Word.step c.in-Word.is) c.atomic.ensures

pub statement-returns-in_ok-no-in-If : goal.statement-returns-in_ok-no-in-If
statement-returns-in_ok-no-in-If t c = on_ok c.push-in-If.result _ _ (appends_one c.args.code.now c.push-in-If.new.self _ (λ s rest. stmt_tree s c.args.stmt.now rest)
    (if_same c.args.stmt.now c.in-If.cond c.in-If.field-1 c.in-If.yes c.in-If.no c.in-If.field-4 c.in_ok-yes-in-If.yes c.in_ok-no-in-If.no c.in-If.is c.in_ok-yes-in-If.ensures c.in_ok-no-in-If.ensures)) c.push-in-If.ensures.ok

pub statement-returns-in_ok-body-in-Loop : goal.statement-returns-in_ok-body-in-Loop
statement-returns-in_ok-body-in-Loop t c = on_ok c.push-in-Loop.result _ _ (appends_one c.args.code.now c.push-in-Loop.new.self _ (λ s rest. stmt_tree s c.args.stmt.now rest)
    (loop_same c.args.stmt.now c.in-Loop.field-0 c.in-Loop.field-1 c.in-Loop.field-2 c.in-Loop.body c.in-Loop.field-4 c.in_ok-body-in-Loop.body c.in-Loop.is c.in_ok-body-in-Loop.ensures)) c.push-in-Loop.ensures.ok

pub statement-returns-in-Meet : goal.statement-returns-in-Meet
statement-returns-in-Meet t c = appends_none c.args.code.now (λ s rest. stmt_tree s c.args.stmt.now rest) (left_out c.args.stmt.now c.in-Meet.is)

pub statement-returns-in-Meet-2 : goal.statement-returns-in-Meet-2
statement-returns-in-Meet-2 t c = appends_none c.args.code.now (λ s rest. stmt_tree s c.args.stmt.now rest) (left_out c.args.stmt.now c.in-Meet.is)

pub statements-loop-stmt-preserved : goal.statements-loop-stmt-preserved
statements-loop-stmt-preserved t c = one_more c.loop-stmt.code c.statement.new.code c.loop-stmt.stmt-index c.as_slice-stmt-items.result.now c.stmt-item.result
    c.loop-stmt-test.true c.stmt-item.is c.in_ok-statement.ensures c.loop-stmt.invariant

pub statements-returns : goal.statements-returns
statements-returns t c = all_done c.loop-stmt.code c.loop-stmt.stmt-index c.as_slice-stmt-items.result.now c.args.list.now c.loop-stmt-test.false c.as_slice-stmt-items.ensures c.loop-stmt.invariant
