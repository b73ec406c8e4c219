use Rattle.std.proofs.Common.{◌≡◌, ℕ, List, [], ◌++◌, ap, ◌∙◌}
use Rattle.sync_thread.specs.declared.program.CodeStmt.{CodeStmt}
use Rattle.sync_thread.specs.Views.{code_list_tree}
use Rattle.sync_erase.specs.ErasedForm.{list_text, deeper}
use Rattle.sync_thread.specs.declared.program.CodeStmt.TheVariants as made
use Rattle.sync_erase.proofs.Lines.{set_says, read_says, write_says, peek_says, word_says, print_says, next_says, break_says, end_says, if_written, loop_written, prints, one_written, all_written}
use Rattle.sync_erase.proofs.Statements.{on_ok}
use Rattle.sync_erase.proofs.printing.+lines.Goals as goal

pub statement-returns-in-Set : goal.statement-returns-in-Set
statement-returns-in-Set t c = on_ok c.set_line.result _ _ (prints c.args.names.now c.args.indent.now c.args.stmt.now (made.Set c.in-Set.local c.in-Set.calc) _ c.args.out.now.items c.set_line.new.out.items c.in-Set.is (set_says c.args.names.now c.args.indent.now c.in-Set.local c.in-Set.calc)) c.set_line.ensures

pub statement-returns-in-Read : goal.statement-returns-in-Read
statement-returns-in-Read t c = on_ok c.read_line.result _ _ (prints c.args.names.now c.args.indent.now c.args.stmt.now (made.Read c.in-Read.local c.in-Read.cell c.in-Read.index) _ c.args.out.now.items c.read_line.new.out.items c.in-Read.is (read_says c.args.names.now c.args.indent.now c.in-Read.local c.in-Read.cell c.in-Read.index)) c.read_line.ensures

pub statement-returns-in-Peek : goal.statement-returns-in-Peek
statement-returns-in-Peek t c = on_ok c.read_line-in-Peek.result _ _ (prints c.args.names.now c.args.indent.now c.args.stmt.now (made.Peek c.in-Peek.local c.in-Peek.cell c.in-Peek.index) _ c.args.out.now.items c.read_line-in-Peek.new.out.items c.in-Peek.is (peek_says c.args.names.now c.args.indent.now c.in-Peek.local c.in-Peek.cell c.in-Peek.index)) c.read_line-in-Peek.ensures

pub statement-returns-in-Write : goal.statement-returns-in-Write
statement-returns-in-Write t c = on_ok c.write_line.result _ _ (prints c.args.names.now c.args.indent.now c.args.stmt.now (made.Write c.in-Write.cell c.in-Write.index c.in-Write.a) _ c.args.out.now.items c.write_line.new.out.items c.in-Write.is (write_says c.args.names.now c.args.indent.now c.in-Write.cell c.in-Write.index c.in-Write.a)) c.write_line.ensures

pub statement-returns-in-Word : goal.statement-returns-in-Word
statement-returns-in-Word t c = on_ok c.word_line.result _ _ (prints c.args.names.now c.args.indent.now c.args.stmt.now (made.Word c.in-Word.local c.in-Word.op c.in-Word.word c.in-Word.index) _ c.args.out.now.items c.word_line.new.out.items c.in-Word.is (word_says c.args.names.now c.args.indent.now c.in-Word.local c.in-Word.op c.in-Word.word c.in-Word.index)) c.word_line.ensures

pub statement-returns-in-Print : goal.statement-returns-in-Print
statement-returns-in-Print t c = on_ok c.print_line.result _ _ (prints c.args.names.now c.args.indent.now c.args.stmt.now (made.Print c.in-Print.label c.in-Print.a) _ c.args.out.now.items c.print_line.new.out.items c.in-Print.is (print_says c.args.names.now c.args.indent.now c.in-Print.label c.in-Print.a)) c.print_line.ensures

pub statement-returns-in-Next : goal.statement-returns-in-Next
statement-returns-in-Next t c = on_ok c.line-in-Next.result _ _ (prints c.args.names.now c.args.indent.now c.args.stmt.now made.Next _ c.args.out.now.items c.line-in-Next.new.out.items c.in-Next.is (next_says c.args.names.now c.args.indent.now)) c.line-in-Next.ensures

pub statement-returns-in-Break : goal.statement-returns-in-Break
statement-returns-in-Break t c = on_ok c.line-in-Break.result _ _ (prints c.args.names.now c.args.indent.now c.args.stmt.now made.Break _ c.args.out.now.items c.line-in-Break.new.out.items c.in-Break.is (break_says c.args.names.now c.args.indent.now)) c.line-in-Break.ensures

pub statement-returns-in-End : goal.statement-returns-in-End
statement-returns-in-End t c = on_ok c.line-in-End.result _ _ (prints c.args.names.now c.args.indent.now c.args.stmt.now made.End _ c.args.out.now.items c.line-in-End.new.out.items c.in-End.is (end_says c.args.names.now c.args.indent.now)) c.line-in-End.ensures

pub statements-loop-stmt-preserved : goal.statements-loop-stmt-preserved
statements-loop-stmt-preserved t c = one_written c.args.names.now c.args.indent.now c.args.out.now.items c.loop-stmt.out.items c.statement.new.out.items c.loop-stmt.stmt-index c.args.list.now c.stmt-item.result
    c.loop-stmt-test.true c.stmt-item.is c.in_ok-statement.ensures c.loop-stmt.invariant

pub statements-returns : goal.statements-returns
statements-returns t c = all_written c.args.names.now c.args.indent.now c.args.out.now.items c.loop-stmt.out.items c.loop-stmt.stmt-index c.args.list.now c.loop-stmt-test.false c.loop-stmt.invariant

pub statement-returns-in_ok-nested-in-If-2 : goal.statement-returns-in_ok-nested-in-If-2
statement-returns-in_ok-nested-in-If-2 t c =
    let written : List CodeStmt → List ℕ = λ list. list_text c.args.names.now (deeper c.args.indent.now) (code_list_tree list) in
    on_ok c.line-in-If.result _ _ (if_written c.args.names.now c.args.indent.now c.in-If.c c.in-If.yes c.in-If.no c.args.out.now.items c.if_line.new.out.items c.nested.new.out.items c.line.new.out.items
    c.nested-in-If.new.out.items c.line-in-If.new.out.items c.args.stmt.now c.in-If.is c.in_ok-if_line-in-If.ensures
    (c.in_ok-nested-in-If.ensures ∙ ap (λ b. c.if_line.new.out.items ++ written b) c.as_slice.ensures) c.in_ok-line-in-If.ensures
    (c.in_ok-nested-in-If-2.ensures ∙ ap (λ b. c.line.new.out.items ++ written b) c.as_slice-in-If.ensures)) c.line-in-If.ensures

pub statement-returns-in_ok-nested-in-Loop : goal.statement-returns-in_ok-nested-in-Loop
statement-returns-in_ok-nested-in-Loop t c =
    let written : List CodeStmt → List ℕ = λ list. list_text c.args.names.now (deeper c.args.indent.now) (code_list_tree list) in
    on_ok c.line-in-Loop-2.result _ _ (loop_written c.args.names.now c.args.indent.now c.in-Loop.body c.args.out.now.items c.line-in-Loop.new.out.items c.nested-in-Loop.new.out.items c.line-in-Loop-2.new.out.items
    c.args.stmt.now c.in-Loop.is c.in_ok-line-in-Loop.ensures
    (c.in_ok-nested-in-Loop.ensures ∙ ap (λ b. c.line-in-Loop.new.out.items ++ written b) c.as_slice-in-Loop.ensures)) c.line-in-Loop-2.ensures
