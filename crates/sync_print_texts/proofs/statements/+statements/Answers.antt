use Rattle.std.proofs.Common.{◌≡◌, ◌++◌, subst}
use Rattle.std.specs.Prelude.{OnOk}
use Rattle.sync_print_programs.specs.Written.{written_statement}
use Rattle.sync_print_programs.proofs.Steps.{row_end, row_more}
use Rattle.sync_print_texts.proofs.Endings.{ending_block, printed_line}
use Rattle.sync_print_texts.proofs.statements.+statements.Goals as goal

pub statement_row-returns : goal.statement_row-returns
statement_row-returns t c = row_end _ _ (written_statement c.args.names.now) _ _ c.loop-one-test.false c.loop-one.invariant

pub statement_row-loop-one-preserved : goal.statement_row-loop-one-preserved
statement_row-loop-one-preserved t c =
    row_more _ _ _ (written_statement c.args.names.now) _ _ c.one-item.result c.loop-one-test.true c.one-item.is c.in_ok-statement.ensures c.loop-one.invariant

pub ending-returns-in-Block : goal.ending-returns-in-Block
ending-returns-in-Block t c =
    subst (λ z. OnOk c.proof_ending.result (c.proof_ending.new.out.items ≡ c.args.out.now.items ++ z))
    (ending_block c.args.names.now c.args.x.now c.in-Block.y c.as_slice.result.now c.in-Block.is c.as_slice.ensures) c.proof_ending.ensures

pub statement_kind-returns-in-Print : goal.statement_kind-returns-in-Print
statement_kind-returns-in-Print t c =
    subst (λ z. OnOk c.print_form.result (c.print_form.new.out.items ≡ c.args.out.now.items ++ z))
    (printed_line c.args.names.now c.args.x.now c.in-Print.local c.in-Print.y c.in-Print.is) c.print_form.ensures
