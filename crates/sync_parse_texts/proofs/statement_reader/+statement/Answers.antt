use Rattle.std.proofs.Common.{sym, ◌∙◌, arith}
use Rattle.std.proofs.lemmas.Result.{err_from_is_err_and}
use Rattle.sync_parse_exprs.specs.Terminals.{goes_on}
use Rattle.sync_parse_exprs.proofs.Rows.{row_goes, row_ends, row_stops}
use Rattle.sync_parse_programs.specs.Programs.{statement_at}
use Rattle.sync_parse_texts.proofs.statement_reader.+statement.Goals as goal

pub statement_row-loop-preserved : goal.statement_row-loop-preserved
statement_row-loop-preserved t c =
    row_goes goes_on (statement_at c.args.left) _ c.loop.counter c.loop.held c.in_ok-item.item c.in_ok-item.after.now _ _ _
    (omega arith) (sym c.goes_on.ensures ∙ c.if-goes_on.true) c.in_ok-item.ensures c.in_ok-push.ensures.ok c.loop.invariant

pub statement_row-returns-in_err-item : goal.statement_row-returns-in_err-item
statement_row-returns-in_err-item t c =
    let p = err_from_is_err_and c.from_residual.result c.from_residual.ensures.1 in
    rw (p.1, p.2) (row_stops c.in_err-item.field-0.0 goes_on (statement_at c.args.left) _ c.loop.counter c.loop.held c.loop.rest.now _
    (omega arith) (sym c.goes_on.ensures ∙ c.if-goes_on.true) c.in_err-item.ensures c.loop.invariant)

pub statement_row-returns-else-goes_on : goal.statement_row-returns-else-goes_on
statement_row-returns-else-goes_on t c =
    row_ends goes_on (statement_at c.args.left) _ c.loop.counter c.loop.held c.loop.rest.now _ (sym c.goes_on.ensures ∙ c.if-goes_on.false) c.loop.invariant
