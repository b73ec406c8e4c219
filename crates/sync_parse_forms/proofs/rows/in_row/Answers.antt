use Rattle.std.proofs.Common.{sym, ◌∙◌, arith}
use Rattle.std.proofs.lemmas.Result.{err_from_is_err_and}
use Rattle.sync_parse_exprs.proofs.Rows.{row_goes, row_ends, row_stops}
use Rattle.sync_parse_forms.proofs.rows.in_row.Goals as goal

pub loop-preserved : goal.loop-preserved
loop-preserved g c =
    row_goes g.P.RowItem.begins (g.P.RowItem.reads c.args.left) _ c.loop.counter c.loop.held c.in_ok-item.item c.in_ok-item.after.now _ _ _
    (omega arith) (sym c.begins.ensures ∙ c.if-begins.true) c.in_ok-item.ensures c.in_ok-push.ensures.ok c.loop.invariant

pub returns-in_err-item : goal.returns-in_err-item
returns-in_err-item g c =
    let p = err_from_is_err_and c.from_residual.result c.from_residual.ensures.1 in
    rw (p.1, p.2) (row_stops c.in_err-item.field-0.0 g.P.RowItem.begins (g.P.RowItem.reads c.args.left) _ c.loop.counter c.loop.held c.loop.rest.now _
    (omega arith) (sym c.begins.ensures ∙ c.if-begins.true) c.in_err-item.ensures c.loop.invariant)

pub returns-else-begins : goal.returns-else-begins
returns-else-begins g c =
    row_ends g.P.RowItem.begins (g.P.RowItem.reads c.args.left) _ c.loop.counter c.loop.held c.loop.rest.now _ (sym c.begins.ensures ∙ c.if-begins.false) c.loop.invariant
