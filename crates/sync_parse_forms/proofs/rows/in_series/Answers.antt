use Rattle.std.proofs.Common.{sym, ◌∙◌, arith}
use Rattle.std.proofs.lemmas.Result.{err_from_is_err_and}
use Rattle.sync_parse_exprs.proofs.Rows.{commas_go}
use Rattle.sync_parse_forms.proofs.Commas.{commas_stop}
use Rattle.sync_parse_forms.proofs.rows.in_series.Goals as goal

pub returns-in_err-item : goal.returns-in_err-item
returns-in_err-item g c =
    let p = err_from_is_err_and c.from_residual-in_err-item.result c.from_residual-in_err-item.ensures.1 in
    rw (p.1, p.2) (commas_stop c.in_err-item.field-0.0 (g.P.ListItem.reads c.args.left) _ c.loop.counter c.loop.held c.in-Some.terminal c.in-Some.after.now c.loop.rest.now _
    (omega arith) c.in-Some.ensures (sym c.is.ensures ∙ c.if-not-is.false) c.in_err-item.ensures c.loop.invariant)

pub loop-preserved : goal.loop-preserved
loop-preserved g c =
    commas_go (g.P.ListItem.reads c.args.left) _ c.loop.counter c.loop.held c.in-Some.terminal c.in-Some.after.now c.in_ok-item.item c.in_ok-item.after.now _ _ _
    (omega arith) c.in-Some.ensures (sym c.is.ensures ∙ c.if-not-is.false) c.in_ok-item.ensures c.in_ok-push-2.ensures.ok c.loop.invariant
