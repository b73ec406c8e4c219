use Rattle.std.proofs.Common.{sym, ◌∙◌, arith}
use Rattle.std.proofs.lemmas.Result.{err_from_is_err_and}
use Rattle.sync_parse_exprs.specs.Terminals.{goes_on}
use Rattle.sync_parse.specs.Machines.{act_at}
use Rattle.sync_parse_exprs.proofs.Rows.{row_goes, row_ends, row_stops}
use Rattle.sync_parse.proofs.act_reader.acts.Goals as goal

pub loop-preserved : goal.loop-preserved
loop-preserved c =
    row_goes goes_on (act_at c.args.left) _ c.loop.counter c.loop.held c.in_ok-item.item c.in_ok-item.after.now _ _ _
    (omega arith) (sym c.goes_on.ensures ∙ c.if-goes_on.true) c.in_ok-item.ensures c.in_ok-push.ensures.ok c.loop.invariant

pub returns-in_err-item : goal.returns-in_err-item
returns-in_err-item c =
    let p = err_from_is_err_and c.from_residual.result c.from_residual.ensures.1 in
    rw (p.1, p.2) (row_stops c.in_err-item.field-0.0 goes_on (act_at c.args.left) _ c.loop.counter c.loop.held c.loop.rest.now _
    (omega arith) (sym c.goes_on.ensures ∙ c.if-goes_on.true) c.in_err-item.ensures c.loop.invariant)

pub returns-else-goes_on : goal.returns-else-goes_on
returns-else-goes_on c =
    row_ends goes_on (act_at c.args.left) _ c.loop.counter c.loop.held c.loop.rest.now _ (sym c.goes_on.ensures ∙ c.if-goes_on.false) c.loop.invariant
