use Rattle.std.proofs.Common.{◌-◌, sym, ◌∙◌, arith}
use Rattle.std.proofs.lemmas.Result.{err_from_is_err_and}
use Rattle.sync_parse_exprs.specs.Terminals.{goes_on}
use Rattle.sync_parse.specs.Scripts.{step_at, nested}
use Rattle.sync_parse_exprs.proofs.Rows.{row_goes, row_ends, row_stops}
use Rattle.sync_parse.proofs.script_reader.+script.Goals as goal

pub steps-loop-preserved : goal.steps-loop-preserved
steps-loop-preserved t c =
    row_goes goes_on (step_at (nested c.args.left) (c.args.left - 1)) _ c.loop.counter c.loop.held c.in_ok-item.item c.in_ok-item.after.now _ _ _
    (omega arith) (sym c.goes_on.ensures ∙ c.if-goes_on.true) c.in_ok-item.ensures c.in_ok-push.ensures.ok c.loop.invariant

pub steps-returns-in_err-item : goal.steps-returns-in_err-item
steps-returns-in_err-item t c =
    let p = err_from_is_err_and c.from_residual-in_err-item.result c.from_residual-in_err-item.ensures.1 in
    rw (p.1, p.2) (row_stops c.in_err-item.field-0.0 goes_on (step_at (nested c.args.left) (c.args.left - 1)) _ c.loop.counter c.loop.held c.loop.rest.now _
    (omega arith) (sym c.goes_on.ensures ∙ c.if-goes_on.true) c.in_err-item.ensures c.loop.invariant)

pub steps-returns-else-goes_on : goal.steps-returns-else-goes_on
steps-returns-else-goes_on t c =
    row_ends goes_on (step_at (nested c.args.left) (c.args.left - 1)) _ c.loop.counter c.loop.held c.loop.rest.now _ (sym c.goes_on.ensures ∙ c.if-goes_on.false) c.loop.invariant
