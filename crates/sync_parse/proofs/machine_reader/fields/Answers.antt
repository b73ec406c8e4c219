use Rattle.std.proofs.Common.{sym, ◌∙◌, arith}
use Rattle.std.proofs.lemmas.Result.{err_from_is_err_and}
use Rattle.sync_lex.specs.declared.signs.Sign.TheVariants as sign
use Rattle.sync_parse_exprs.specs.Terminals.{begins_with}
use Rattle.sync_parse.specs.Machines.{field_at}
use Rattle.sync_parse_exprs.proofs.Rows.{row_goes, row_ends, row_stops}
use Rattle.sync_parse.proofs.machine_reader.fields.Goals as goal

pub loop-preserved : goal.loop-preserved
loop-preserved c =
    row_goes (begins_with sign.Field) (field_at c.args.left) _ c.loop.counter c.loop.held c.in_ok-item.item c.in_ok-item.after.now _ _ _
    (omega arith) (sym c.begins_with.ensures ∙ c.if-begins_with.true) c.in_ok-item.ensures c.in_ok-push.ensures.ok c.loop.invariant

pub returns-in_err-item : goal.returns-in_err-item
returns-in_err-item c =
    let p = err_from_is_err_and c.from_residual.result c.from_residual.ensures.1 in
    rw (p.1, p.2) (row_stops c.in_err-item.field-0.0 (begins_with sign.Field) (field_at c.args.left) _ c.loop.counter c.loop.held c.loop.rest.now _
    (omega arith) (sym c.begins_with.ensures ∙ c.if-begins_with.true) c.in_err-item.ensures c.loop.invariant)

pub returns-else-begins_with : goal.returns-else-begins_with
returns-else-begins_with c =
    row_ends (begins_with sign.Field) (field_at c.args.left) _ c.loop.counter c.loop.held c.loop.rest.now _ (sym c.begins_with.ensures ∙ c.if-begins_with.false) c.loop.invariant
