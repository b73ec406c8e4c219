use Rattle.std.proofs.Common.{sym, ◌∙◌, arith}
use Rattle.sync_parse_exprs.specs.Terminals.{name_at}
use Rattle.sync_parse_exprs.proofs.Rows.{commas_go}
use Rattle.sync_parse_exprs.proofs.terminals.name_series.Goals as goal

pub loop-preserved : goal.loop-preserved
loop-preserved c =
    commas_go (name_at c.args.left) _ c.loop.counter c.loop.held c.in-Some.terminal c.in-Some.after.now c.in_ok-item-in-Some.item c.in_ok-item-in-Some.after.now _ _ _
    (omega arith) c.in-Some.ensures (sym c.is.ensures ∙ c.if-is.true) c.in_ok-item-in-Some.ensures c.in_ok-push-in-Some.ensures.ok c.loop.invariant
