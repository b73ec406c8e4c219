use Rattle.std.proofs.Common.{sym, ◌∙◌, arith}
use Rattle.sync_parse_exprs.specs.Expressions.{whole, inside}
use Rattle.sync_parse_exprs.proofs.Rows.{commas_go}
use Rattle.sync_parse_exprs.proofs.Chains.{level_begins}
use Rattle.sync_parse_exprs.proofs.expr_reader.+expr.Goals as goal

pub chained-loop-terminal-init : goal.chained-loop-terminal-init
chained-loop-terminal-init t c =
    level_begins c.args.level (inside c.args.left) c.args.left c.args.terminals.now c.in_ok-held.rest.now c.in_ok-held.held c.first_line-line.result c.in_ok-held.ensures c.first_line-line.ensures

pub expr_series-loop-preserved : goal.expr_series-loop-preserved
expr_series-loop-preserved t c =
    commas_go (whole (inside c.args.left)) _ c.loop.counter c.loop.held c.in-Some.terminal c.in-Some.after.now c.in_ok-item-in-Some.item c.in_ok-item-in-Some.after.now _ _ _
    (omega arith) c.in-Some.ensures (sym c.is.ensures ∙ c.if-is.true) c.in_ok-item-in-Some.ensures c.in_ok-push-in-Some.ensures.ok c.loop.invariant
