use Rattle.std.proofs.Common.{◌≡◌, ◌+◌, ◌-◌, ◌*◌}
use Rattle.sync_parse_exprs.specs.Terminals.{behind_commas, series}
use Rattle.sync_parse_exprs.specs.Expressions.{chain, operator_at, item_at, level_at, whole, inside}
use Rattle.sync_parse_exprs.proofs.Chains.{rank}
use Rattle.sync_parse_exprs.proofs.expr_reader.+expr.Given as goal

abbrev pub decreases-sign_operand : goal.decreases-sign_operand
decreases-sign_operand l = l.left * 1000 + 2

abbrev pub decreases-expr_inside : goal.decreases-expr_inside
decreases-expr_inside l = l.left * 1000

abbrev pub decreases-expr_series : goal.decreases-expr_series
decreases-expr_series l = l.left * 1000 + 1

abbrev pub decreases-operand : goal.decreases-operand
decreases-operand l = l.left * 1000 + 3

abbrev pub decreases-unary : goal.decreases-unary
decreases-unary l = l.left * 1000 + 4 + l.run

abbrev pub decreases-product : goal.decreases-product
decreases-product l = l.left * 1000 + 100

abbrev pub decreases-relation : goal.decreases-relation
decreases-relation l = l.left * 1000 + 105

abbrev pub decreases-sum : goal.decreases-sum
decreases-sum l = l.left * 1000 + 103

abbrev pub decreases-item : goal.decreases-item
decreases-item l = l.left * 1000 + 101 + 10 * rank l.level

abbrev pub decreases-chained : goal.decreases-chained
decreases-chained l = l.left * 1000 + 102 + 10 * rank l.level

abbrev pub decreases-implies : goal.decreases-implies
decreases-implies l = l.left * 1000 + 130 + l.run

abbrev pub invariant-chained-loop-terminal : goal.invariant-chained-loop-terminal
invariant-chained-loop-terminal l =
    chain (operator_at l.level) (item_at l.level (inside l.left) l.left) l.line l.more l.held l.rest ≡ level_at l.level (inside l.left) l.left l.fn.terminals

abbrev pub decreases-chained-loop-terminal : goal.decreases-chained-loop-terminal
decreases-chained-loop-terminal l = l.more

abbrev pub invariant-expr_series-loop : goal.invariant-expr_series-loop
invariant-expr_series-loop l = behind_commas (whole (inside l.left)) (l.end - l.counter) l.held l.rest ≡ series (whole (inside l.left)) l.fn.terminals
