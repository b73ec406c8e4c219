use Rattle.std.proofs.Common.{rules}
use Rattle.sync_print.specs.Exprs.{plain}
use Rattle.sync_print.specs.ShowExprs.{show_expr}
use Rattle.sync_print.proofs.Steps.{more, shows, commas_end, commas_more}
use Rattle.sync_print.proofs.Saying.{shown-Call, shown-Param, shown-Minus, shown-Times, shown-Two, negated-Equal}
use Rattle.sync_print.proofs.exprs.+exprs.Goals as goal

pub expr-returns-in_ok-name-in-Param : goal.expr-returns-in_ok-name-in-Param
expr-returns-in_ok-name-in-Param t c =
    shows _ _ _ _ _
    (more _ _ _ _ _ _ c.in_ok-sign-in-Param.ensures c.in_ok-name-in-Param.ensures)
    (shown-Param c.args.e.now _ _ c.args.wanted c.in-Param.is)

pub expr-returns-in_ok-sign-in-Call-3 : goal.expr-returns-in_ok-sign-in-Call-3
expr-returns-in_ok-sign-in-Call-3 t c =
    shows _ _ _ _ _
    (more _ _ _ _ _ _ (more _ _ _ _ _ _ (more _ _ _ _ _ _ c.in_ok-sign-in-Call.ensures c.in_ok-sign-in-Call-2.ensures) c.in_ok-exprs-in-Call.ensures) c.in_ok-sign-in-Call-3.ensures)
    (shown-Call c.args.e.now _ _ _ _ _ c.args.wanted c.in-Call.is c.function_sign.ensures c.as_slice.ensures)

pub expr-returns-in_ok-needed-in-Minus-2 : goal.expr-returns-in_ok-needed-in-Minus-2
expr-returns-in_ok-needed-in-Minus-2 t c =
    shows _ _ _ _ _
    (more _ _ _ _ _ _ (more _ _ _ _ _ _ (more _ _ _ _ _ _ (more _ _ _ _ _ _ c.in_ok-needed-in-Minus.ensures c.in_ok-number-in-Minus.ensures) c.in_ok-sign-in-Minus.ensures) c.in_ok-expr-in-Minus.ensures) c.in_ok-needed-in-Minus-2.ensures)
    (shown-Minus c.args.e.now _ _ c.args.wanted c.in-Minus.is c.get-in-Minus.ensures)

pub expr-returns-in_ok-needed-in-Times-2 : goal.expr-returns-in_ok-needed-in-Times-2
expr-returns-in_ok-needed-in-Times-2 t c =
    shows _ _ _ _ _
    (more _ _ _ _ _ _ (more _ _ _ _ _ _ (more _ _ _ _ _ _ (more _ _ _ _ _ _ c.in_ok-needed-in-Times.ensures c.in_ok-number-in-Times.ensures) c.in_ok-sign-in-Times.ensures) c.in_ok-expr-in-Times.ensures) c.in_ok-needed-in-Times-2.ensures)
    (shown-Times c.args.e.now _ _ _ _ c.args.wanted c.in-Times.is (search (rules, c.magnitude-in-Times.ensures)) c.get-in-Times.ensures)

pub expr-returns-in_ok-needed-in-Two-2 : goal.expr-returns-in_ok-needed-in-Two-2
expr-returns-in_ok-needed-in-Two-2 t c =
    shows _ _ _ _ _
    (more _ _ _ _ _ _ (more _ _ _ _ _ _ (more _ _ _ _ _ _ (more _ _ _ _ _ _ c.in_ok-needed-in-Two.ensures c.in_ok-expr-in-Two.ensures) c.in_ok-sign-in-Two.ensures) c.in_ok-expr-in-Two-2.ensures) c.in_ok-needed-in-Two-2.ensures)
    (shown-Two c.args.e.now _ _ _ _ _ c.args.wanted _ _ _ _ c.in-Two.is c.shape_of-shape.ensures c.get-in-Two.ensures c.get-in-Two-2.ensures)

pub negated-returns-in_ok-needed-in-Equal-2 : goal.negated-returns-in_ok-needed-in-Equal-2
negated-returns-in_ok-needed-in-Equal-2 t c =
    shows _ _ _ _ _
    (more _ _ _ _ _ _ (more _ _ _ _ _ _ (more _ _ _ _ _ _ (more _ _ _ _ _ _ c.in_ok-needed-in-Equal.ensures c.in_ok-expr-in-Equal.ensures) c.in_ok-sign-in-Equal.ensures) c.in_ok-expr-in-Equal-2.ensures) c.in_ok-needed-in-Equal-2.ensures)
    (negated-Equal c.args.e.now _ _ _ _ _ c.args.wanted c.in-Two.is c.in-Equal.is c.get-in-Equal.ensures c.get-in-Equal-2.ensures)

pub exprs-returns : goal.exprs-returns
exprs-returns t c = commas_end c.args.names.now _ _ c.loop-e.behind show_expr plain _ _ c.loop-e-test.false c.loop-e.invariant

pub exprs-loop-e-preserved : goal.exprs-loop-e-preserved
exprs-loop-e-preserved t c =
    commas_more c.args.names.now _ _ _ _ c.loop-e.behind show_expr plain _ _ c.e-item.result c.loop-e-test.true c.e-item.is c.in_ok-needed.ensures c.in_ok-expr.ensures c.loop-e.invariant
