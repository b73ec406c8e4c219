use Rattle.sync_print.proofs.Steps.{more, shows}
use Rattle.sync_print.proofs.Blocks.{steps_end, steps_more, shown-Block, shown-Split}
use Rattle.sync_print.proofs.scripts.+blocks.Goals as goal

pub steps-returns : goal.steps-returns
steps-returns t c = steps_end c.args.names.now _ _ _ _ c.loop-x-test.false c.loop-x.invariant

pub steps-loop-x-preserved : goal.steps-loop-x-preserved
steps-loop-x-preserved t c =
    steps_more c.args.names.now _ _ _ _ _ c.x-item.result c.loop-x-test.true c.x-item.is c.in_ok-step.ensures c.loop-x.invariant

pub block-returns : goal.block-returns
block-returns t c =
    shows _ _ _ _ _
    (more _ _ _ _ _ _ (more _ _ _ _ _ _ c.in_ok-sign.ensures c.in_ok-steps.ensures) c.in_ok-sign-2.ensures)
    (shown-Block c.args.raw.now _ c.as_slice.ensures)

pub step-returns-in_ok-block-in-Split-2 : goal.step-returns-in_ok-block-in-Split-2
step-returns-in_ok-block-in-Split-2 t c =
    shows _ _ _ _ _
    (more _ _ _ _ _ _ (more _ _ _ _ _ _ c.in_ok-split_head-in-Split.ensures c.in_ok-block-in-Split.ensures) c.in_ok-block-in-Split-2.ensures)
    (shown-Split c.args.raw.now _ _ _ _ c.in-Split.is)
