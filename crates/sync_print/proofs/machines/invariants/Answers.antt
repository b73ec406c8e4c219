use Rattle.sync_print.specs.Texts.{plain_invariant}
use Rattle.sync_print.specs.ShowTexts.{show_invariant}
use Rattle.sync_print.proofs.Steps.{row_end, row_more}
use Rattle.sync_print.proofs.machines.invariants.Goals as goal

pub returns : goal.returns
returns c = row_end c.args.names.now _ _ show_invariant plain_invariant _ _ c.loop-x-test.false c.loop-x.invariant

pub loop-x-preserved : goal.loop-x-preserved
loop-x-preserved c =
    row_more c.args.names.now _ _ _ show_invariant plain_invariant _ _ c.x-item.result c.loop-x-test.true c.x-item.is c.in_ok-invariant.ensures c.loop-x.invariant
