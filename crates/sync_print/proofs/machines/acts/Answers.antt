use Rattle.sync_print.specs.Texts.{plain_act}
use Rattle.sync_print.specs.ShowTexts.{show_act}
use Rattle.sync_print.proofs.Steps.{row_end, row_more}
use Rattle.sync_print.proofs.machines.acts.Goals as goal

pub returns : goal.returns
returns c = row_end c.args.names.now _ _ show_act plain_act _ _ c.loop-x-test.false c.loop-x.invariant

pub loop-x-preserved : goal.loop-x-preserved
loop-x-preserved c =
    row_more c.args.names.now _ _ _ show_act plain_act _ _ c.x-item.result c.loop-x-test.true c.x-item.is c.in_ok-act.ensures c.loop-x.invariant
