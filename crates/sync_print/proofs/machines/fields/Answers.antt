use Rattle.sync_print.specs.Texts.{plain_field}
use Rattle.sync_print.specs.ShowTexts.{show_field}
use Rattle.sync_print.proofs.Steps.{row_end, row_more_at}
use Rattle.sync_print.proofs.machines.fields.Goals as goal

pub returns : goal.returns
returns c = row_end c.args.names.now _ _ show_field plain_field _ _ c.loop-x-test.false c.loop-x.invariant

pub loop-x-preserved : goal.loop-x-preserved
loop-x-preserved c =
    row_more_at c.args.names.now _ _ _ show_field plain_field _ _ _ c.loop-x-test.true c.in_ok-field.ensures c.loop-x.invariant
