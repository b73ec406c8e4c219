use Rattle.sync_print.specs.Scripts.{plain_part}
use Rattle.sync_print.specs.ShowScripts.{show_part}
use Rattle.sync_print.proofs.Steps.{commas_end, commas_more_at}
use Rattle.sync_print.proofs.scripts.parts.Goals as goal

pub returns : goal.returns
returns c = commas_end c.args.names.now _ _ c.loop-x.behind show_part plain_part _ _ c.loop-x-test.false c.loop-x.invariant

pub loop-x-preserved : goal.loop-x-preserved
loop-x-preserved c =
    commas_more_at c.args.names.now _ _ _ _ c.loop-x.behind show_part plain_part _ _ _ c.loop-x-test.true c.in_ok-needed.ensures c.in_ok-part.ensures c.loop-x.invariant
