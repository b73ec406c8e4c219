use Rattle.sync_print_programs.proofs.Steps.{row_end, row_more}
use Rattle.sync_print_programs.proofs.lists.in_row.Goals as goal

pub returns : goal.returns
returns g c = row_end _ _ (g.P.Repeated.writes c.args.names.now) _ _ c.loop-x-test.false c.loop-x.invariant

pub loop-x-preserved : goal.loop-x-preserved
loop-x-preserved g c =
    row_more _ _ _ (g.P.Repeated.writes c.args.names.now) _ _ c.x-item.result c.loop-x-test.true c.x-item.is c.in_ok-write.ensures c.loop-x.invariant
