use Rattle.sync_print_programs.proofs.Steps.{commas_end, commas_more}
use Rattle.sync_print_programs.proofs.lists.behind_commas.Goals as goal

pub returns : goal.returns
returns g c = commas_end c.args.names.now _ _ (g.P.Repeated.writes c.args.names.now) _ _ c.loop-x-test.false c.loop-x.invariant

pub loop-x-preserved : goal.loop-x-preserved
loop-x-preserved g c =
    commas_more c.args.names.now _ _ _ _ (g.P.Repeated.writes c.args.names.now) _ _ c.x-item.result c.loop-x-test.true c.x-item.is c.in_ok-sign.ensures c.in_ok-write.ensures c.loop-x.invariant
