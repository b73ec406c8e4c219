use Rattle.std.proofs.Common.{arith, map}
use Rattle.std.proofs.lemmas.Result.{err_from_is_err_and}
use Rattle.sync_machine.specs.Views.{symbols_of, step_tree}
use Rattle.sync_machine.specs.Naming.{step_fault}
use Rattle.sync_machine.proofs.Checks.{from_start, goes_on_view, stops_view, ends_view}
use Rattle.sync_machine.proofs.naming.check_steps.Goals as goal

pub loop-k-init : goal.loop-k-init
loop-k-init c = from_start (step_fault c.args.m.now.fields (symbols_of c.args.params.now)) (map (step_tree c.args.m.now.terms) c.args.steps.now)

pub returns-in_err-check_step : goal.returns-in_err-check_step
returns-in_err-check_step c =
    let p = err_from_is_err_and c.from_residual.result c.from_residual.ensures.1 in
    rw (p.1, p.2) (stops_view (step_fault c.args.m.now.fields (symbols_of c.args.params.now)) (step_tree c.args.m.now.terms) c.loop-k.k c.args.steps.now _ _ _ c.loop-k-test.true c.loop-k.invariant c.in_err-check_step.ensures)

pub loop-k-preserved : goal.loop-k-preserved
loop-k-preserved c = goes_on_view (step_fault c.args.m.now.fields (symbols_of c.args.params.now)) (step_tree c.args.m.now.terms) c.loop-k.k c.args.steps.now _ _ c.loop-k-test.true c.loop-k.invariant c.in_ok-check_step.ensures

pub returns : goal.returns
returns c = ends_view (step_fault c.args.m.now.fields (symbols_of c.args.params.now)) (step_tree c.args.m.now.terms) c.loop-k.k c.args.steps.now _ (omega arith) c.loop-k.invariant
