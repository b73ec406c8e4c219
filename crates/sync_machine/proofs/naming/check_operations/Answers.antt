use Rattle.std.proofs.Common.{arith, map}
use Rattle.std.proofs.lemmas.Result.{err_from_is_err_and}
use Rattle.sync_machine.specs.Views.{operation_tree}
use Rattle.sync_machine.specs.Naming.{operation_fault}
use Rattle.sync_machine.proofs.Checks.{from_start, goes_on_item, stops_item, ends_view}
use Rattle.sync_machine.proofs.naming.check_operations.Goals as goal

pub loop-k-init : goal.loop-k-init
loop-k-init c = from_start (operation_fault c.args.m.now.fields) (map (operation_tree c.args.m.now.terms) c.args.ops.now)

pub returns-in_err-check_operation : goal.returns-in_err-check_operation
returns-in_err-check_operation c =
    let p = err_from_is_err_and c.from_residual.result c.from_residual.ensures.1 in
    rw (p.1, p.2) (stops_item (operation_fault c.args.m.now.fields) (operation_tree c.args.m.now.terms) c.loop-k.k c.args.ops.now c.index-ops-k.result _ _ c.index-ops-k.is c.loop-k-test.true c.loop-k.invariant c.in_err-check_operation.ensures)

pub loop-k-preserved : goal.loop-k-preserved
loop-k-preserved c = goes_on_item (operation_fault c.args.m.now.fields) (operation_tree c.args.m.now.terms) c.loop-k.k c.args.ops.now c.index-ops-k.result _ c.index-ops-k.is c.loop-k-test.true c.loop-k.invariant c.in_ok-check_operation.ensures

pub returns : goal.returns
returns c = ends_view (operation_fault c.args.m.now.fields) (operation_tree c.args.m.now.terms) c.loop-k.k c.args.ops.now _ (omega arith) c.loop-k.invariant
