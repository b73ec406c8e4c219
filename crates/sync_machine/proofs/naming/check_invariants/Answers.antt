use Rattle.std.proofs.Common.{arith, map}
use Rattle.std.proofs.lemmas.Result.{err_from_is_err_and}
use Rattle.sync_machine.specs.Views.{operation_tree, invariant_tree}
use Rattle.sync_machine.specs.Naming.{invariant_fault}
use Rattle.sync_machine.proofs.Checks.{from_start, goes_on_item, stops_item, ends_view}
use Rattle.sync_machine.proofs.naming.check_invariants.Goals as goal

pub loop-k-init : goal.loop-k-init
loop-k-init c = from_start (invariant_fault c.args.m.now.fields (map (operation_tree c.args.m.now.terms) c.args.m.now.ops)) (map (invariant_tree c.args.m.now.terms) c.args.invariants.now)

pub returns-in_err-check_invariant : goal.returns-in_err-check_invariant
returns-in_err-check_invariant c =
    let p = err_from_is_err_and c.from_residual.result c.from_residual.ensures.1 in
    rw (p.1, p.2) (stops_item (invariant_fault c.args.m.now.fields (map (operation_tree c.args.m.now.terms) c.args.m.now.ops)) (invariant_tree c.args.m.now.terms) c.loop-k.k c.args.invariants.now c.index-invariants-k.result _ _ c.index-invariants-k.is c.loop-k-test.true c.loop-k.invariant c.in_err-check_invariant.ensures)

pub loop-k-preserved : goal.loop-k-preserved
loop-k-preserved c = goes_on_item (invariant_fault c.args.m.now.fields (map (operation_tree c.args.m.now.terms) c.args.m.now.ops)) (invariant_tree c.args.m.now.terms) c.loop-k.k c.args.invariants.now c.index-invariants-k.result _ c.index-invariants-k.is c.loop-k-test.true c.loop-k.invariant c.in_ok-check_invariant.ensures

pub returns : goal.returns
returns c = ends_view (invariant_fault c.args.m.now.fields (map (operation_tree c.args.m.now.terms) c.args.m.now.ops)) (invariant_tree c.args.m.now.terms) c.loop-k.k c.args.invariants.now _ (omega arith) c.loop-k.invariant
