use Rattle.std.proofs.Common.{arith}
use Rattle.std.proofs.lemmas.Result.{err_from_is_err_and}
use Rattle.sync_machine.specs.Naming.{field_fault}
use Rattle.sync_machine.proofs.Checks.{from_start, goes_on, stops, ends}
use Rattle.sync_machine.proofs.naming.check_fields.Goals as goal

pub loop-k-init : goal.loop-k-init
loop-k-init c = from_start (field_fault) (c.args.fields.now)

pub returns-in_err-check_field : goal.returns-in_err-check_field
returns-in_err-check_field c =
    let p = err_from_is_err_and c.from_residual.result c.from_residual.ensures.1 in
    rw (p.1, p.2) (stops (field_fault) c.loop-k.k c.args.fields.now _ _ _ c.loop-k-test.true c.loop-k.invariant c.in_err-check_field.ensures)

pub loop-k-preserved : goal.loop-k-preserved
loop-k-preserved c = goes_on (field_fault) c.loop-k.k c.args.fields.now _ _ c.loop-k-test.true c.loop-k.invariant c.in_ok-check_field.ensures

pub returns : goal.returns
returns c = ends (field_fault) c.loop-k.k c.args.fields.now _ (omega arith) c.loop-k.invariant
