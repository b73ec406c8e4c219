use Rattle.std.proofs.Common.{arith, map}
use Rattle.std.proofs.lemmas.Result.{err_from_is_err_and}
use Rattle.sync_terms.specs.declared.nodes.Sym.{Sym}
use Rattle.sync_machine.specs.Naming.{repeated}
use Rattle.sync_machine.proofs.Checks.{from_start, goes_on_view, stops_view, ends_view}
use Rattle.sync_machine.proofs.naming.check_names.Goals as goal

pub loop-k-init : goal.loop-k-init
loop-k-init c = from_start (repeated c.args.fields.now) (map (λ (x : Sym). x.0) c.args.params.now)

pub returns-in_err-new_parameter : goal.returns-in_err-new_parameter
returns-in_err-new_parameter c =
    let p = err_from_is_err_and c.from_residual.result c.from_residual.ensures.1 in
    rw (p.1, p.2) (stops_view (repeated c.args.fields.now) (λ (x : Sym). x.0) c.loop-k.k c.args.params.now _ _ _ c.loop-k-test.true c.loop-k.invariant c.in_err-new_parameter.ensures)

pub loop-k-preserved : goal.loop-k-preserved
loop-k-preserved c = goes_on_view (repeated c.args.fields.now) (λ (x : Sym). x.0) c.loop-k.k c.args.params.now _ _ c.loop-k-test.true c.loop-k.invariant c.in_ok-new_parameter.ensures

pub returns : goal.returns
returns c = ends_view (repeated c.args.fields.now) (λ (x : Sym). x.0) c.loop-k.k c.args.params.now _ (omega arith) c.loop-k.invariant
