use Rattle.std.proofs.Common.{◌≡◌, List, slice_index_or, sym, ap, ◌∙◌}
use Rattle.std.proofs.lemmas.Result.{err_from_is_err_and}
use Rattle.sync_machine.specs.declared.machine.Operation.{Operation}
use Rattle.sync_machine.specs.Views.{operation_tree}
use Rattle.sync_entries.specs.Narrow.{is_narrow}
use Rattle.sync_join.specs.declared.values.Value.{Value}
use Rattle.sync_exchange.specs.Works.{finished}
use Rattle.sync_exchange.proofs.Finishing.{get-map}
use Rattle.sync_exchange.proofs.Passages.{run-stop, run-done}
use Rattle.sync_exchange.proofs.exchanging.run.Goals as goal

pub returns-in_err-run-clause-exact : goal.returns-in_err-run-clause-exact
returns-in_err-run-clause-exact c = λ o e.
    let m = c.args.m.now in
    let op = c.index-as_slice-op.result in
    let rest = c.args.rest.now in
    let whole = c.args.whole.now in
    let names = c.args.names.now in
    let there : op ≡ slice_index_or m.ops c.args.op op = c.index-as_slice-op.is ∙ ap (λ (xs : List Operation). slice_index_or xs c.args.op op) c.as_slice.ensures in
    let is = get-map (operation_tree m.terms) m.ops c.args.op op o e ∙ ap (operation_tree m.terms) (sym there) in
    let p = err_from_is_err_and c.from_residual-in_err-run.result c.from_residual-in_err-run.ensures.1 in
    rw (is, p.1, p.2) (run-stop is_narrow m op c.args.args.now names.tokens names.given whole c.args.hand.now.held rest
    c.as_slice-fields.result.now c.as_slice-fields.ensures c.as_slice-records.result.now c.as_slice-records.ensures c.as_slice-3.result.now c.as_slice-3.ensures c.as_slice-2.result.now c.as_slice-2.ensures
    c.as_slice-4.result.now c.as_slice-5.result.now c.as_slice-4.ensures c.as_slice-5.ensures c.as_slice-6.result.now c.as_slice-6.ensures c.in_ok-work.work c.in_ok-work.ensures _ c.in_err-run.ensures)

pub returns-clause-exact : goal.returns-clause-exact
returns-clause-exact c = λ o e.
    let m = c.args.m.now in
    let op = c.index-as_slice-op.result in
    let rest = c.args.rest.now in
    let whole = c.args.whole.now in
    let names = c.args.names.now in
    let there : op ≡ slice_index_or m.ops c.args.op op = c.index-as_slice-op.is ∙ ap (λ (xs : List Operation). slice_index_or xs c.args.op op) c.as_slice.ensures in
    let is = get-map (operation_tree m.terms) m.ops c.args.op op o e ∙ ap (operation_tree m.terms) (sym there) in
    let x = c.in_ok-finish.field-0 in
    let left = sym c.in_ok-finish.ensures.exact ∙ ap (λ (rs : List Value). finished rs x) c.as_slice-records.ensures in
    rw is (run-done is_narrow m op c.args.args.now names.tokens names.given whole c.args.hand.now.held rest
    c.as_slice-fields.result.now c.as_slice-fields.ensures c.as_slice-records.result.now c.as_slice-records.ensures c.as_slice-3.result.now c.as_slice-3.ensures c.as_slice-2.result.now c.as_slice-2.ensures
    c.as_slice-4.result.now c.as_slice-5.result.now c.as_slice-4.ensures c.as_slice-5.ensures c.as_slice-6.result.now c.as_slice-6.ensures c.in_ok-work.work c.in_ok-work.ensures _ _ c.in_ok-run.ensures left)
