use Rattle.std.proofs.lemmas.Result.{err_from_is_err_and}
use Rattle.sync_kernel.proofs.TakenApart.{orders_below, orders_above, orders_forms}
use Rattle.sync_kernel.proofs.splits.orders.Goals as goal

pub returns-in_err-below-clause-too_large : goal.returns-in_err-below-clause-too_large
returns-in_err-below-clause-too_large c =
    let q = err_from_is_err_and c.from_residual.result c.from_residual.ensures.1 in
    λ e. orders_below c.args.terms.now c.args.left c.args.right (c.in_err-below.ensures.too_large.0 (cc))

pub returns-in_err-above-clause-too_large : goal.returns-in_err-above-clause-too_large
returns-in_err-above-clause-too_large c =
    let q = err_from_is_err_and c.from_residual-in_err-above.result c.from_residual-in_err-above.ensures.1 in
    λ e. orders_above c.args.terms.now c.add_form.new.self c.args.left c.args.right c.in_ok-below.ensures.keeps c.requires.left c.requires.right (c.in_err-above.ensures.too_large.0 (cc))

pub returns-clause-forms : goal.returns-clause-forms
returns-clause-forms c =
    orders_forms c.args.terms.now c.add_form.new.self c.args.left c.args.right c.in_ok-below.ensures.keeps c.requires.left c.requires.right c.add_form-2.new.self c.in_ok-below.below c.in_ok-above.above c.plain.result c.plain-2.result
    c.in_ok-above.ensures.keeps c.in_ok-below.ensures.id.0 c.in_ok-below.ensures.id.1 c.in_ok-above.ensures.id.1 c.plain.ensures c.plain-2.ensures
