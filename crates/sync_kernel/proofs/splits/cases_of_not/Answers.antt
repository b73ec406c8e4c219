use Rattle.std.proofs.Common.{Err, ap}
use Rattle.sync_terms.proofs.Extending.{Extends-refl}
use Rattle.sync_kernel.specs.Taking.{cases_of_not}
use Rattle.sync_terms.specs.Stored.{form_shape}
use Rattle.sync_kernel.proofs.TakenApart.{and_cases, taken_some, taken_none, orders_taken, orders_stop, no_cases_not}
use Rattle.sync_kernel.proofs.splits.cases_of_not.Goals as goal

pub returns-in-And-clause-cases : goal.returns-in-And-clause-cases
returns-in-And-clause-cases c =
    let s = c.args.terms.now in
    taken_some s (record { left = c.denial.result; right = c.denial-in-And.result }) (cases_of_not (form_shape s c.args.node))
    (and_cases s c.args.node c.in-And.a c.in-And.b c.denial.result c.denial-in-And.result c.in-And.is c.denial.ensures.form c.denial-in-And.ensures.form) (c.denial.ensures.stored, c.denial-in-And.ensures.stored)

pub returns-in-Ok-clause-cases : goal.returns-in-Ok-clause-cases
returns-in-Ok-clause-cases c =
    orders_taken c.args.terms.now c.orders.new.terms c.in-Eq.t c.in-Eq.u c.args.node c.in-Eq.is c.in-Ok.pair c.in-Ok.ensures.forms c.in-Ok.ensures.stored

pub returns-in-Err-clause-cases : goal.returns-in-Err-clause-cases
returns-in-Err-clause-cases c =
    orders_stop c.args.terms.now c.orders.new.terms c.in-Eq.t c.in-Eq.u c.args.node c.in-Eq.is c.in-Err.stop (λ e. c.in-Err.ensures.too_large (ap Err e))

pub returns-in-Le : goal.returns-in-Le
returns-in-Le c = record {
  cases = taken_none c.args.terms.now (cases_of_not (form_shape c.args.terms.now c.args.node)) (no_cases_not c.args.terms.now c.args.node c.in-Le.is);
  keeps = Extends-refl c.args.terms.now;
}
