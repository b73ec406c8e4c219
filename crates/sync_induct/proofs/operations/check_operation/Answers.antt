use Rattle.std.proofs.Common.{Err, rules}
use Rattle.std.specs.HashSet.{contains}
use Rattle.sync_terms.proofs.Extending.{Extends-trans}
use Rattle.sync_terms.specs.Proofs.{proofs_in}
use Rattle.sync_induct.specs.Titles.{same_title}
use Rattle.sync_induct.proofs.Operating.{operation-ids, operation-steps_refused, operation-keepable, operation-wanted, operation-passes, operation-shown}
use Rattle.sync_induct.proofs.Scripts.{scripts-stay, checks-over, none-over}
use Rattle.sync_induct.proofs.operations.check_operation.Goals as goal

pub walk-requires-clause-ids : goal.walk-requires-clause-ids
walk-requires-clause-ids c = operation-ids c.args.terms.now c.begin.new.terms c.args.operation.now c.as_slice.result.now c.in_ok-walk.ensures.keeps c.requires.ids c.as_slice.ensures

pub walk-requires-clause-book : goal.walk-requires-clause-book
walk-requires-clause-book c = record { scripts = scripts-stay c.args.terms.now c.begin.new.terms c.in_ok-walk.ensures.keeps c.args.book.proofs.now c.requires.book.scripts; placed = c.requires.book.placed }

pub keep-requires-clause-book : goal.keep-requires-clause-book
keep-requires-clause-book c = record { scripts = scripts-stay c.args.terms.now c.walk.new.terms (Extends-trans c.in_ok-walk.ensures.keeps c.in_ok-walk-2.ensures.keeps) c.args.book.proofs.now c.requires.book.scripts; placed = c.requires.book.placed }

pub returns-in_err-walk-2-clause-exact : goal.returns-in_err-walk-2-clause-exact
returns-in_err-walk-2-clause-exact c =
    let h = operation-steps_refused c.args.terms.now c.begin.new.terms c.walk.new.terms c.args.fields.now c.args.invariants.now c.args.number c.args.operation.now c.in_ok-walk.walk c.as_slice.result.now
    c.in_ok-walk.ensures.keeps c.requires.ids c.requires.invariants c.as_slice.ensures c.in_ok-walk.ensures.come (Unit {0}) (Unit {0}) c.in_err-walk-2.field-0.0 (proofs_in c.args.terms.now c.args.book.proofs.now) (checks-over c.args.terms.now c.begin.new.terms c.in_ok-walk.ensures.keeps c.args.book.proofs.now c.requires.book.scripts {A = Unit {0}} (Err c.in_err-walk-2.field-0.0) _ c.in_err-walk-2.ensures.exact) in
    search rules

pub keep-requires-clause-invariants : goal.keep-requires-clause-invariants
keep-requires-clause-invariants c =
    operation-keepable c.args.terms.now c.begin.new.terms c.walk.new.terms c.args.fields.now c.args.invariants.now c.args.number c.args.operation.now c.in_ok-walk.walk c.as_slice.result.now
    c.in_ok-walk.ensures.keeps c.requires.ids c.requires.invariants c.as_slice.ensures c.in_ok-walk.ensures.come c.walk.new.self c.in_ok-walk-2.ensures.keeps c.in_ok-walk-2.ensures.come

pub keep-requires-clause-wanted : goal.keep-requires-clause-wanted
keep-requires-clause-wanted c =
    operation-wanted c.args.terms.now c.begin.new.terms c.walk.new.terms c.args.fields.now c.args.invariants.now c.args.number c.args.operation.now c.in_ok-walk.walk c.as_slice.result.now
    c.in_ok-walk.ensures.keeps c.requires.ids c.requires.invariants c.as_slice.ensures c.in_ok-walk.ensures.come c.walk.new.self c.in_ok-walk-2.ensures.keeps c.in_ok-walk-2.ensures.come
    (contains same_title c.args.book.wanted.now) c.requires.wanted

pub returns-clause-exact : goal.returns-clause-exact
returns-clause-exact c =
    operation-passes c.args.terms.now c.begin.new.terms c.walk.new.terms c.args.fields.now c.args.invariants.now c.args.number c.args.operation.now c.in_ok-walk.walk c.as_slice.result.now
    c.in_ok-walk.ensures.keeps c.requires.ids c.requires.invariants c.as_slice.ensures c.in_ok-walk.ensures.come c.walk.new.self c.in_ok-walk-2.ensures.keeps c.in_ok-walk-2.ensures.come
    c.keep.result (proofs_in c.args.terms.now c.args.book.proofs.now) (none-over c.args.terms.now c.begin.new.terms c.in_ok-walk.ensures.keeps c.args.book.proofs.now c.requires.book.scripts _ c.in_ok-walk-2.ensures.exact)
    (checks-over c.args.terms.now c.walk.new.terms (Extends-trans c.in_ok-walk.ensures.keeps c.in_ok-walk-2.ensures.keeps) c.args.book.proofs.now c.requires.book.scripts c.keep.result _ c.keep.ensures.exact)

pub returns-clause-shown : goal.returns-clause-shown
returns-clause-shown c =
    operation-shown c.args.terms.now c.begin.new.terms c.walk.new.terms c.args.fields.now c.args.invariants.now c.args.number c.args.operation.now c.in_ok-walk.walk c.as_slice.result.now
    c.in_ok-walk.ensures.keeps c.requires.ids c.requires.invariants c.as_slice.ensures c.in_ok-walk.ensures.come c.walk.new.self c.in_ok-walk-2.ensures.keeps c.in_ok-walk-2.ensures.come
    c.keep.result c.in_ok-walk-2.ensures.shown c.keep.ensures.shown

pub returns-clause-keeps : goal.returns-clause-keeps
returns-clause-keeps c = Extends-trans c.in_ok-walk.ensures.keeps (Extends-trans c.in_ok-walk-2.ensures.keeps c.keep.ensures.keeps)
