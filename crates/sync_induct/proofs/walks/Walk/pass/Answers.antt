use Rattle.std.proofs.Common.{Err, rules}
use Rattle.sync_terms.proofs.Extending.{Extends-trans}
use Rattle.sync_terms.specs.Proofs.{proofs_in}
use Rattle.sync_induct.proofs.Lasting.{walk-stays}
use Rattle.sync_induct.proofs.Scripts.{scripts-stay, checks-over, none-over}
use Rattle.sync_induct.proofs.Stating.{safety-refused, known-refused, statement-passes, statement-shown, statement-comes}
use Rattle.sync_induct.proofs.walks.Walk.pass.Goals as goal

pub check-requires-clause-walk : goal.check-requires-clause-walk
check-requires-clause-walk c = walk-stays c.args.terms.now c.meet.new.terms c.in_ok-statement.ensures.keeps c.args.self.now c.requires.walk

pub check-requires-clause-book : goal.check-requires-clause-book
check-requires-clause-book c = record { scripts = scripts-stay c.args.terms.now c.meet.new.terms c.in_ok-statement.ensures.keeps c.args.book.proofs.now c.requires.book.scripts; placed = c.requires.book.placed }

pub returns-in_err-check-clause-exact : goal.returns-in_err-check-clause-exact
returns-in_err-check-clause-exact c =
    let h = safety-refused c.args.terms.now c.meet.new.terms c.in_ok-statement.ensures.keeps c.args.self.now c.requires.walk c.args.fields.now c.args.op c.args.number c.args.step c.in_ok-statement.statement c.in_ok-statement.ensures.is
    (proofs_in c.args.terms.now c.args.book.proofs.now) (Unit {0}) (Unit {0}) c.in_err-check.field-0.0
    (checks-over c.args.terms.now c.meet.new.terms c.in_ok-statement.ensures.keeps c.args.book.proofs.now c.requires.book.scripts {A = Unit {0}} (Err c.in_err-check.field-0.0) _ c.in_err-check.ensures.exact) in
    search rules

pub returns-in_err-check-clause-keeps : goal.returns-in_err-check-clause-keeps
returns-in_err-check-clause-keeps c = Extends-trans c.in_ok-statement.ensures.keeps c.in_err-check.ensures.keeps

pub learn-requires-clause-walk : goal.learn-requires-clause-walk
learn-requires-clause-walk c = c.in_ok-check.ensures.come.walk

pub returns-in_err-learn-clause-exact : goal.returns-in_err-learn-clause-exact
returns-in_err-learn-clause-exact c =
    let e = c.in_ok-check.ensures in
    let h = known-refused c.args.terms.now c.meet.new.terms c.in_ok-statement.ensures.keeps c.args.self.now c.requires.walk c.args.fields.now c.args.op c.args.number c.args.step c.in_ok-statement.statement c.in_ok-statement.ensures.is
    (proofs_in c.args.terms.now c.args.book.proofs.now) (none-over c.args.terms.now c.meet.new.terms c.in_ok-statement.ensures.keeps c.args.book.proofs.now c.requires.book.scripts _ e.exact) e.shown c.check.new.terms e.keeps (Unit {0}) (Unit {0}) c.in_err-learn.field-0.0 c.in_err-learn.ensures.exact in
    search rules

pub returns-in_err-learn-clause-keeps : goal.returns-in_err-learn-clause-keeps
returns-in_err-learn-clause-keeps c = Extends-trans c.in_ok-statement.ensures.keeps (Extends-trans c.in_ok-check.ensures.keeps c.in_err-learn.ensures.keeps)

pub returns-clause-exact : goal.returns-clause-exact
returns-clause-exact c =
    let e = c.in_ok-check.ensures in
    let l = c.in_ok-learn.ensures in
    statement-passes c.args.terms.now c.meet.new.terms c.in_ok-statement.ensures.keeps c.args.self.now c.requires.walk c.args.fields.now c.args.op c.args.number c.args.step c.in_ok-statement.statement c.in_ok-statement.ensures.is
    (proofs_in c.args.terms.now c.args.book.proofs.now) (none-over c.args.terms.now c.meet.new.terms c.in_ok-statement.ensures.keeps c.args.book.proofs.now c.requires.book.scripts _ e.exact) e.shown c.check.new.terms e.keeps l.exact c.learn.new.terms l.keeps c.leave.result c.leave.ensures.exact

pub returns-clause-shown : goal.returns-clause-shown
returns-clause-shown c =
    let e = c.in_ok-check.ensures in
    let l = c.in_ok-learn.ensures in
    statement-shown c.args.terms.now c.meet.new.terms c.in_ok-statement.ensures.keeps c.args.self.now c.requires.walk c.args.fields.now c.args.op c.args.number c.args.step c.in_ok-statement.statement c.in_ok-statement.ensures.is
    (proofs_in c.args.terms.now c.args.book.proofs.now) (none-over c.args.terms.now c.meet.new.terms c.in_ok-statement.ensures.keeps c.args.book.proofs.now c.requires.book.scripts _ e.exact) e.shown c.check.new.terms e.keeps l.exact c.learn.new.terms l.keeps c.leave.result

pub returns-clause-come : goal.returns-clause-come
returns-clause-come c =
    let e = c.in_ok-check.ensures in
    let l = c.in_ok-learn.ensures in
    statement-comes c.args.terms.now c.meet.new.terms c.in_ok-statement.ensures.keeps c.args.self.now c.requires.walk c.args.fields.now c.args.op c.args.number c.args.step c.in_ok-statement.statement c.in_ok-statement.ensures.is
    (proofs_in c.args.terms.now c.args.book.proofs.now) (none-over c.args.terms.now c.meet.new.terms c.in_ok-statement.ensures.keeps c.args.book.proofs.now c.requires.book.scripts _ e.exact) e.shown c.check.new.terms e.keeps l.exact c.learn.new.terms l.keeps c.leave.result
    c.check.new.self c.learn.new.self c.leave.new.self c.leave.new.terms e.come l.come c.leave.ensures.come

pub returns-clause-keeps : goal.returns-clause-keeps
returns-clause-keeps c = Extends-trans c.in_ok-statement.ensures.keeps (Extends-trans c.in_ok-check.ensures.keeps (Extends-trans c.in_ok-learn.ensures.keeps c.leave.ensures.keeps))
