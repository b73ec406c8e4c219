use Rattle.std.proofs.Common.{refl}
use Rattle.sync_terms.proofs.Extending.{Extends-trans}
use Rattle.sync_induct.specs.Checks.{duty_of}
use Rattle.sync_terms.specs.Proofs.{proofs_in}
use Rattle.sync_induct.proofs.Judging.{large-claim}
use Rattle.sync_induct.proofs.Lasting.{walk-stays, stands, stands-behind}
use Rattle.sync_induct.proofs.Scripts.{scripts-stay, duty-over}
use Rattle.sync_induct.proofs.Stating.{answer-is, stop-is, built-none, obligation_of, passes-owed, shown-owed, owed-nothing, shown-nothing, large-owed}
use Rattle.sync_induct.proofs.walks.Walk.check.Goals as goal

pub check_duty-requires-clause-ready : goal.check_duty-requires-clause-ready
check_duty-requires-clause-ready c = (walk-stays c.args.terms.now c.safety.new.terms c.in-Ok-Some.ensures.keeps c.args.self.now c.requires.walk).ready

pub check_duty-requires-clause-book : goal.check_duty-requires-clause-book
check_duty-requires-clause-book c = record { scripts = scripts-stay c.args.terms.now c.safety.new.terms c.in-Ok-Some.ensures.keeps c.args.book.proofs.now c.requires.book.scripts; placed = c.requires.book.placed }

pub returns-in-Ok-Some-clause-exact : goal.returns-in-Ok-Some-clause-exact
returns-in-Ok-Some-clause-exact c =
    passes-owed c.args.terms.now c.safety.new.terms c.in-Ok-Some.ensures.keeps c.args.self.now c.requires.walk c.args.statement c.in-Ok-Some.claim
    (answer-is c.safety.new.terms _ _ _ c.in-Ok-Some.field-0-is c.in-Ok-Some.ensures.built.value) c.check_duty.result (proofs_in c.args.terms.now c.args.book.proofs.now)
    (duty-over c.args.terms.now c.safety.new.terms c.in-Ok-Some.ensures.keeps c.args.book.proofs.now c.requires.book.scripts c.check_duty.result
    (duty_of c.safety.new.terms c.args.self.now.hyps c.in-Ok-Some.claim (obligation_of c.args.statement)) c.check_duty.ensures.exact)

pub returns-in-Ok-Some-clause-shown : goal.returns-in-Ok-Some-clause-shown
returns-in-Ok-Some-clause-shown c =
    shown-owed c.args.terms.now c.safety.new.terms c.in-Ok-Some.ensures.keeps c.args.self.now c.requires.walk c.args.statement c.in-Ok-Some.claim
    (answer-is c.safety.new.terms _ _ _ c.in-Ok-Some.field-0-is c.in-Ok-Some.ensures.built.value) c.check_duty.result c.check_duty.ensures.valid

pub returns-in-Ok-Some-clause-come : goal.returns-in-Ok-Some-clause-come
returns-in-Ok-Some-clause-come c =
    stands-behind c.check_duty.result c.args.terms.now c.safety.new.terms c.check_duty.new.terms c.args.self.now _ c.in-Ok-Some.ensures.keeps c.check_duty.ensures.keeps c.requires.walk refl c.check_duty.ensures.ready c.check_duty.ensures.hyps

pub returns-in-Ok-Some-clause-keeps : goal.returns-in-Ok-Some-clause-keeps
returns-in-Ok-Some-clause-keeps c = Extends-trans c.in-Ok-Some.ensures.keeps c.check_duty.ensures.keeps

pub returns-in-Ok-None-clause-exact : goal.returns-in-Ok-None-clause-exact
returns-in-Ok-None-clause-exact c =
    owed-nothing c.args.terms.now c.args.self.now c.args.statement (proofs_in c.args.terms.now c.args.book.proofs.now)
    (built-none c.safety.new.terms _ (answer-is c.safety.new.terms _ _ _ c.in-Ok-None.field-0-is c.in-Ok-None.ensures.built.value))

pub returns-in-Ok-None-clause-shown : goal.returns-in-Ok-None-clause-shown
returns-in-Ok-None-clause-shown c =
    shown-nothing c.args.terms.now c.args.self.now c.args.statement
    (built-none c.safety.new.terms _ (answer-is c.safety.new.terms _ _ _ c.in-Ok-None.field-0-is c.in-Ok-None.ensures.built.value))

pub returns-in-Ok-None-clause-come : goal.returns-in-Ok-None-clause-come
returns-in-Ok-None-clause-come c = stands c.args.terms.now c.safety.new.terms c.in-Ok-None.ensures.keeps c.args.self.now c.requires.walk

pub returns-in-Err-TooLarge-clause-exact : goal.returns-in-Err-TooLarge-clause-exact
returns-in-Err-TooLarge-clause-exact c =
    large-owed c.args.terms.now c.args.self.now c.args.statement (proofs_in c.args.terms.now c.args.book.proofs.now) (Unit {0}) c.too_large.result
    (stop-is _ _ c.in-Err-TooLarge.field-0-is c.in-Err-TooLarge.ensures.built.stop)
    (λ d same large. c.too_large.ensures c.args.terms.now d same (large-claim d large))
