use Rattle.std.proofs.Common.{refl}
use Rattle.sync_terms.proofs.Extending.{Extends-trans}
use Rattle.sync_machine.specs.Views.{invariant_tree}
use Rattle.sync_induct.specs.Checks.{duty_of}
use Rattle.sync_terms.specs.Proofs.{proofs_in}
use Rattle.sync_induct.specs.Duties.{kept_duty}
use Rattle.sync_induct.specs.Walks.{values_of, known_of}
use Rattle.sync_induct.proofs.Judging.{large-claim}
use Rattle.sync_induct.proofs.Keeping.{passes-kept, proved-kept}
use Rattle.sync_induct.proofs.Lasting.{walk-stays, stands-behind}
use Rattle.sync_induct.proofs.Scripts.{scripts-stay, duty-over}
use Rattle.sync_induct.proofs.walks.Walk.keep_one.Goals as goal

pub check_duty-requires-clause-ready : goal.check_duty-requires-clause-ready
check_duty-requires-clause-ready c = (walk-stays c.args.terms.now c.closed.new.terms c.in-Ok.ensures.keeps c.args.self.now c.requires.walk).ready

pub check_duty-requires-clause-book : goal.check_duty-requires-clause-book
check_duty-requires-clause-book c = record { scripts = scripts-stay c.args.terms.now c.closed.new.terms c.in-Ok.ensures.keeps c.args.book.proofs.now c.requires.book.scripts; placed = c.requires.book.placed }

pub returns-in-Ok-clause-exact : goal.returns-in-Ok-clause-exact
returns-in-Ok-clause-exact c =
    passes-kept c.args.terms.now c.closed.new.terms c.in-Ok.ensures.keeps c.args.self.now c.requires.walk c.in-Ok.claim c.args.obligation (invariant_tree c.args.terms.now c.args.invariant.now) c.in-Ok.ensures.value.1
    c.check_duty.result (proofs_in c.args.terms.now c.args.book.proofs.now)
    (duty-over c.args.terms.now c.closed.new.terms c.in-Ok.ensures.keeps c.args.book.proofs.now c.requires.book.scripts c.check_duty.result
    (duty_of c.closed.new.terms c.args.self.now.hyps c.in-Ok.claim c.args.obligation) c.check_duty.ensures.exact)

pub returns-in-Ok-clause-proved : goal.returns-in-Ok-clause-proved
returns-in-Ok-clause-proved c =
    proved-kept c.args.terms.now c.closed.new.terms c.in-Ok.ensures.keeps c.args.self.now c.requires.walk c.in-Ok.claim c.args.obligation (invariant_tree c.args.terms.now c.args.invariant.now) c.in-Ok.ensures.value.1
    c.check_duty.result c.check_duty.ensures.valid

pub returns-in-Ok-clause-come : goal.returns-in-Ok-clause-come
returns-in-Ok-clause-come c =
    stands-behind c.check_duty.result c.args.terms.now c.closed.new.terms c.check_duty.new.terms c.args.self.now _ c.in-Ok.ensures.keeps c.check_duty.ensures.keeps c.requires.walk refl c.check_duty.ensures.ready c.check_duty.ensures.hyps

pub returns-in-Ok-clause-keeps : goal.returns-in-Ok-clause-keeps
returns-in-Ok-clause-keeps c = Extends-trans c.in-Ok.ensures.keeps c.check_duty.ensures.keeps

pub returns-in-Err-TooLarge-clause-exact : goal.returns-in-Err-TooLarge-clause-exact
returns-in-Err-TooLarge-clause-exact c =
    let d = kept_duty c.args.obligation (known_of c.args.terms.now c.args.self.now) (values_of c.args.terms.now c.args.self.now) (invariant_tree c.args.terms.now c.args.invariant.now) in
    c.too_large.ensures c.args.terms.now d refl (large-claim d (c.closed.ensures.too_large (cc)))
