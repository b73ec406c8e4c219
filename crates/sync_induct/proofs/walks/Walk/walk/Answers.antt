use Rattle.std.proofs.Common.{◌≡◌, [], Err, rules}
use Rattle.std.proofs.lemmas.List.{at_drop_all}
use Rattle.std.proofs.lemmas.List.Elements.{All-get_or}
use Rattle.sync_terms.proofs.Extending.{Extends-trans}
use Rattle.sync_machine.specs.Views.{steps_tree, HasActIds}
use Rattle.sync_machine.specs.declared.machine.Step.{Step}
use Rattle.sync_machine.specs.declared.machine.Act.TheVariants as stored
use Rattle.sync_terms.specs.Proofs.{proofs_in}
use Rattle.sync_induct_acts.proofs.Lasting.{act-ids}
use Rattle.sync_induct.proofs.Remaining.{remains-none, remains-shown}
use Rattle.sync_induct.proofs.Scripts.{scripts-stay, checks-over, none-over}
use Rattle.sync_induct.proofs.Stepping.{checks_left, ends, ends-facts, ends-values}
use Rattle.sync_induct.proofs.Walking.{place_at, step-refused, step-passed}
use Rattle.sync_induct.proofs.walks.Walk.walk.Goals as goal

pub pass-requires-clause-ids : goal.pass-requires-clause-ids
pass-requires-clause-ids c =
    let s = c.args.terms.now in
    let xs = c.args.steps.now in
    let d : Step = record { act = stored.Init 0 (record { 0 = 0 }); line = 0 } in
    act-ids s c.loop-i.terms c.loop-i.invariant.keeps _ (All-get_or (λ (x : Step). HasActIds s x.act) xs c.loop-i.i d c.loop-i-test.true c.requires.ids)

pub pass-requires-clause-book : goal.pass-requires-clause-book
pass-requires-clause-book c = record { scripts = scripts-stay c.args.terms.now c.loop-i.terms c.loop-i.invariant.keeps c.args.book.proofs.now c.requires.book.scripts; placed = c.requires.book.placed }

pub loop-i-preserved : goal.loop-i-preserved
loop-i-preserved c =
    let s = c.args.terms.now in
    let xs = c.args.steps.now in
    let i = c.loop-i.i in
    let d : Step = record { act = stored.Init 0 (record { 0 = 0 }); line = 0 } in
    let e = c.in_ok-pass.ensures in
    record {
      keeps = Extends-trans c.loop-i.invariant.keeps e.keeps;
      stands = e.come.walk;
      continues = step-passed s c.loop-i.terms c.loop-i.invariant.keeps c.args.fields.now c.args.op (proofs_in c.args.terms.now c.args.book.proofs.now) (place_at s s xs 0 c.args.self.now) xs i d c.loop-i.self c.in_ok-number.number
          c.loop-i-test.true c.in_ok-number.ensures (All-get_or (λ (x : Step). HasActIds s x.act) xs i d c.loop-i-test.true c.requires.ids) c.loop-i.invariant.continues
          c.pass.new.terms c.pass.new.self e.come (none-over s c.loop-i.terms c.loop-i.invariant.keeps c.args.book.proofs.now c.requires.book.scripts _ e.exact) e.shown;
    }

pub returns-in_err-pass-clause-exact : goal.returns-in_err-pass-clause-exact
returns-in_err-pass-clause-exact c =
    let s = c.args.terms.now in
    let xs = c.args.steps.now in
    let i = c.loop-i.i in
    let d : Step = record { act = stored.Init 0 (record { 0 = 0 }); line = 0 } in
    let h = step-refused s c.loop-i.terms c.loop-i.invariant.keeps c.args.fields.now c.args.op (proofs_in c.args.terms.now c.args.book.proofs.now) (place_at s s xs 0 c.args.self.now) xs i d c.loop-i.self c.in_ok-number.number
    c.loop-i-test.true c.in_ok-number.ensures (All-get_or (λ (x : Step). HasActIds s x.act) xs i d c.loop-i-test.true c.requires.ids) c.loop-i.invariant.continues
    (Unit {0}) (Unit {0}) c.in_err-pass.field-0.0
    (checks-over s c.loop-i.terms c.loop-i.invariant.keeps c.args.book.proofs.now c.requires.book.scripts {A = Unit {0}} (Err c.in_err-pass.field-0.0) _ c.in_err-pass.ensures.exact) in
    search rules

pub returns-in_err-pass-clause-keeps : goal.returns-in_err-pass-clause-keeps
returns-in_err-pass-clause-keeps c = Extends-trans c.loop-i.invariant.keeps c.in_err-pass.ensures.keeps

pub returns : goal.returns
returns c =
    let fs = c.args.fields.now in
    let ps = proofs_in c.args.terms.now c.args.book.proofs.now in
    let s = c.args.terms.now in
    let xs = c.args.steps.now in
    let from = place_at s s xs 0 c.args.self.now in
    let to = place_at s c.loop-i.terms xs c.loop-i.i c.loop-i.self in
    let none : to.rest ≡ [] = at_drop_all (steps_tree s) xs c.loop-i.i c.loop-i-test.false in
    let so_far = c.loop-i.invariant.continues in
    let left = ends fs c.args.op ps from to none so_far in
    record {
      exact = remains-none ps (checks_left fs c.args.op from) left;
      shown = remains-shown ps (checks_left fs c.args.op from) left;
      come = record { walk = c.loop-i.invariant.stands; known = ends-facts fs c.args.op ps from to none so_far; now = ends-values fs c.args.op ps from to none so_far };
      keeps = c.loop-i.invariant.keeps;
    }
