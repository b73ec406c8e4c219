use Rattle.std.proofs.Common.{Err, rules, map}
use Rattle.std.specs.HashSet.{contains}
use Rattle.sync_terms.proofs.Extending.{Extends-refl, Extends-trans}
use Rattle.sync_machine.specs.Views.{invariant_tree}
use Rattle.sync_terms.specs.Proofs.{proofs_in}
use Rattle.sync_induct.specs.Titles.{same_title}
use Rattle.sync_induct.proofs.Operating.{left_from, ids-then, keepable-then, wanted-then, operations-past, operations-refused, operations-end}
use Rattle.sync_induct.proofs.Remaining.{remains-whole, remains-none, remains-shown}
use Rattle.sync_induct.proofs.Scripts.{scripts-stay, checks-over, none-over}
use Rattle.sync_induct.proofs.operations.check_operations.Goals as goal

pub loop-i-init : goal.loop-i-init
loop-i-init c = record { keeps = Extends-refl c.args.terms.now; left = remains-whole (proofs_in c.args.terms.now c.args.book.proofs.now) _ }

pub check_operation-requires : goal.check_operation-requires
check_operation-requires c =
    let s = c.args.terms.now in
    let t = c.loop-i.terms in
    let fs = c.args.fields.now in
    let ps = proofs_in c.args.terms.now c.args.book.proofs.now in
    let x = c.index-operations-i.result in
    record {
      invariants = keepable-then s t fs c.args.invariants.now c.args.operations.now ps c.loop-i.i c.in_ok-number.number x c.loop-i.invariant.keeps c.loop-i-test.true c.index-operations-i.is c.in_ok-number.ensures c.requires.invariants c.requires.ids;
      ids = ids-then s t fs c.args.invariants.now c.args.operations.now ps c.loop-i.i c.in_ok-number.number x c.loop-i.invariant.keeps c.loop-i-test.true c.index-operations-i.is c.in_ok-number.ensures c.requires.invariants c.requires.ids;
      wanted = wanted-then s t fs c.args.invariants.now c.args.operations.now ps c.loop-i.i c.in_ok-number.number x c.loop-i.invariant.keeps c.loop-i-test.true c.index-operations-i.is c.in_ok-number.ensures c.requires.invariants c.requires.ids
          (contains same_title c.args.book.wanted.now) c.requires.wanted;
      book = record {
        scripts = scripts-stay c.args.terms.now c.loop-i.terms c.loop-i.invariant.keeps c.args.book.proofs.now c.requires.book.scripts;
        placed = c.requires.book.placed;
      };
    }

pub returns-in_err-check_operation-clause-exact : goal.returns-in_err-check_operation-clause-exact
returns-in_err-check_operation-clause-exact c =
    let h = operations-refused c.args.terms.now c.loop-i.terms c.args.fields.now c.args.invariants.now c.args.operations.now (proofs_in c.args.terms.now c.args.book.proofs.now) c.loop-i.i c.in_ok-number.number c.index-operations-i.result
    c.loop-i.invariant.keeps c.loop-i-test.true c.index-operations-i.is c.in_ok-number.ensures c.requires.invariants c.requires.ids c.loop-i.invariant.left
    (Unit {0}) (Unit {0}) c.in_err-check_operation.field-0.0
    (checks-over c.args.terms.now c.loop-i.terms c.loop-i.invariant.keeps c.args.book.proofs.now c.requires.book.scripts {A = Unit {0}} (Err c.in_err-check_operation.field-0.0) _ c.in_err-check_operation.ensures.exact) in
    search rules

pub returns-in_err-check_operation-clause-keeps : goal.returns-in_err-check_operation-clause-keeps
returns-in_err-check_operation-clause-keeps c = Extends-trans c.loop-i.invariant.keeps c.in_err-check_operation.ensures.keeps

pub loop-i-preserved : goal.loop-i-preserved
loop-i-preserved c =
    let e = c.in_ok-check_operation.ensures in
    record {
      keeps = Extends-trans c.loop-i.invariant.keeps e.keeps;
      left = operations-past c.args.terms.now c.loop-i.terms c.args.fields.now c.args.invariants.now c.args.operations.now (proofs_in c.args.terms.now c.args.book.proofs.now) c.loop-i.i c.in_ok-number.number c.index-operations-i.result
          c.loop-i.invariant.keeps c.loop-i-test.true c.index-operations-i.is c.in_ok-number.ensures c.requires.invariants c.requires.ids c.loop-i.invariant.left (none-over c.args.terms.now c.loop-i.terms c.loop-i.invariant.keeps c.args.book.proofs.now c.requires.book.scripts _ e.exact) e.shown;
    }

pub returns : goal.returns
returns c =
    let s = c.args.terms.now in
    let ps = proofs_in c.args.terms.now c.args.book.proofs.now in
    let is = map (invariant_tree s) c.args.invariants.now in
    let all = left_from s c.args.fields.now is c.args.operations.now 0 in
    let left = operations-end s c.args.fields.now is c.args.operations.now c.loop-i.i ps all c.loop-i-test.false c.loop-i.invariant.left in
    record { exact = remains-none ps all left; shown = remains-shown ps all left; keeps = c.loop-i.invariant.keeps }
