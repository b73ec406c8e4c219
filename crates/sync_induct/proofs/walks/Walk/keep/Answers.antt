use Rattle.std.proofs.Common.{◌+◌, Bool, true, false, Err, rules}
use Rattle.std.specs.HashSet.{contains}
use Rattle.sync_terms.proofs.Extending.{Extends-refl, Extends-trans}
use Rattle.sync_machine.specs.Views.{operation_tree, invariant_tree}
use Rattle.sync_terms.specs.declared.proofs.Claim.TheVariants as claims
use Rattle.sync_induct.specs.Duties.{kept_duty}
use Rattle.sync_terms.specs.Proofs.{proofs_in}
use Rattle.sync_induct.specs.Titles.{same_title}
use Rattle.sync_induct.specs.Walks.{values_of, known_of}
use Rattle.sync_induct.proofs.Keeping.{kept_from, wanted-is, kept-end, same-keeping, keeping-skips, keeping-passes, keeping-refused}
use Rattle.sync_induct.proofs.Lasting.{stands}
use Rattle.sync_induct.proofs.Remaining.{remains-none, remains-shown, remains-whole}
use Rattle.sync_induct.proofs.Scripts.{scripts-stay, duty-over, duty-none_over}
use Rattle.sync_induct.proofs.walks.Walk.keep.Goals.{then-contains+in_ok-keep_one, else-contains}
use Rattle.sync_induct.proofs.walks.Walk.keep.Goals as goal

pub loop-j-init : goal.loop-j-init
loop-j-init c =
    let s = c.args.terms.now in
    record { keeps = Extends-refl s; come = stands s s (Extends-refl s) c.args.self.now c.requires.walk; left = remains-whole (proofs_in c.args.terms.now c.args.book.proofs.now) _ }

pub keep_one-requires-clause-book : goal.keep_one-requires-clause-book
keep_one-requires-clause-book c = record { scripts = scripts-stay c.args.terms.now c.loop-j.terms c.loop-j.invariant.keeps c.args.book.proofs.now c.requires.book.scripts; placed = c.requires.book.placed }

pub returns-in_err-keep_one-clause-exact : goal.returns-in_err-keep_one-clause-exact
returns-in_err-keep_one-clause-exact c =
    let s = c.args.terms.now in
    let w = c.args.self.now in
    let o = operation_tree s c.args.operation.now in
    let xs = c.args.invariants.now in
    let j = c.loop-j.j in
    let x = c.index-invariants-j.result in
    let lt = c.loop-j-test.true in
    let is = c.index-invariants-j.is in
    let n = c.in_ok-place_number.ensures in
    let wanted = wanted-is s o c.args.op (known_of s w) (values_of s w) xs j x lt is (contains same_title c.args.book.wanted.now) c.in_ok-place_number.field-0 c.new.result c.contains.result true c.requires.wanted n c.new.ensures c.contains.ensures c.if-contains.true in
    let h = keeping-refused s c.loop-j.terms w c.loop-j.self o c.args.op xs (proofs_in c.args.terms.now c.args.book.proofs.now) j c.in_ok-place_number.field-0 x lt is n c.requires.invariants c.loop-j.invariant
    (Unit {0}) (Unit {0}) c.in_err-keep_one.field-0.0 wanted
    (duty-over s c.loop-j.terms c.loop-j.invariant.keeps c.args.book.proofs.now c.requires.book.scripts {A = Unit {0}} (Err c.in_err-keep_one.field-0.0)
    (kept_duty (record { op = c.args.op; claim = claims.Keeps c.in_ok-place_number.field-0; line = o.line }) (known_of c.loop-j.terms c.loop-j.self) (values_of c.loop-j.terms c.loop-j.self) (invariant_tree c.loop-j.terms x)) c.in_err-keep_one.ensures.exact) in
    search rules

pub returns-in_err-keep_one-clause-keeps : goal.returns-in_err-keep_one-clause-keeps
returns-in_err-keep_one-clause-keeps c = Extends-trans c.loop-j.invariant.keeps c.in_err-keep_one.ensures.keeps

pub loop-j-preserved : goal.loop-j-preserved
loop-j-preserved c =
    let s = c.args.terms.now in
    let t = c.loop-j.terms in
    let w = c.args.self.now in
    let v = c.loop-j.self in
    let o = operation_tree s c.args.operation.now in
    let xs = c.args.invariants.now in
    let ps = proofs_in c.args.terms.now c.args.book.proofs.now in
    let j = c.loop-j.j in
    let x = c.index-invariants-j.result in
    let lt = c.loop-j-test.true in
    let is = c.index-invariants-j.is in
    let n = c.in_ok-place_number.ensures in
    let wanted = λ (b : Bool). wanted-is s o c.args.op (known_of s w) (values_of s w) xs j x lt is (contains same_title c.args.book.wanted.now) c.in_ok-place_number.field-0 c.new.result c.contains.result b c.requires.wanted n c.new.ensures c.contains.ensures in
    elim c.if-contains.branch [
      | then-contains+in_ok-keep_one b ↦
          let e = b.in_ok-keep_one.ensures in
          same-keeping s b.keep_one.new.terms c.if-contains.terms w b.keep_one.new.self c.if-contains.self o c.args.op xs ps (j + 1) b.terms-is b.self-is
          (keeping-passes s t w v o c.args.op xs ps j c.in_ok-place_number.field-0 x lt is n c.requires.invariants c.loop-j.invariant b.keep_one.new.terms b.keep_one.new.self (wanted true b.if-contains.true) e.keeps e.come (duty-none_over s t c.loop-j.invariant.keeps c.args.book.proofs.now c.requires.book.scripts
          (kept_duty (record { op = c.args.op; claim = claims.Keeps c.in_ok-place_number.field-0; line = o.line }) (known_of c.loop-j.terms c.loop-j.self) (values_of c.loop-j.terms c.loop-j.self) (invariant_tree c.loop-j.terms x)) e.exact) e.proved)
      | else-contains b ↦
          same-keeping s t c.if-contains.terms w v c.if-contains.self o c.args.op xs ps (j + 1) b.terms-is b.self-is
          (keeping-skips s t w v o c.args.op xs ps j c.in_ok-place_number.field-0 x lt is n c.requires.invariants c.loop-j.invariant (wanted false b.if-contains.false))
    ]

pub returns : goal.returns
returns c =
    let s = c.args.terms.now in
    let w = c.args.self.now in
    let o = operation_tree s c.args.operation.now in
    let ps = proofs_in c.args.terms.now c.args.book.proofs.now in
    let all = kept_from s o c.args.op (known_of s w) (values_of s w) c.args.invariants.now 0 in
    let left = kept-end s o c.args.op (known_of s w) (values_of s w) c.args.invariants.now c.loop-j.j ps all c.loop-j-test.false c.loop-j.invariant.left in
    record { exact = remains-none ps all left; shown = remains-shown ps all left; keeps = c.loop-j.invariant.keeps }
