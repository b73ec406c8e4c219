use Rattle.std.proofs.Common.{rules, ◌≡◌, List, None, Ok, Err, ap, subst, ◌∙◌}
use Rattle.sync_base.specs.Outcome.{Passes}
use Rattle.sync_terms.specs.Stored.{formula}
use Rattle.sync_kernel_facts.proofs.Truths.{cong_true, read_true, size_true, total_true}
use Rattle.sync_kernel_facts.specs.Facts.{Fact}
use Rattle.sync_kernel_facts.specs.Branches.{facts_in}
use Rattle.sync_kernel.specs.Hypotheses.{known_in}
use Rattle.sync_kernel_facts.specs.Literals.{literal_form}
use Rattle.sync_kernel.specs.Readings.{plan_read}
use Rattle.sync_kernel.specs.Scripts.{block_fault}
use Rattle.sync_kernel.proofs.Assuming.{begun, begun_notes, cut_is, cut_ready, cut_known}
use Rattle.sync_kernel.proofs.Refuting.{passed_valid}
use Rattle.sync_kernel.proofs.provers.prove_by_names.Goals as goal

pub returns-in_err-check_block-clause-exact : goal.returns-in_err-check_block-clause-exact
returns-in_err-check_block-clause-exact c =
    let s = c.args.terms.now in
    let x = c.new-2.ensures in
    let facts = begun s c.args.hyps.now c.push.new.self c.new-2.result c.args.claim c.in_ok-push.ensures.ok x.name (x.params ∙ c.new.ensures) (ap (literal_form s) x.says ∙ c.denial-denied.ensures.form) in
    let e = c.in_err-check_block.field-0.0 in
    let h = subst (λ (fs : List Fact). Passes {A = Unit {0}} (Err e) (block_fault fs (plan_read s c.args.names.now c.args.script.now.block))) facts c.in_err-check_block.ensures.exact in
    search rules

pub returns-clause-exact : goal.returns-clause-exact
returns-clause-exact c =
    let s = c.args.terms.now in
    let x = c.new-2.ensures in
    let facts = begun s c.args.hyps.now c.push.new.self c.new-2.result c.args.claim c.in_ok-push.ensures.ok x.name (x.params ∙ c.new.ensures) (ap (literal_form s) x.says ∙ c.denial-denied.ensures.form) in
    subst (λ (fs : List Fact). block_fault fs (plan_read s c.args.names.now c.args.script.now.block) ≡ None) facts c.in_ok-check_block.ensures.exact

pub returns-clause-valid : goal.returns-clause-valid
returns-clause-valid c =
    passed_valid (record { cong = cong_true; read = read_true; size = size_true; total = total_true }) (known_in c.args.terms.now c.args.hyps.now) (formula c.args.terms.now c.args.claim) (plan_read c.args.terms.now c.args.names.now c.args.script.now.block) (Ok tt)
    (returns-clause-exact c)

pub check_block-requires-clause-notes : goal.check_block-requires-clause-notes
check_block-requires-clause-notes c = begun_notes c.args.terms.now c.args.hyps.now c.push.new.self c.new-2.result c.in_ok-push.ensures.ok c.requires.ready

pub returns-clause-ready : goal.returns-clause-ready
returns-clause-ready c =
    let t = c.check_block.new.terms in
    let ys = c.check_block.new.branch in
    let n = c.len-len.result in
    cut_ready c.args.terms.now t c.args.hyps.now _ ys n c.check_block.ensures.keeps c.requires.ready
    (cut_is c.args.hyps.now c.push.new.self ys c.cut_back.new.self c.new-2.result n c.len-len.ensures c.in_ok-push.ensures.ok c.in_ok-check_block.ensures.begins c.cut_back.ensures)
    c.cut_back.ensures (c.cut_back-2.ensures t (facts_in t ys) c.in_ok-check_block.ensures.notes)

pub returns-clause-hyps : goal.returns-clause-hyps
returns-clause-hyps c =
    cut_known c.args.terms.now c.check_block.new.terms c.args.hyps.now _ c.check_block.ensures.keeps c.requires.ready
    (cut_is c.args.hyps.now c.push.new.self c.check_block.new.branch c.cut_back.new.self c.new-2.result c.len-len.result c.len-len.ensures c.in_ok-push.ensures.ok c.in_ok-check_block.ensures.begins c.cut_back.ensures)
