use Rattle.std.proofs.Common.{rules, ◌≡◌, ℕ, ◌+◌, List, [], ◌∷◌, ◌++◌, take, None, Result, Ok, Err, refl, sym, ap, subst, ◌∙◌}
use Rattle.std.specs.List.{All}
use Rattle.std.proofs.lemmas.List.{take-map}
use Rattle.std.proofs.lemmas.Result.{err_from_is_err_and}
use Rattle.sync_base.specs.Outcome.{Passes}
use Rattle.sync_base.specs.declared.stops.Rule.{Rule}
use Rattle.sync_terms.specs.declared.nodes.TermId.{TermId}
use Rattle.sync_terms.specs.declared.scripts.StepKind.TheOpen.{StepKind-F}
use Rattle.sync_terms.specs.declared.scripts.StepKind.TheVariants.{rolls-Inst, rolls-Split, rolls-Cut, rolls-Read, rolls-Size, rolls-Total, rolls-Cong}
use Rattle.sync_terms.specs.declared.scripts.StepKind as kind
use Rattle.sync_terms.specs.declared.scripts.ScriptStep as step
use Rattle.sync_terms.specs.declared.scripts.Block as block
use Rattle.sync_terms.specs.Trees.{Tree}
use Rattle.sync_terms.specs.Stored.{IsTerm}
use Rattle.sync_terms.specs.Plans.{plan_of}
use Rattle.sync_terms.proofs.Extending.{Extends-trans}
use Rattle.sync_typing_reading.specs.Sayings.{stands_in}
use Rattle.sync_typing_reading.proofs.Staying.{stands_more, AreSaidOf-more}
use Rattle.sync_kernel.specs.declared.steps.MapFact.TheVariants as fact
use Rattle.sync_kernel.specs.MapFacts.{map_form}
use Rattle.sync_kernel.specs.declared.steps.Left.{Left}
use Rattle.sync_kernel_facts.specs.declared.branches.Said.{Said}
use Rattle.sync_kernel_facts.specs.Facts.{Fact}
use Rattle.sync_kernel.specs.Notes.{AreNotes}
use Rattle.sync_kernel_facts.specs.Branches.{said_fact, facts_in, AreSaid, Begins}
use Rattle.sync_kernel.specs.Scripts.{then_of, with_fact, with_instance, fitting}
use Rattle.sync_kernel.specs.Readings.{tree_read, trees_read}
use Rattle.sync_kernel.specs.Holding.{Leaves, Refuses, StepPasses, StopsFor}
use Rattle.sync_kernel.proofs.Fitting.{Begins-refl, AreSaid-more, IsLiteral-more}
use Rattle.sync_kernel.proofs.Scripting.{line_of, script-more, step-more, inst_ids, cut_id, cut_script, split_scripts, read_ids, size_ids, total_ids, cong_ids}
use Rattle.sync_kernel.proofs.Stepping.{passes_err, err_refuses}
use Rattle.sync_kernel.proofs.Adding.{add_said}
use Rattle.sync_kernel.proofs.Noting.{notes_grow}
use Rattle.sync_kernel.proofs.Reading.{inst_reads}
use Rattle.sync_kernel.proofs.Checking.{Checking, fault_by, after_by, rest_from, begins_before, checking_more, checking_stops, left_open, drop_item, item_of, step_err, refuses_as, case_of, case_is, case_later, left_stops, right_stops, split_closes, cut_stops, cut_goes, block_stops, fact_stops, fact_goes}
use Rattle.sync_kernel.proofs.blocks.+blocks.Goals as goal

pub check_block-check_step-requires : goal.check_block-check_step-requires
check_block-check_step-requires t c =
    let s = c.args.terms.now in
    let of = item_of s c.args.block.now c.as_slice-step-items.result.now c.loop-step.step-index c.step-item.result c.requires.script c.as_slice-step-items.ensures c.step-item.is c.loop-step-test.true in
    (search (rules, kind.the_lemmas, step.the_lemmas, block.the_lemmas), (c.loop-step.invariant.checking.said, (c.loop-step.invariant.notes, (step-more s c.loop-step.terms c.step-item.result c.loop-step.invariant.checking.extends of, AreSaidOf-more c.loop-step.invariant.checking.extends c.args.names.now c.requires.said))))

pub check_block-returns-in_err-left-clause-exact : goal.check_block-returns-in_err-left-clause-exact
check_block-returns-in_err-left-clause-exact t c =
    let s = c.args.terms.now in
    let subs = stands_in s c.args.names.now in
    let xs = c.args.branch.now in
    let b = c.args.block.now in
    let l = c.loop-step in
    let of = item_of s b c.as_slice-step-items.result.now l.step-index c.step-item.result c.requires.script c.as_slice-step-items.ensures c.step-item.is c.loop-step-test.true in
    let e = drop_item c.as_slice-step-items.result.now _ l.step-index c.step-item.result c.as_slice-step-items.ensures c.step-item.is c.loop-step-test.true in
    let h = subst (λ (x : Left). Checking subs s xs b l.terms l.branch l.step-index x) (left_open l.left c.eq.result c.eq.ensures c.if-eq.false) l.invariant.checking in
    let q = err_from_is_err_and c.from_residual.result c.from_residual.ensures.1 in
    passes_err c.from_residual.result c.in_err-left.field-0.0 (fault_by subs (facts_in s xs) (plan_of s b)) (cc)
    (checking_stops subs s xs b l.terms l.branch l.step-index h c.step-item.result e of c.in_err-left.field-0.0
    (subst (λ (g : ℕ → Tree). Refuses c.in_err-left.field-0.0 (fault_by g (facts_in l.terms l.branch) (then_of l.terms c.step-item.result (rest_from s b (l.step-index + 1)))))
    (stands_more h.extends c.args.names.now c.requires.said) (c.in_err-left.ensures.exact _)))

pub check_block-returns-in_err-left-clause-keeps : goal.check_block-returns-in_err-left-clause-keeps
check_block-returns-in_err-left-clause-keeps t c = Extends-trans c.loop-step.invariant.checking.extends c.check_step.ensures.keeps

pub check_block-loop-step-preserved : goal.check_block-loop-step-preserved
check_block-loop-step-preserved t c =
    let s = c.args.terms.now in
    let subs = stands_in s c.args.names.now in
    let xs = c.args.branch.now in
    let b = c.args.block.now in
    let l = c.loop-step in
    let of = item_of s b c.as_slice-step-items.result.now l.step-index c.step-item.result c.requires.script c.as_slice-step-items.ensures c.step-item.is c.loop-step-test.true in
    let e = drop_item c.as_slice-step-items.result.now _ l.step-index c.step-item.result c.as_slice-step-items.ensures c.step-item.is c.loop-step-test.true in
    let h = subst (λ (x : Left). Checking subs s xs b l.terms l.branch l.step-index x) (left_open l.left c.eq.result c.eq.ensures c.if-eq.false) l.invariant.checking in
    record {
      checking = checking_more subs s xs b l.terms l.branch l.step-index h c.step-item.result e of c.in_ok-left.left c.check_step.new.terms c.check_step.new.branch c.in_ok-left.ensures.keeps c.in_ok-left.ensures.said c.in_ok-left.ensures.begins
          (subst
          (λ (g : ℕ → Tree). StepPasses (Ok c.in_ok-left.left) (fault_by g (facts_in l.terms l.branch) (then_of l.terms c.step-item.result (rest_from s b (l.step-index + 1))))
          (fault_by g (facts_in c.check_step.new.terms c.check_step.new.branch) (rest_from s b (l.step-index + 1))) (after_by g (rest_from s b (l.step-index + 1))))
          (stands_more h.extends c.args.names.now c.requires.said) (c.in_ok-left.ensures.exact _));
      notes = c.in_ok-left.ensures.notes;
    }

pub check_case-returns-clause-branch : goal.check_case-returns-clause-branch
check_case-returns-clause-branch t c =
    let xs = c.args.branch.now in
    let ys = c.check_block.new.branch in
    c.cut_back.ensures ∙ ap (λ (n : ℕ). take n ys) c.len-len.ensures
    ∙ begins_before xs ys c.said.result (subst (λ (zs : List Said). Begins zs ys) c.in_ok-push.ensures.ok c.in_ok-check_block.ensures.begins)

pub check_case-returns-clause-notes : goal.check_case-returns-clause-notes
check_case-returns-clause-notes t c =
    let u = c.check_block.new.terms in
    let ys = c.check_block.new.branch in
    let n = c.len-len.result in
    subst (λ (fs : List Fact). AreNotes u fs c.cut_back-2.new.self) (take-map (said_fact u) n ys ∙ ap (facts_in u) (sym c.cut_back.ensures)) (c.cut_back-2.ensures u (facts_in u ys) c.in_ok-check_block.ensures.notes)

pub check_step-inst-requires-clause-list : goal.check_step-inst-requires-clause-list
check_step-inst-requires-clause-list t c =
    let i = c.in-Inst in
    subst (All (IsTerm c.args.terms.now)) (sym c.as_slice.ensures) (inst_ids c.args.terms.now c.args.step.now c.requires.step i.hyp i.list i.name (i.is ∙ sym (rolls-Inst i.hyp i.list i.name)))

pub check_step-check_case-requires : goal.check_step-check_case-requires
check_step-check_case-requires t c =
    let s = c.args.terms.now in
    let i = c.in-Split in
    let scripts = split_scripts s c.args.step.now c.requires.step i.hyp i.name i.first i.second (i.is ∙ sym (rolls-Split i.hyp i.name i.first i.second)) in (
      search (rules, kind.the_lemmas, step.the_lemmas, block.the_lemmas),
      (
        AreSaid-more s c.split.new.terms c.args.branch.now c.split.ensures.keeps c.requires.branch,
        (
          notes_grow s c.split.new.terms c.args.branch.now c.args.branch.now c.args.notes.now c.split.ensures.keeps c.requires.branch (Begins-refl c.args.branch.now) c.requires.notes,
          (
            c.in_ok-cases-in-Split.ensures.stored.0,
            (script-more s c.split.new.terms i.first c.split.ensures.keeps scripts.0, AreSaidOf-more c.split.ensures.keeps c.args.names.now c.requires.said),
          ),
        ),
      ),
    )

pub check_step-returns-in_err-check_case-in-Split-clause-exact : goal.check_step-returns-in_err-check_case-in-Split-clause-exact
check_step-returns-in_err-check_case-in-Split-clause-exact t c = λ rest.
    (let s = c.args.terms.now in
    let subs = stands_in s c.args.names.now in
    let u = c.split.new.terms in
    let xs = c.args.branch.now in
    let i = c.in-Split in
    let is = i.is ∙ sym (rolls-Split i.hyp i.name i.first i.second) in
    let scripts = split_scripts s c.args.step.now c.requires.step i.hyp i.name i.first i.second is in
    let p = c.in_ok-cases-in-Split.cases in
    let e = c.in_err-check_case-in-Split.field-0.0 in
    let q = err_from_is_err_and c.from_residual-in_err-check_case-in-Split.result c.from_residual-in_err-check_case-in-Split.ensures.1 in
    step_err c.from_residual-in_err-check_case-in-Split.result e (fault_by subs (facts_in s xs) (then_of s c.args.step.now rest)) (fault_by subs (facts_in c.check_case.new.terms c.check_case.new.branch) rest) (after_by subs rest) (cc)
    (left_stops subs s xs c.args.step.now i.hyp i.name i.first i.second is rest u p (c.in_ok-cases-in-Split.ensures.leaves i.name) e
    (refuses_as e (case_of subs s xs i.name p.left u i.first) (case_of subs u xs i.name p.left u i.first) (sym (case_is subs s u xs i.name p.left i.first c.split.ensures.keeps c.requires.branch scripts.0))
    (err_refuses (Unit {0}) e (case_of subs u xs i.name p.left u i.first)
    (subst (λ (g : ℕ → Tree). Passes {A = Unit {0}} (Err e) (case_of g u xs i.name p.left u i.first)) (stands_more c.split.ensures.keeps c.args.names.now c.requires.said) c.in_err-check_case-in-Split.ensures.exact)))))

pub check_step-returns-in_err-check_case-in-Split-clause-keeps : goal.check_step-returns-in_err-check_case-in-Split-clause-keeps
check_step-returns-in_err-check_case-in-Split-clause-keeps t c = Extends-trans c.split.ensures.keeps c.check_case.ensures.keeps

pub check_step-check_case-requires-in-Split : goal.check_step-check_case-requires-in-Split
check_step-check_case-requires-in-Split t c =
    let s = c.args.terms.now in
    let i = c.in-Split in
    let w = c.check_case.new.terms in
    let more = Extends-trans c.split.ensures.keeps c.check_case.ensures.keeps in
    let scripts = split_scripts s c.args.step.now c.requires.step i.hyp i.name i.first i.second (i.is ∙ sym (rolls-Split i.hyp i.name i.first i.second)) in (
      search (rules, kind.the_lemmas, step.the_lemmas, block.the_lemmas),
      (
        subst (AreSaid w) (sym c.in_ok-check_case-in-Split.ensures.branch) (AreSaid-more s w c.args.branch.now more c.requires.branch),
        (
          c.in_ok-check_case-in-Split.ensures.notes,
          (
            IsLiteral-more c.split.new.terms w c.in_ok-cases-in-Split.cases.right c.check_case.ensures.keeps c.in_ok-cases-in-Split.ensures.stored.1,
            (script-more s w i.second more scripts.1, AreSaidOf-more more c.args.names.now c.requires.said),
          ),
        ),
      ),
    )

pub check_step-returns-in_err-check_case-in-Split-2-clause-exact : goal.check_step-returns-in_err-check_case-in-Split-2-clause-exact
check_step-returns-in_err-check_case-in-Split-2-clause-exact t c = λ rest.
    (let s = c.args.terms.now in
    let subs = stands_in s c.args.names.now in
    let u = c.split.new.terms in
    let w = c.check_case.new.terms in
    let xs = c.args.branch.now in
    let i = c.in-Split in
    let is = i.is ∙ sym (rolls-Split i.hyp i.name i.first i.second) in
    let scripts = split_scripts s c.args.step.now c.requires.step i.hyp i.name i.first i.second is in
    let p = c.in_ok-cases-in-Split.cases in
    let e = c.in_err-check_case-in-Split-2.field-0.0 in
    let q = err_from_is_err_and c.from_residual-in_err-check_case-in-Split-2.result c.from_residual-in_err-check_case-in-Split-2.ensures.1 in
    let more = Extends-trans c.split.ensures.keeps c.check_case.ensures.keeps in
    let exact = subst (λ (ys : List Said). Passes {A = Unit {0}} (Err e) (case_of subs w ys i.name p.right w i.second)) c.in_ok-check_case-in-Split.ensures.branch
    (subst (λ (g : ℕ → Tree). Passes {A = Unit {0}} (Err e) (case_of g w c.check_case.new.branch i.name p.right w i.second)) (stands_more more c.args.names.now c.requires.said) c.in_err-check_case-in-Split-2.ensures.exact) in
    step_err c.from_residual-in_err-check_case-in-Split-2.result e (fault_by subs (facts_in s xs) (then_of s c.args.step.now rest)) (fault_by subs (facts_in c.check_case-in-Split.new.terms c.check_case-in-Split.new.branch) rest) (after_by subs rest) (cc)
    (right_stops subs s xs c.args.step.now i.hyp i.name i.first i.second is rest u p (c.in_ok-cases-in-Split.ensures.leaves i.name) e
    (sym (case_is subs s u xs i.name p.left i.first c.split.ensures.keeps c.requires.branch scripts.0)
    ∙ subst (λ (g : ℕ → Tree). case_of g u xs i.name p.left u i.first ≡ None) (stands_more c.split.ensures.keeps c.args.names.now c.requires.said) c.in_ok-check_case-in-Split.ensures.exact)
    (refuses_as e (case_of subs s xs i.name p.right u i.second) (case_of subs w xs i.name p.right w i.second)
    (sym (case_later subs s u w xs i.name p.right i.second c.split.ensures.keeps c.check_case.ensures.keeps c.requires.branch scripts.1 c.in_ok-cases-in-Split.ensures.stored.1))
    (err_refuses (Unit {0}) e (case_of subs w xs i.name p.right w i.second) exact))))

pub check_step-returns-in_err-check_case-in-Split-2-clause-keeps : goal.check_step-returns-in_err-check_case-in-Split-2-clause-keeps
check_step-returns-in_err-check_case-in-Split-2-clause-keeps t c = Extends-trans c.split.ensures.keeps (Extends-trans c.check_case.ensures.keeps c.check_case-in-Split.ensures.keeps)

pub check_step-returns-in-Split-clause-exact : goal.check_step-returns-in-Split-clause-exact
check_step-returns-in-Split-clause-exact t c = λ rest.
    (let s = c.args.terms.now in
    let subs = stands_in s c.args.names.now in
    let u = c.split.new.terms in
    let w = c.check_case.new.terms in
    let xs = c.args.branch.now in
    let i = c.in-Split in
    let is = i.is ∙ sym (rolls-Split i.hyp i.name i.first i.second) in
    let scripts = split_scripts s c.args.step.now c.requires.step i.hyp i.name i.first i.second is in
    let p = c.in_ok-cases-in-Split.cases in
    let more = Extends-trans c.split.ensures.keeps c.check_case.ensures.keeps in
    let exact = subst (λ (ys : List Said). case_of subs w ys i.name p.right w i.second ≡ None) c.in_ok-check_case-in-Split.ensures.branch
    (subst (λ (g : ℕ → Tree). case_of g w c.check_case.new.branch i.name p.right w i.second ≡ None) (stands_more more c.args.names.now c.requires.said) c.in_ok-check_case-in-Split-2.ensures.exact) in
    split_closes subs s xs c.args.step.now i.hyp i.name i.first i.second is rest u p (c.in_ok-cases-in-Split.ensures.leaves i.name)
    (sym (case_is subs s u xs i.name p.left i.first c.split.ensures.keeps c.requires.branch scripts.0)
    ∙ subst (λ (g : ℕ → Tree). case_of g u xs i.name p.left u i.first ≡ None) (stands_more c.split.ensures.keeps c.args.names.now c.requires.said) c.in_ok-check_case-in-Split.ensures.exact)
    (sym (case_later subs s u w xs i.name p.right i.second c.split.ensures.keeps c.check_case.ensures.keeps c.requires.branch scripts.1 c.in_ok-cases-in-Split.ensures.stored.1) ∙ exact))

pub check_step-returns-in-Split-clause-said : goal.check_step-returns-in-Split-clause-said
check_step-returns-in-Split-clause-said t c =
    let more = Extends-trans c.split.ensures.keeps (Extends-trans c.check_case.ensures.keeps c.check_case-in-Split.ensures.keeps) in
    subst (AreSaid c.check_case-in-Split.new.terms) (sym (c.in_ok-check_case-in-Split-2.ensures.branch ∙ c.in_ok-check_case-in-Split.ensures.branch))
    (AreSaid-more c.args.terms.now c.check_case-in-Split.new.terms c.args.branch.now more c.requires.branch)

pub check_step-returns-in-Split-clause-keeps : goal.check_step-returns-in-Split-clause-keeps
check_step-returns-in-Split-clause-keeps t c = Extends-trans c.split.ensures.keeps (Extends-trans c.check_case.ensures.keeps c.check_case-in-Split.ensures.keeps)

pub check_step-cut-requires-clause-form : goal.check_step-cut-requires-clause-form
check_step-cut-requires-clause-form t c =
    let i = c.in-Cut in
    cut_id c.args.terms.now c.args.step.now c.requires.step i.form i.name i.block (i.is ∙ sym (rolls-Cut i.form i.name i.block))

pub check_step-returns-in_err-cases-in-Cut-clause-exact : goal.check_step-returns-in_err-cases-in-Cut-clause-exact
check_step-returns-in_err-cases-in-Cut-clause-exact t c = λ rest.
    (let s = c.args.terms.now in
    let subs = stands_in s c.args.names.now in
    let xs = c.args.branch.now in
    let i = c.in-Cut in
    let e = c.in_err-cases-in-Cut.field-0.0 in
    let q = err_from_is_err_and c.from_residual-in_err-cases-in-Cut.result c.from_residual-in_err-cases-in-Cut.ensures.1 in
    step_err c.from_residual-in_err-cases-in-Cut.result e (fault_by subs (facts_in s xs) (then_of s c.args.step.now rest)) (fault_by subs (facts_in c.cut.new.terms xs) rest) (after_by subs rest) (cc)
    (cut_stops subs s xs c.args.step.now i.form i.name i.block (i.is ∙ sym (rolls-Cut i.form i.name i.block)) rest e (c.in_err-cases-in-Cut.ensures.leaves i.name)))

pub check_step-check_case-requires-in-Cut : goal.check_step-check_case-requires-in-Cut
check_step-check_case-requires-in-Cut t c =
    let s = c.args.terms.now in
    let u = c.cut.new.terms in
    let more = c.cut.ensures.keeps in
    let i = c.in-Cut in (
      search (rules, kind.the_lemmas, step.the_lemmas, block.the_lemmas),
      (
        AreSaid-more s u c.args.branch.now more c.requires.branch,
        (
          notes_grow s u c.args.branch.now c.args.branch.now c.args.notes.now more c.requires.branch (Begins-refl c.args.branch.now) c.requires.notes,
          (
            c.in_ok-cases-in-Cut.ensures.stored.0,
            (script-more s u i.block more (cut_script s c.args.step.now c.requires.step i.form i.name i.block (i.is ∙ sym (rolls-Cut i.form i.name i.block))), AreSaidOf-more more c.args.names.now c.requires.said),
          ),
        ),
      ),
    )

pub check_step-returns-in_err-check_case-in-Cut-clause-exact : goal.check_step-returns-in_err-check_case-in-Cut-clause-exact
check_step-returns-in_err-check_case-in-Cut-clause-exact t c = λ rest.
    (let s = c.args.terms.now in
    let subs = stands_in s c.args.names.now in
    let u = c.cut.new.terms in
    let xs = c.args.branch.now in
    let i = c.in-Cut in
    let is = i.is ∙ sym (rolls-Cut i.form i.name i.block) in
    let script = cut_script s c.args.step.now c.requires.step i.form i.name i.block is in
    let p = c.in_ok-cases-in-Cut.cases in
    let e = c.in_err-check_case-in-Cut.field-0.0 in
    let q = err_from_is_err_and c.from_residual-in_err-check_case-in-Cut.result c.from_residual-in_err-check_case-in-Cut.ensures.1 in
    step_err c.from_residual-in_err-check_case-in-Cut.result e (fault_by subs (facts_in s xs) (then_of s c.args.step.now rest))
    (fault_by subs (facts_in c.check_case-in-Cut.new.terms c.check_case-in-Cut.new.branch) rest) (after_by subs rest) (cc)
    (block_stops subs s xs c.args.step.now i.form i.name i.block is rest u p (c.in_ok-cases-in-Cut.ensures.leaves i.name) e
    (refuses_as e (case_of subs s xs i.name p.left u i.block) (case_of subs u xs i.name p.left u i.block) (sym (case_is subs s u xs i.name p.left i.block c.cut.ensures.keeps c.requires.branch script))
    (err_refuses (Unit {0}) e (case_of subs u xs i.name p.left u i.block)
    (subst (λ (g : ℕ → Tree). Passes {A = Unit {0}} (Err e) (case_of g u xs i.name p.left u i.block)) (stands_more c.cut.ensures.keeps c.args.names.now c.requires.said) c.in_err-check_case-in-Cut.ensures.exact)))))

pub check_step-returns-in_err-check_case-in-Cut-clause-keeps : goal.check_step-returns-in_err-check_case-in-Cut-clause-keeps
check_step-returns-in_err-check_case-in-Cut-clause-keeps t c = Extends-trans c.cut.ensures.keeps c.check_case-in-Cut.ensures.keeps

pub check_step-returns-in_ok-push-in-Cut-clause-exact : goal.check_step-returns-in_ok-push-in-Cut-clause-exact
check_step-returns-in_ok-push-in-Cut-clause-exact t c = λ rest.
    (let s = c.args.terms.now in
    let subs = stands_in s c.args.names.now in
    let u = c.cut.new.terms in
    let xs = c.args.branch.now in
    let i = c.in-Cut in
    let is = i.is ∙ sym (rolls-Cut i.form i.name i.block) in
    let script = cut_script s c.args.step.now c.requires.step i.form i.name i.block is in
    let p = c.in_ok-cases-in-Cut.cases in
    let w = c.check_case-in-Cut.new.terms in
    let new = c.in_ok-push-in-Cut.ensures.ok ∙ ap (λ (ys : List Said). ys ++ c.said.result ∷ []) c.in_ok-check_case-in-Cut.ensures.branch in
    let passed = sym (case_is subs s u xs i.name p.left i.block c.cut.ensures.keeps c.requires.branch script)
    ∙ subst (λ (g : ℕ → Tree). case_of g u xs i.name p.left u i.block ≡ None) (stands_more c.cut.ensures.keeps c.args.names.now c.requires.said) c.in_ok-check_case-in-Cut.ensures.exact in
    cut_goes subs s xs c.args.step.now i.form i.name i.block is rest u p (c.in_ok-cases-in-Cut.ensures.leaves i.name) w c.push.new.self c.said.result c.cut.ensures.keeps c.check_case-in-Cut.ensures.keeps c.requires.branch
    c.in_ok-cases-in-Cut.ensures.stored.1 passed new c.said.ensures.fact)

pub check_step-returns-in_ok-push-in-Cut-clause-said : goal.check_step-returns-in_ok-push-in-Cut-clause-said
check_step-returns-in_ok-push-in-Cut-clause-said t c =
    let w = c.check_case-in-Cut.new.terms in
    let more = Extends-trans c.cut.ensures.keeps c.check_case-in-Cut.ensures.keeps in
    add_said w c.check_case-in-Cut.new.branch c.push.new.self c.said.result
    (subst (AreSaid w) (sym c.in_ok-check_case-in-Cut.ensures.branch) (AreSaid-more c.args.terms.now w c.args.branch.now more c.requires.branch)) c.said.ensures.said c.in_ok-push-in-Cut.ensures.ok

pub check_step-returns-in_ok-inst-in-Inst-clause-notes : goal.check_step-returns-in_ok-inst-in-Inst-clause-notes
check_step-returns-in_ok-inst-in-Inst-clause-notes t c =
    notes_grow c.args.terms.now c.inst.new.terms c.args.branch.now c.inst.new.branch c.args.notes.now c.inst.ensures.keeps c.requires.branch c.in_ok-inst-in-Inst.ensures.begins c.requires.notes

pub check_step-learn-requires-clause-fact : goal.check_step-learn-requires-clause-fact
check_step-learn-requires-clause-fact t c =
    let i = c.in-Read in
    read_ids c.args.terms.now c.args.step.now c.requires.step i.map i.key i.name (i.is ∙ sym (rolls-Read i.map i.key i.name))

pub check_step-returns-in_err-learn-in-Read-clause-exact : goal.check_step-returns-in_err-learn-in-Read-clause-exact
check_step-returns-in_err-learn-in-Read-clause-exact t c = λ rest.
    (let s = c.args.terms.now in
    let subs = stands_in s c.args.names.now in
    let xs = c.args.branch.now in
    let i = c.in-Read in
    let f = map_form (tree_read s c.args.names.now) (fact.Read i.map i.key) in
    let e = c.in_err-learn-in-Read.field-0.0 in
    let q = err_from_is_err_and c.from_residual-in_err-learn-in-Read.result c.from_residual-in_err-learn-in-Read.ensures.1 in
    step_err c.from_residual-in_err-learn-in-Read.result e (fault_by subs (facts_in s xs) (then_of s c.args.step.now rest))
    (fault_by subs (facts_in c.learn.new.terms c.learn.new.branch) rest) (after_by subs rest) (cc)
    (fact_stops subs s xs c.args.step.now (StepKind-F.Read i.map i.key i.name) rest (fitting (with_fact (facts_in s xs) i.name f)) e
    (i.is ∙ sym (rolls-Read i.map i.key i.name)) refl c.in_err-learn-in-Read.ensures.leaves))

pub check_step-returns-in_ok-learn-in-Read-clause-notes : goal.check_step-returns-in_ok-learn-in-Read-clause-notes
check_step-returns-in_ok-learn-in-Read-clause-notes t c =
    notes_grow c.args.terms.now c.learn.new.terms c.args.branch.now c.learn.new.branch c.args.notes.now
    c.learn.ensures.keeps c.requires.branch c.in_ok-learn-in-Read.ensures.begins c.requires.notes

pub check_step-learn-requires-in-Size-clause-fact : goal.check_step-learn-requires-in-Size-clause-fact
check_step-learn-requires-in-Size-clause-fact t c =
    let i = c.in-Size in
    size_ids c.args.terms.now c.args.step.now c.requires.step i.map i.key i.name (i.is ∙ sym (rolls-Size i.map i.key i.name))

pub check_step-returns-in_err-learn-in-Size-clause-exact : goal.check_step-returns-in_err-learn-in-Size-clause-exact
check_step-returns-in_err-learn-in-Size-clause-exact t c = λ rest.
    (let s = c.args.terms.now in
    let subs = stands_in s c.args.names.now in
    let xs = c.args.branch.now in
    let i = c.in-Size in
    let f = map_form (tree_read s c.args.names.now) (fact.Size i.map i.key) in
    let e = c.in_err-learn-in-Size.field-0.0 in
    let q = err_from_is_err_and c.from_residual-in_err-learn-in-Size.result c.from_residual-in_err-learn-in-Size.ensures.1 in
    step_err c.from_residual-in_err-learn-in-Size.result e (fault_by subs (facts_in s xs) (then_of s c.args.step.now rest))
    (fault_by subs (facts_in c.learn-in-Size.new.terms c.learn-in-Size.new.branch) rest) (after_by subs rest) (cc)
    (fact_stops subs s xs c.args.step.now (StepKind-F.Size i.map i.key i.name) rest (fitting (with_fact (facts_in s xs) i.name f)) e
    (i.is ∙ sym (rolls-Size i.map i.key i.name)) refl c.in_err-learn-in-Size.ensures.leaves))

pub check_step-returns-in_ok-learn-in-Size-clause-notes : goal.check_step-returns-in_ok-learn-in-Size-clause-notes
check_step-returns-in_ok-learn-in-Size-clause-notes t c =
    notes_grow c.args.terms.now c.learn-in-Size.new.terms c.args.branch.now c.learn-in-Size.new.branch c.args.notes.now
    c.learn-in-Size.ensures.keeps c.requires.branch c.in_ok-learn-in-Size.ensures.begins c.requires.notes

pub check_step-learn-requires-in-Total-clause-fact : goal.check_step-learn-requires-in-Total-clause-fact
check_step-learn-requires-in-Total-clause-fact t c =
    let i = c.in-Total in
    total_ids c.args.terms.now c.args.step.now c.requires.step i.map i.key i.name (i.is ∙ sym (rolls-Total i.map i.key i.name))

pub check_step-returns-in_err-learn-in-Total-clause-exact : goal.check_step-returns-in_err-learn-in-Total-clause-exact
check_step-returns-in_err-learn-in-Total-clause-exact t c = λ rest.
    (let s = c.args.terms.now in
    let subs = stands_in s c.args.names.now in
    let xs = c.args.branch.now in
    let i = c.in-Total in
    let f = map_form (tree_read s c.args.names.now) (fact.Total i.map i.key) in
    let e = c.in_err-learn-in-Total.field-0.0 in
    let q = err_from_is_err_and c.from_residual-in_err-learn-in-Total.result c.from_residual-in_err-learn-in-Total.ensures.1 in
    step_err c.from_residual-in_err-learn-in-Total.result e (fault_by subs (facts_in s xs) (then_of s c.args.step.now rest))
    (fault_by subs (facts_in c.learn-in-Total.new.terms c.learn-in-Total.new.branch) rest) (after_by subs rest) (cc)
    (fact_stops subs s xs c.args.step.now (StepKind-F.Total i.map i.key i.name) rest (fitting (with_fact (facts_in s xs) i.name f)) e
    (i.is ∙ sym (rolls-Total i.map i.key i.name)) refl c.in_err-learn-in-Total.ensures.leaves))

pub check_step-returns-in_ok-learn-in-Total-clause-notes : goal.check_step-returns-in_ok-learn-in-Total-clause-notes
check_step-returns-in_ok-learn-in-Total-clause-notes t c =
    notes_grow c.args.terms.now c.learn-in-Total.new.terms c.args.branch.now c.learn-in-Total.new.branch c.args.notes.now
    c.learn-in-Total.ensures.keeps c.requires.branch c.in_ok-learn-in-Total.ensures.begins c.requires.notes

pub check_step-learn-requires-in-Cong-clause-fact : goal.check_step-learn-requires-in-Cong-clause-fact
check_step-learn-requires-in-Cong-clause-fact t c =
    let i = c.in-Cong in
    cong_ids c.args.terms.now c.args.step.now c.requires.step i.map i.left i.right i.name (i.is ∙ sym (rolls-Cong i.map i.left i.right i.name))

pub check_step-returns-in_err-learn-in-Cong-clause-exact : goal.check_step-returns-in_err-learn-in-Cong-clause-exact
check_step-returns-in_err-learn-in-Cong-clause-exact t c = λ rest.
    (let s = c.args.terms.now in
    let subs = stands_in s c.args.names.now in
    let xs = c.args.branch.now in
    let i = c.in-Cong in
    let f = map_form (tree_read s c.args.names.now) (fact.Cong i.map i.left i.right) in
    let e = c.in_err-learn-in-Cong.field-0.0 in
    let q = err_from_is_err_and c.from_residual-in_err-learn-in-Cong.result c.from_residual-in_err-learn-in-Cong.ensures.1 in
    step_err c.from_residual-in_err-learn-in-Cong.result e (fault_by subs (facts_in s xs) (then_of s c.args.step.now rest))
    (fault_by subs (facts_in c.learn-in-Cong.new.terms c.learn-in-Cong.new.branch) rest) (after_by subs rest) (cc)
    (fact_stops subs s xs c.args.step.now (StepKind-F.Cong i.map i.left i.right i.name) rest (fitting (with_fact (facts_in s xs) i.name f)) e
    (i.is ∙ sym (rolls-Cong i.map i.left i.right i.name)) refl c.in_err-learn-in-Cong.ensures.leaves))

pub check_step-returns-in_ok-learn-in-Cong-clause-notes : goal.check_step-returns-in_ok-learn-in-Cong-clause-notes
check_step-returns-in_ok-learn-in-Cong-clause-notes t c =
    notes_grow c.args.terms.now c.learn-in-Cong.new.terms c.args.branch.now c.learn-in-Cong.new.branch c.args.notes.now
    c.learn-in-Cong.ensures.keeps c.requires.branch c.in_ok-learn-in-Cong.ensures.begins c.requires.notes

pub check_step-returns-in_err-inst-in-Inst-clause-exact : goal.check_step-returns-in_err-inst-in-Inst-clause-exact
check_step-returns-in_err-inst-in-Inst-clause-exact t c = λ rest.
    (let s = c.args.terms.now in
    let k = c.args.names.now in
    let subs = stands_in s k in
    let xs = c.args.branch.now in
    let i = c.in-Inst in
    let e = c.in_err-inst-in-Inst.field-0.0 in
    let q = err_from_is_err_and c.from_residual-in_err-inst-in-Inst.result c.from_residual-in_err-inst-in-Inst.ensures.1 in
    let wanted : List TermId → Result (List Fact) Rule = λ ids. with_instance (facts_in s xs) i.hyp (trees_read s k ids) i.name in
    step_err c.from_residual-in_err-inst-in-Inst.result e (fault_by subs (facts_in s xs) (then_of s c.args.step.now rest))
    (fault_by subs (facts_in c.inst.new.terms c.inst.new.branch) rest) (after_by subs rest) (cc)
    (fact_stops subs s xs c.args.step.now (StepKind-F.Inst i.hyp i.list i.name) rest (wanted i.list) e
    (i.is ∙ sym (rolls-Inst i.hyp i.list i.name)) (inst_reads s k (facts_in s xs) (line_of c.args.step.now) i.hyp i.list i.name rest)
    (subst (λ (ids : List TermId). StopsFor (line_of c.args.step.now) e (wanted ids)) c.as_slice.ensures c.in_err-inst-in-Inst.ensures.leaves)))

pub check_step-returns-in_ok-inst-in-Inst-clause-exact : goal.check_step-returns-in_ok-inst-in-Inst-clause-exact
check_step-returns-in_ok-inst-in-Inst-clause-exact t c = λ rest.
    (let s = c.args.terms.now in
    let k = c.args.names.now in
    let subs = stands_in s k in
    let xs = c.args.branch.now in
    let i = c.in-Inst in
    let wanted : List TermId → Result (List Fact) Rule = λ ids. with_instance (facts_in s xs) i.hyp (trees_read s k ids) i.name in
    fact_goes subs s c.inst.new.terms xs c.inst.new.branch c.args.step.now (StepKind-F.Inst i.hyp i.list i.name) rest (wanted i.list)
    (i.is ∙ sym (rolls-Inst i.hyp i.list i.name)) (inst_reads s k (facts_in s xs) (line_of c.args.step.now) i.hyp i.list i.name rest)
    (subst (λ (ids : List TermId). Leaves {A = Unit {0}} (line_of c.args.step.now) (Ok tt) (λ _ known. facts_in c.inst.new.terms c.inst.new.branch ≡ known) (wanted ids)) c.as_slice.ensures
    c.in_ok-inst-in-Inst.ensures.leaves))

pub check_step-said-requires : goal.check_step-said-requires
check_step-said-requires t c = IsLiteral-more c.cut.new.terms c.check_case-in-Cut.new.terms c.in_ok-cases-in-Cut.cases.right c.check_case-in-Cut.ensures.keeps c.in_ok-cases-in-Cut.ensures.stored.1

pub check_step-returns-in_err-push-in-Cut-clause-keeps : goal.check_step-returns-in_err-push-in-Cut-clause-keeps
check_step-returns-in_err-push-in-Cut-clause-keeps t c = Extends-trans c.cut.ensures.keeps c.check_case-in-Cut.ensures.keeps

pub check_step-returns-in_ok-push-in-Cut-clause-keeps : goal.check_step-returns-in_ok-push-in-Cut-clause-keeps
check_step-returns-in_ok-push-in-Cut-clause-keeps t c = Extends-trans c.cut.ensures.keeps c.check_case-in-Cut.ensures.keeps
