use Rattle.std.proofs.Common.{rules, Bool, ◌&&◌, List, map, sym, ap, ◌∙◌, subst}
use Rattle.std.specs.List.{list_all, All}
use Rattle.sync_kernel.proofs.Checking.{drop_item, item_of}
use Rattle.sync_kernel.proofs.Scripting.{cong_ids, cut_id, cut_script, inst_ids, read_ids, size_ids, split_scripts, total_ids}
use Rattle.sync_rules.specs.Locality.{names_only}
use Rattle.sync_terms.specs.declared.nodes.TermId.{TermId}
use Rattle.sync_terms.specs.declared.scripts.Block as block
use Rattle.sync_terms.specs.declared.scripts.ScriptStep as step
use Rattle.sync_terms.specs.declared.scripts.StepKind as kind
use Rattle.sync_terms.specs.declared.scripts.StepKind.TheOpen.{StepKind-F}
use Rattle.sync_terms.specs.declared.scripts.StepKind.TheVariants.{rolls-Cong, rolls-Cut, rolls-Inst, rolls-Parts, rolls-Read, rolls-Same, rolls-Size, rolls-Split, rolls-Sum, rolls-Total}
use Rattle.sync_terms.specs.Plans.{plan_of}
use Rattle.sync_terms.specs.Stored.{tree, IsTerm}
use Rattle.sync_typing.specs.Symbols.{plan_names_only}
use Rattle.sync_typing_places.specs.Hands.{is_at_hand_in}
use Rattle.sync_typing_places.proofs.Scripting.{block_begun, block_ended, block_stopped, block_went_on, all_three, all_two, step_names, three_then, two_then}
use Rattle.sync_typing_places.proofs.naming.+blocks_at_hand.Goals as goal

pub block_at_hand-step_at_hand-requires : goal.block_at_hand-step_at_hand-requires
block_at_hand-step_at_hand-requires t c = (
  search (rules, kind.the_lemmas, step.the_lemmas, block.the_lemmas),
  item_of c.args.terms.now c.args.block.now c.as_slice-step-items.result.now c.loop-step.step-index c.step-item.result c.requires.script c.as_slice-step-items.ensures c.step-item.is c.loop-step-test.true,
)

pub block_at_hand-returns-then-not-step_at_hand : goal.block_at_hand-returns-then-not-step_at_hand
block_at_hand-returns-then-not-step_at_hand t c =
    let e = drop_item c.as_slice-step-items.result.now _ c.loop-step.step-index c.step-item.result c.as_slice-step-items.ensures c.step-item.is c.loop-step-test.true in
    block_stopped (is_at_hand_in c.args.names.now) c.args.terms.now c.args.block.now c.loop-step.step-index c.loop-step.invariant c.step-item.result
    c.step_at_hand.result e c.step_at_hand.ensures c.if-not-step_at_hand.true

pub block_at_hand-loop-step-preserved : goal.block_at_hand-loop-step-preserved
block_at_hand-loop-step-preserved t c =
    let e = drop_item c.as_slice-step-items.result.now _ c.loop-step.step-index c.step-item.result c.as_slice-step-items.ensures c.step-item.is c.loop-step-test.true in
    block_went_on (is_at_hand_in c.args.names.now) c.args.terms.now c.args.block.now c.loop-step.step-index c.loop-step.invariant c.step-item.result
    c.step_at_hand.result e c.step_at_hand.ensures c.if-not-step_at_hand.false

pub block_at_hand-loop-step-init : goal.block_at_hand-loop-step-init
block_at_hand-loop-step-init t c = block_begun (is_at_hand_in c.args.names.now) c.args.terms.now c.args.block.now

pub block_at_hand-returns : goal.block_at_hand-returns
block_at_hand-returns t c =
    block_ended (is_at_hand_in c.args.names.now) c.args.terms.now c.args.block.now c.loop-step.step-index c.loop-step.invariant
    c.as_slice-step-items.result.now c.as_slice-step-items.ensures c.loop-step-test.false

pub step_at_hand-block_at_hand-requires : goal.step_at_hand-block_at_hand-requires
step_at_hand-block_at_hand-requires t c =
    let i = c.in-Split in (
      search (rules, kind.the_lemmas, step.the_lemmas, block.the_lemmas),
      (split_scripts c.args.terms.now c.args.step.now c.requires.step i.field-0 i.field-1 i.one i.two (i.is ∙ sym (rolls-Split i.field-0 i.field-1 i.one i.two))).0,
    )

pub step_at_hand-returns-in-Inst : goal.step_at_hand-returns-in-Inst
step_at_hand-returns-in-Inst t c = λ rest.
    (let s = c.args.terms.now in
    let p = is_at_hand_in c.args.names.now in
    let i = c.in-Inst in
    step_names p s c.args.step.now (StepKind-F.Inst i.field-0 i.list i.field-2) rest (i.is ∙ sym (rolls-Inst i.field-0 i.list i.field-2))
    ∙ ap (λ (b : Bool). b && plan_names_only p rest)
    (sym (c.terms_at_hand.ensures ∙ ap (λ (ids : List TermId). list_all (names_only p) (map (tree s) ids)) c.as_slice.ensures)))

pub step_at_hand-terms_at_hand-requires : goal.step_at_hand-terms_at_hand-requires
step_at_hand-terms_at_hand-requires t c =
    let i = c.in-Inst in
    subst (All (IsTerm c.args.terms.now)) (sym c.as_slice.ensures)
    (inst_ids c.args.terms.now c.args.step.now c.requires.step i.field-0 i.list i.field-2 (i.is ∙ sym (rolls-Inst i.field-0 i.list i.field-2)))

pub step_at_hand-block_at_hand-requires-then-block_at_hand : goal.step_at_hand-block_at_hand-requires-then-block_at_hand
step_at_hand-block_at_hand-requires-then-block_at_hand t c =
    let i = c.in-Split in (
      search (rules, kind.the_lemmas, step.the_lemmas, block.the_lemmas),
      (split_scripts c.args.terms.now c.args.step.now c.requires.step i.field-0 i.field-1 i.one i.two (i.is ∙ sym (rolls-Split i.field-0 i.field-1 i.one i.two))).1,
    )

pub step_at_hand-form_at_hand-requires : goal.step_at_hand-form_at_hand-requires
step_at_hand-form_at_hand-requires t c =
    let i = c.in-Cut in
    cut_id c.args.terms.now c.args.step.now c.requires.step i.form i.field-1 i.block (i.is ∙ sym (rolls-Cut i.form i.field-1 i.block))

pub step_at_hand-block_at_hand-requires-then-form_at_hand : goal.step_at_hand-block_at_hand-requires-then-form_at_hand
step_at_hand-block_at_hand-requires-then-form_at_hand t c =
    let i = c.in-Cut in (
      search (rules, kind.the_lemmas, step.the_lemmas, block.the_lemmas),
      cut_script c.args.terms.now c.args.step.now c.requires.step i.form i.field-1 i.block (i.is ∙ sym (rolls-Cut i.form i.field-1 i.block)),
    )

pub step_at_hand-terms_at_hand-requires-in-Cong : goal.step_at_hand-terms_at_hand-requires-in-Cong
step_at_hand-terms_at_hand-requires-in-Cong t c =
    let i = c.in-Cong in
    let ids = cong_ids c.args.terms.now c.args.step.now c.requires.step i.a i.b i.c i.field-3 (i.is ∙ sym (rolls-Cong i.a i.b i.c i.field-3)) in
    all_three (IsTerm c.args.terms.now) i.a i.b i.c ids.0 ids.1 ids.2

pub step_at_hand-returns-in-Cong : goal.step_at_hand-returns-in-Cong
step_at_hand-returns-in-Cong t c = λ rest.
    (let s = c.args.terms.now in
    let p = is_at_hand_in c.args.names.now in
    let i = c.in-Cong in
    step_names p s c.args.step.now (StepKind-F.Cong i.a i.b i.c i.field-3) rest (i.is ∙ sym (rolls-Cong i.a i.b i.c i.field-3))
    ∙ three_then _ (names_only p (tree s i.a)) (names_only p (tree s i.b)) (names_only p (tree s i.c)) (plan_names_only p rest) c.terms_at_hand-in-Cong.ensures)

pub step_at_hand-terms_at_hand-requires-in-Read : goal.step_at_hand-terms_at_hand-requires-in-Read
step_at_hand-terms_at_hand-requires-in-Read t c =
    let i = c.in-Read in
    let ids = read_ids c.args.terms.now c.args.step.now c.requires.step i.a i.b i.field-2 (i.is ∙ sym (rolls-Read i.a i.b i.field-2)) in
    all_two (IsTerm c.args.terms.now) i.a i.b ids.0 ids.1

pub step_at_hand-returns-in-Read : goal.step_at_hand-returns-in-Read
step_at_hand-returns-in-Read t c = λ rest.
    (let s = c.args.terms.now in
    let p = is_at_hand_in c.args.names.now in
    let i = c.in-Read in
    step_names p s c.args.step.now (StepKind-F.Read i.a i.b i.field-2) rest (i.is ∙ sym (rolls-Read i.a i.b i.field-2))
    ∙ two_then _ (names_only p (tree s i.a)) (names_only p (tree s i.b)) (plan_names_only p rest) c.terms_at_hand-in-Read.ensures)

pub step_at_hand-terms_at_hand-requires-in-Size : goal.step_at_hand-terms_at_hand-requires-in-Size
step_at_hand-terms_at_hand-requires-in-Size t c =
    let i = c.in-Size in
    let ids = size_ids c.args.terms.now c.args.step.now c.requires.step i.a i.b i.field-2 (i.is ∙ sym (rolls-Size i.a i.b i.field-2)) in
    all_two (IsTerm c.args.terms.now) i.a i.b ids.0 ids.1

pub step_at_hand-returns-in-Size : goal.step_at_hand-returns-in-Size
step_at_hand-returns-in-Size t c = λ rest.
    (let s = c.args.terms.now in
    let p = is_at_hand_in c.args.names.now in
    let i = c.in-Size in
    step_names p s c.args.step.now (StepKind-F.Size i.a i.b i.field-2) rest (i.is ∙ sym (rolls-Size i.a i.b i.field-2))
    ∙ two_then _ (names_only p (tree s i.a)) (names_only p (tree s i.b)) (plan_names_only p rest) c.terms_at_hand-in-Size.ensures)

pub step_at_hand-terms_at_hand-requires-in-Total : goal.step_at_hand-terms_at_hand-requires-in-Total
step_at_hand-terms_at_hand-requires-in-Total t c =
    let i = c.in-Total in
    let ids = total_ids c.args.terms.now c.args.step.now c.requires.step i.a i.b i.field-2 (i.is ∙ sym (rolls-Total i.a i.b i.field-2)) in
    all_two (IsTerm c.args.terms.now) i.a i.b ids.0 ids.1

pub step_at_hand-returns-in-Total : goal.step_at_hand-returns-in-Total
step_at_hand-returns-in-Total t c = λ rest.
    (let s = c.args.terms.now in
    let p = is_at_hand_in c.args.names.now in
    let i = c.in-Total in
    step_names p s c.args.step.now (StepKind-F.Total i.a i.b i.field-2) rest (i.is ∙ sym (rolls-Total i.a i.b i.field-2))
    ∙ two_then _ (names_only p (tree s i.a)) (names_only p (tree s i.b)) (plan_names_only p rest) c.terms_at_hand-in-Total.ensures)

pub step_at_hand-returns-in-Same : goal.step_at_hand-returns-in-Same
step_at_hand-returns-in-Same t c = λ rest.
    (let i = c.in-Same in
    step_names (is_at_hand_in c.args.names.now) c.args.terms.now c.args.step.now StepKind-F.Same rest (i.is ∙ sym rolls-Same))

pub step_at_hand-returns-in-Sum : goal.step_at_hand-returns-in-Sum
step_at_hand-returns-in-Sum t c = λ rest.
    (let i = c.in-Sum in
    step_names (is_at_hand_in c.args.names.now) c.args.terms.now c.args.step.now (StepKind-F.Sum i.field-0) rest (i.is ∙ sym (rolls-Sum i.field-0)))

pub step_at_hand-returns-in-Parts : goal.step_at_hand-returns-in-Parts
step_at_hand-returns-in-Parts t c = λ rest.
    (let i = c.in-Parts in
    step_names (is_at_hand_in c.args.names.now) c.args.terms.now c.args.step.now (StepKind-F.Parts i.field-0 i.field-1 i.field-2) rest (i.is ∙ sym (rolls-Parts i.field-0 i.field-1 i.field-2)))

pub step_at_hand-returns-then-form_at_hand : goal.step_at_hand-returns-then-form_at_hand
step_at_hand-returns-then-form_at_hand t c = λ rest.
    (let s = c.args.terms.now in
    let p = is_at_hand_in c.args.names.now in
    let i = c.in-Cut in
    step_names p s c.args.step.now (StepKind-F.Cut i.form i.field-1 i.block) rest (i.is ∙ sym (rolls-Cut i.form i.field-1 i.block))
    ∙ ap (λ (b : Bool). b && (plan_names_only p (plan_of s i.block) && plan_names_only p rest)) (sym c.form_at_hand.ensures ∙ c.if-form_at_hand.true)
    ∙ ap (λ (b : Bool). b && plan_names_only p rest) (sym c.block_at_hand-then-form_at_hand.ensures))

pub step_at_hand-returns-else-form_at_hand : goal.step_at_hand-returns-else-form_at_hand
step_at_hand-returns-else-form_at_hand t c = λ rest.
    (let s = c.args.terms.now in
    let p = is_at_hand_in c.args.names.now in
    let i = c.in-Cut in
    step_names p s c.args.step.now (StepKind-F.Cut i.form i.field-1 i.block) rest (i.is ∙ sym (rolls-Cut i.form i.field-1 i.block))
    ∙ ap (λ (b : Bool). b && (plan_names_only p (plan_of s i.block) && plan_names_only p rest)) (sym c.form_at_hand.ensures ∙ c.if-form_at_hand.false)
    ∙ sym (ap (λ (b : Bool). b && plan_names_only p rest) c.if-form_at_hand.false))

pub step_at_hand-returns-then-block_at_hand : goal.step_at_hand-returns-then-block_at_hand
step_at_hand-returns-then-block_at_hand t c = λ rest.
    (let s = c.args.terms.now in
    let p = is_at_hand_in c.args.names.now in
    let i = c.in-Split in
    step_names p s c.args.step.now (StepKind-F.Split i.field-0 i.field-1 i.one i.two) rest (i.is ∙ sym (rolls-Split i.field-0 i.field-1 i.one i.two))
    ∙ ap (λ (b : Bool). b && (plan_names_only p (plan_of s i.two) && plan_names_only p rest)) (sym c.block_at_hand.ensures ∙ c.if-block_at_hand.true)
    ∙ ap (λ (b : Bool). b && plan_names_only p rest) (sym c.block_at_hand-then-block_at_hand.ensures))

pub step_at_hand-returns-else-block_at_hand : goal.step_at_hand-returns-else-block_at_hand
step_at_hand-returns-else-block_at_hand t c = λ rest.
    (let s = c.args.terms.now in
    let p = is_at_hand_in c.args.names.now in
    let i = c.in-Split in
    step_names p s c.args.step.now (StepKind-F.Split i.field-0 i.field-1 i.one i.two) rest (i.is ∙ sym (rolls-Split i.field-0 i.field-1 i.one i.two))
    ∙ ap (λ (b : Bool). b && (plan_names_only p (plan_of s i.two) && plan_names_only p rest)) (sym c.block_at_hand.ensures ∙ c.if-block_at_hand.false)
    ∙ sym (ap (λ (b : Bool). b && plan_names_only p rest) c.if-block_at_hand.false))
